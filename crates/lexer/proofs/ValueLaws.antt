-- References and values: the place that an answer names is inside the scene, and an answer other than `Cut` stays when more bytes come.
--     reference_inside, value_inside        which places an answer names
--     reference_stable, value_stable        more bytes
use Rattle.std.specs.Prelude.{Ok, Err}
use Prim.Native.Nat.{ℕ, ◌+◌, ◌-◌, ◌≤◌, ◌<◌}
use mathlib.Core.Path.{◌≡◌, refl, sym, ap, ◌∙◌}
use mathlib.Core.List.{List, [], ◌∷◌, ◌++◌, append_assoc}
use mathlib.Core.Bool.{true, ◌&&◌}
use mathlib.Core.Logic.{⊎_elim}
use native.Mathlib.Omega.{arith}
use borrow.Author.Tests.{eqb-true, leb-true, leb-false, ltb-true, ltb-false, lt-leb}
use lib.ListN.{length, drop, get_or, length-drop, length-append, get_or-append}
use lib.Seq.{drop-append-le}
use lib.Dec.{leb, ltb, eqb}
use Rattle.laws.specs.Reading.{RunNext, go, stop, Stable, stable_same, stable_cut, stable_cond, stable_bind, run_agree_at, le_or_lt}
use Rattle.laws.specs.Text.{bytes}
use Rattle.laws.proofs.Flags.{and_left, and_right}
use Rattle.laws.proofs.Holds.{holds_cond, Turned, run_held}
use Rattle.lexer.specs.Values.{references, common, whole_of, furthest, no_reference, reference_end, text_at, passed_over, closes, value_step, value_from, value_end}
use Rattle.lexer.specs.declared.Stop.TheVariants.{Bad, Long, Cut}
use Rattle.lexer.specs.Reads.{Read}
use Rattle.utf8.specs.declared.Set.TheVariants as set
use Rattle.lexer.proofs.CharacterLaws.{Within, PassedTo, char_inside, char_stable}
use Rattle.lexer.proofs.Common.{common_none, common_all, common_kept}
use Rattle.lexer.proofs.References.{found_in, none_cut}

-- ---- one of the five, or none
data Reference : List ℕ → Type 0 where
  lt : Reference (bytes "&lt;")
  gt : Reference (bytes "&gt;")
  amp : Reference (bytes "&amp;")
  quot : Reference (bytes "&quot;")
  apos : Reference (bytes "&apos;")

module _ (P : Read → Type 0) (s : List ℕ) (at : ℕ) (other : Read) where
  none : P other → P (whole_of s at [] other)
  unfolding whole_of
  none p = p

  word : (w : List ℕ) (words : List (List ℕ)) → (common (drop at s) w ≡ length w → P (Ok (at + length w))) → P (whole_of s at words other) → P (whole_of s at (w ∷ words) other)
  unfolding whole_of
  word w words p q = holds_cond P (eqb (common (drop at s) w) (length w)) (λ e. p (eqb-true (common (drop at s) w) (length w) e)) (λ e. q)

  each : ((w : List ℕ) → Reference w → common (drop at s) w ≡ length w → P (Ok (at + length w))) → P other → P (whole_of s at references other)
  each p q =
      word _ _ (p _ lt) (word _ _ (p _ gt) (word _ _ (p _ amp) (word _ _ (p _ quot) (word _ _ (p _ apos) (none q)))))

some : (w : List ℕ) → Reference w → 0 < length w
some w lt = omega arith
some w gt = omega arith
some w amp = omega arith
some w quot = omega arith
some w apos = omega arith

-- ---- inside
none_inside : (s : List ℕ) (at : ℕ) → Within (PassedTo s at) s at (no_reference s at)
unfolding no_reference
none_inside s at =
    holds_cond (Within (PassedTo s at) s at) (leb (length s) k) (λ e. tt) (λ e. (omega arith, leb-false (length s) k e))
  where
    k : ℕ
    k = at + furthest (drop at s) references

pub reference_inside : (s : List ℕ) (at : ℕ) → Within (PassedTo s at) s at (reference_end s at)
unfolding reference_end
reference_inside s at =
    each (Within (PassedTo s at) s at) s at (no_reference s at)
    (λ (w : List ℕ) o e. (omega (arith, some w o), found_in s w at (length w) (sym e) (some w o)))
    (none_inside s at)

-- a character other than <
pub text_inside : (s : List ℕ) (b i : ℕ) → i < length s → Within (PassedTo s i) s i (text_at s b i)
unfolding text_at
text_inside s b i h = holds_cond (Within (PassedTo s i) s i) (eqb b 0x3C) (λ _. (omega arith, h)) (λ _. char_inside set.Char s i)

-- where ]]> is refused, three bytes of the text have been read
pub closes_behind : (s : List ℕ) (at quote b i : ℕ) → closes s at quote b i ≡ true → at + 2 ≤ i
unfolding closes
closes_behind s at quote b i e =
    let t = eqb quote 0x3C in
    let l = leb (at + 2) i in
    let x = eqb b 0x3E in
    let y = eqb (get_or s (i - 1) 0) 0x5D in
    let z = eqb (get_or s (i - 2) 0) 0x5D in
    leb-true (at + 2) i (and_right t l (and_left (t && l) x (and_left (t && l && x) y (and_left (t && l && x && y) z e))))

-- the end of a value is its quote
abbrev pub ValueTo : List ℕ → ℕ → ℕ → ℕ → Type 0
ValueTo s quote at j = (at ≤ j) × (j < length s) × (get_or s j 0 ≡ quote)

pub value_inside : (s : List ℕ) (at quote : ℕ) → Within (ValueTo s quote at) s at (value_end s at quote)
unfolding value_from
value_inside s at quote = run_held (Err Cut) (value_step s at quote) s (λ (left j : ℕ). at ≤ j) In tt turn 0 at (omega arith)
  where
    In : Read → Type 0
    In = Within (ValueTo s quote at) s at

    Turn : ℕ → RunNext ℕ Read → Type 0
    Turn j = Turned (λ (left : ℕ). at ≤ j + 1) In

    passed : (j : ℕ) → at ≤ j → (r : Read) → Within (PassedTo s j) s j r → Turn j (passed_over j r)
    passed j lo (Ok k) w = omega arith
    passed j lo (Err (Bad k)) w = omega arith
    passed j lo (Err (Long k)) w = w
    passed j lo (Err Cut) w = tt

    turn : (left j : ℕ) → j < length s → at ≤ j → Turn j (value_step s at quote left (get_or s j 0) j)
    turn left j hi lo =
        holds_cond (Turn j) (eqb left 0)
        (λ _. holds_cond (Turn j) (eqb (get_or s j 0) quote) (λ e. (lo, hi, eqb-true (get_or s j 0) quote e))
        (λ _. holds_cond (Turn j) (eqb (get_or s j 0) 0x26) (λ _. passed j lo (reference_end s j) (reference_inside s j))
        (λ _. holds_cond (Turn j) (closes s at quote (get_or s j 0) j) (λ c. omega (arith, closes_behind s at quote (get_or s j 0) j c))
        (λ _. passed j lo (text_at s (get_or s j 0) j) (text_inside s (get_or s j 0) j hi)))))
        (λ _. omega arith)

-- ---- more bytes
-- a reference stands whole: it is read
stands : (w s rest : List ℕ) (at : ℕ) → Reference w → drop at s ≡ w ++ rest → reference_end s at ≡ Ok (at + length w)
unfolding reference_end whole_of common
stands w s rest at lt e = rw (e, common_none rest)
stands w s rest at gt e = rw (e, common_none rest)
stands w s rest at amp e = rw (e, common_none rest)
stands w s rest at quot e = rw (e, common_none rest)
stands w s rest at apos e = rw (e, common_none rest)

stands_kept : (w s t : List ℕ) (at : ℕ) → Reference w → common (drop at s) w ≡ length w → reference_end (s ++ t) at ≡ Ok (at + length w)
stands_kept w s t at o e =
    let i = found_in s w at (length w) (sym e) (some w o) in
    let a : drop at (s ++ t) ≡ drop at s ++ t = drop-append-le at s t (omega arith) in
    let b : drop at s ++ t ≡ (w ++ drop (length w) (drop at s)) ++ t = ap (λ (l : List ℕ). l ++ t) (common_all (drop at s) w e) in
    stands w (s ++ t) (drop (length w) (drop at s) ++ t) at o (a ∙ b ∙ append_assoc w (drop (length w) (drop at s)) t)

-- none goes as far as the scene: more bytes change nothing
pub furthest_least : (l w : List ℕ) (words : List (List ℕ)) → (common l w ≤ furthest l (w ∷ words)) × (furthest l words ≤ furthest l (w ∷ words))
unfolding furthest
furthest_least l w words =
    holds_cond (λ (k : ℕ). (common l w ≤ k) × (furthest l words ≤ k)) (ltb (furthest l words) (common l w))
    (λ e. omega (arith, ltb-true (furthest l words) (common l w) e))
    (λ e. omega (arith, ltb-false (furthest l words) (common l w) e))

furthest_kept : (l t : List ℕ) (words : List (List ℕ)) → furthest l words < length l → furthest (l ++ t) words ≡ furthest l words
unfolding furthest
furthest_kept l t [] h = refl
furthest_kept l t (w ∷ words) h =
    let least = furthest_least l w words in
    rw (common_kept l w t (omega arith), furthest_kept l t words (omega arith))

whole_kept : (s t : List ℕ) (at : ℕ) (other : Read) → at ≤ length s → (words : List (List ℕ)) → furthest (drop at s) words < length (drop at s) → whole_of (s ++ t) at words other ≡ whole_of s at words other
unfolding whole_of
whole_kept s t at other i [] h = refl
whole_kept s t at other i (w ∷ words) h =
    let least = furthest_least (drop at s) w words in
    rw (drop-append-le at s t i, common_kept (drop at s) w t (omega arith), whole_kept s t at other i words (omega arith))

none_kept : (s t : List ℕ) (at : ℕ) → at + furthest (drop at s) references < length s → no_reference (s ++ t) at ≡ no_reference s at
unfolding no_reference
none_kept s t at h =
    let i : furthest (drop at s) references < length (drop at s) = simp length-drop (omega arith) in
    let m : at + furthest (drop at s) references < length (s ++ t) = simp length-append (omega arith) in
    rw (drop-append-le at s t (omega arith), furthest_kept (drop at s) t references i, lt-leb (length s) (at + furthest (drop at s) references) h, lt-leb (length (s ++ t)) (at + furthest (drop at s) references) m)

pub reference_stable : (s t : List ℕ) (at : ℕ) → (reference_end s at ≡ Err Cut → ⊥) → reference_end (s ++ t) at ≡ reference_end s at
unfolding reference_end
reference_stable s t at = ⊎_elim ends goes (le_or_lt (length s) (at + furthest (drop at s) references))
  where
    Kept : Read → Type 0
    Kept r = Stable (Err Cut) r (reference_end (s ++ t) at)

    ends : length s ≤ at + furthest (drop at s) references → Kept (reference_end s at)
    ends h =
        each Kept s at (no_reference s at) (λ (w : List ℕ) o e n. stands_kept w s t at o e)
        (rw (← none_cut s at (furthest (drop at s) references) refl h) (stable_cut (Err Cut) (reference_end (s ++ t) at)))

    goes : at + furthest (drop at s) references < length s → Kept (reference_end s at)
    goes h n =
        let i : furthest (drop at s) references < length (drop at s) = simp length-drop (omega arith) in
        rw (none_kept s t at h) (whole_kept s t at (no_reference s at) (omega arith) references i)

pub text_stable : (s t : List ℕ) (b i : ℕ) → Stable (Err Cut) (text_at s b i) (text_at (s ++ t) b i)
unfolding text_at
text_stable s t b i = stable_cond (Err Cut) (eqb b 0x3C) (stable_same (Err Cut) (Err (Bad i))) (char_stable set.Char s t i)

pub closes_kept : (s t : List ℕ) (at quote b i : ℕ) → i < length s → closes (s ++ t) at quote b i ≡ closes s at quote b i
unfolding closes
closes_kept s t at quote b i h = rw (get_or-append s t 0 (i - 1) (omega arith), get_or-append s t 0 (i - 2) (omega arith))

pub value_agrees : (s t : List ℕ) (at quote left b i : ℕ) → i < length s → Stable (stop (Err Cut)) (value_step s at quote left b i) (value_step (s ++ t) at quote left b i)
value_agrees s t at quote left b i h =
    stable_cond c (eqb left 0)
    (stable_cond c (eqb b quote) (stable_same c (stop (Ok i)))
    (stable_cond c (eqb b 0x26) (over (reference_end s i) (reference_end (s ++ t) i) (reference_stable s t i))
    (rw (closes_kept s t at quote b i h) (stable_cond c (closes s at quote b i) (stable_same c (stop (Err (Bad (i - 2))))) (over (text_at s b i) (text_at (s ++ t) b i) (text_stable s t b i))))))
    (stable_same c (go (left - 1)))
  where
    c : RunNext ℕ Read
    c = stop (Err Cut)

    over : (r r' : Read) → Stable (Err Cut) r r' → Stable c (passed_over i r) (passed_over i r')
    over = stable_bind (Err Cut) c (passed_over i) (passed_over i) refl (λ (r : Read). stable_same c (passed_over i r))

pub value_stable : (s t : List ℕ) (at quote : ℕ) → (value_end s at quote ≡ Err Cut → ⊥) → value_end (s ++ t) at quote ≡ value_end s at quote
unfolding value_from
value_stable s t at quote = run_agree_at (Err Cut) (value_step s at quote) (value_step (s ++ t) at quote) 0 s t at (λ left b i lo hi. value_agrees s t at quote left b i hi)
