-- A turn of the loop over a value. The machine passes over a reference, a character and plain bytes one by one, the code at once.
--     closing-..                  whether a byte is the > of ]]>
--     plain_passed, high_passed   passing over plain bytes, or over a character from 80 on, changes no answer
--     text-.., reference-..       a turn at one byte, and at a reference; passed_on: and over bytes behind it
--     quote_here, line_passed     the quote at once; a line's end before a text
use Rattle.std.specs.Prelude.{Ok, Err}
use Prim.Native.Nat.{ℕ, zero, suc, ◌+◌, ◌-◌, ◌≤◌, ◌<◌}
use mathlib.Core.Path.{◌≡◌, refl, sym, ap, ◌∙◌}
use mathlib.Core.List.{List, [], ◌∷◌}
use mathlib.Core.Bool.{Bool, true, false, cond, not, ◌&&◌, ◌||◌, and-false}
use native.Mathlib.Nat.{add-zero, not-suc-le-zero, le_of_suc-le-suc}
use native.Mathlib.Omega.{arith}
use borrow.Author.Tests.{eq-eqb, ne_eqb, le-leb, lt-leb, ltb-true, ltb-false, not-true, not-false}
use lib.ListN.{length, take, drop, get_or, length-drop, get_or-eq_default}
use lib.Seq.{drop-drop}
use lib.Dec.{leb, ltb, eqb}
use Rattle.laws.specs.Lists.{all}
use Rattle.laws.specs.Reading.{go, run, run_stop, run_go, drop_here}
use Rattle.laws.specs.Tests.{untold, tests}
use Rattle.laws.proofs.Flags.{and_left, and_right, or_left, or_right}
use Rattle.lanes.specs.Plain.{is_plain, plain_bytes}
use Rattle.utf8.specs.declared.Set.{Set}
use Rattle.utf8.specs.declared.Set.TheVariants as set
use Rattle.lexer.specs.Shortcuts.{is_char}
use Rattle.lexer.specs.Characters.{char_end}
use Rattle.lexer.specs.Values.{reference_end, text_at, passed_over, closes, value_step, value_from, text_end}
use Rattle.lexer.specs.declared.Stop.{Stop}
use Rattle.lexer.specs.declared.Stop.TheVariants.{Bad, Cut}
use Rattle.lexer.specs.Reads.{Read}
use Rattle.lexer.proofs.CharacterLaws.{PassedTo, end_of, char_inside, char_low}
use Rattle.lexer.proofs.ValueLaws.{reference_inside, text_inside}
use Rattle.lexer.proofs.NameBits.{char_ascii}

-- ---- the > of ]]>
-- each of two tests refuses
either : (t u x : Bool) → (t ≡ true → x ≡ false) → (u ≡ true → x ≡ false) → (t || u) ≡ true → false ≡ x
either true u x f g e = sym (f refl)
either false u x f g e = sym (g e)

module _ (s : List ℕ) (at quote b i : ℕ) where
  no_text : eqb quote 0x3C ≡ false → closes s at quote b i ≡ false
  unfolding closes
  no_text e = rw e

  no_closing : eqb b 0x3E ≡ false → closes s at quote b i ≡ false
  unfolding closes
  no_closing e = simp (e, and-false)

  too_early : i < at + 2 → closes s at quote b i ≡ false
  unfolding closes
  too_early h = simp (lt-leb (at + 2) i h, and-false)

  -- where no byte stands, there is no ]
  past_end : length s < i → closes s at quote b i ≡ false
  unfolding closes
  past_end h = let d : get_or s (i - 1) 0 ≡ 0 = get_or-eq_default s 0 (omega arith) in simp (d, and-false)

  pub closing_other : (not (eqb quote 0x3C) || not (eqb b 0x3E)) ≡ true → false ≡ closes s at quote b i
  closing_other = either (not (eqb quote 0x3C)) (not (eqb b 0x3E)) _ (λ e. no_text (not-true _ e)) (λ e. no_closing (not-true _ e))

  pub closing_outside : (ltb (length s) i || ltb i 2) ≡ true → false ≡ closes s at quote b i
  closing_outside = either (ltb (length s) i) (ltb i 2) _ (λ e. past_end (ltb-true _ _ e)) (λ e. too_early (omega (arith, ltb-true i 2 e)))

  pub closing_early : i < at + 2 → false ≡ closes s at quote b i
  closing_early h = sym (too_early h)

  pub closing_here : (not (eqb quote 0x3C) || not (eqb b 0x3E)) ≡ false → at + 2 ≤ i → (eqb (get_or s (i - 1) 0) 0x5D && eqb (get_or s (i - 2) 0) 0x5D) ≡ closes s at quote b i
  unfolding closes
  closing_here e h =
      let q = not (eqb quote 0x3C) in
      let m = not (eqb b 0x3E) in
      rw (not-false (eqb quote 0x3C) (or_left q m e), not-false (eqb b 0x3E) (or_right q m e), le-leb (at + 2) i h)

-- what is left once closing-outside's test has failed
pub closing_inside : (n i : ℕ) → (ltb n i || ltb i 2) ≡ false → (2 ≤ i) × (i ≤ n)
closing_inside n i e = (ltb-false i 2 (or_right (ltb n i) (ltb i 2) e), ltb-false n i (or_left (ltb n i) (ltb i 2) e))

-- ---- plain bytes, and the bytes of a reference or a character
-- a byte below 80 that is a character
pub low_char : (s : List ℕ) (i : ℕ) → i < length s → get_or s i 0 < 0x80 → is_char (get_or s i 0) ≡ true → char_end set.Char s i ≡ Ok (i + 1)
low_char s i h lt e = char_low set.Char s i h lt ∙ ap (λ (t : Bool). cond t (Ok (i + 1)) (Err (Bad i))) (sym (char_ascii (get_or s i 0) lt) ∙ e)

module _ (s : List ℕ) (at quote : ℕ) where
  plain_step : (i : ℕ) → i < length s → is_plain quote (get_or s i 0) ≡ true → value_step s at quote 0 (get_or s i 0) i ≡ go 0
  unfolding is_plain text_at
  plain_step i h e =
      let b = get_or s i 0 in
      let low = leb 0x20 b && ltb b 0x80 in
      let q = not (eqb b quote) in
      let m = not (eqb b 0x26) in
      let n = not (eqb b 0x3C) in
      let o = not (eqb b 0x3E) in
      let u = and_left (low && q && m && n) o e in
      let v = and_left (low && q && m) n u in
      let w = and_left (low && q) m v in
      let d = and_left low q w in
      let lt = ltb-true b 0x80 (and_right (leb 0x20 b) (ltb b 0x80) d) in
      let c : char_end set.Char s i ≡ Ok (i + 1) = low_char s i h lt (rw (and_left (leb 0x20 b) (ltb b 0x80) d)) in
      let z : i + 1 - (i + 1) ≡ 0 = omega arith in
      simp (
        untold (eqb b quote) (eqb b quote) refl (and_right low q w),
        untold (eqb b 0x26) (eqb b 0x26) refl (and_right (low && q) m v),
        untold (eqb b 0x3C) (eqb b 0x3C) refl (and_right (low && q && m) n u),
        no_closing s at quote b i (untold (eqb b 0x3E) (eqb b 0x3E) refl (and_right (low && q && m && n) o e)),
        c,
        z,
      )

  plain_run : (k : ℕ) (l : List ℕ) (i : ℕ) → drop i s ≡ l → all (is_plain quote) (take k l) ≡ true → run (Err Cut) (value_step s at quote) 0 l i ≡ run (Err Cut) (value_step s at quote) 0 (drop k l) (i + k)
  unfolding run all
  plain_run zero l i f e = rw add-zero
  plain_run (suc k) [] i f e = refl
  plain_run (suc k) (b ∷ l) i f e =
      let d : i + suc k ≡ i + 1 + k = omega arith in
      let lt : i < length s = omega (arith, length-drop i s, ap length f) in
      let here : get_or s i 0 ∷ drop (i + 1) s ≡ b ∷ l = sym (drop_here s i lt) ∙ f in
      let byte : get_or s i 0 ≡ b = cc in
      let rest : drop (i + 1) s ≡ l = cc in
      let a : is_plain quote (get_or s i 0) ≡ true = rw byte (and_left (is_plain quote b) (all (is_plain quote) (take k l)) e) in
      let g : value_step s at quote 0 b i ≡ go 0 = ap (λ (x : ℕ). value_step s at quote 0 x i) (sym byte) ∙ plain_step i lt a in
      rw (g, d) (plain_run k l (i + 1) rest (and_right (is_plain quote b) (all (is_plain quote) (take k l)) e))

  -- passing over plain bytes changes no answer
  pub plain_passed : (from i : ℕ) → (from ≤ i) × (plain_bytes s quote from i ≡ true) → value_from s at quote i ≡ value_from s at quote from
  unfolding value_from plain_bytes
  plain_passed from i h =
      let k : from + (i - from) ≡ i = omega (arith, h.0) in
      sym (plain_run (i - from) (drop from s) from refl h.1 ∙ rw (drop-drop (i - from) from s, k))

  -- the k bytes that are left of a reference
  skipped : (k : ℕ) (l : List ℕ) (i : ℕ) → k ≤ length l → run (Err Cut) (value_step s at quote) k l i ≡ run (Err Cut) (value_step s at quote) 0 (drop k l) (i + k)
  unfolding run
  skipped zero l i h = rw add-zero
  skipped (suc k) [] i h = absurd (not-suc-le-zero h)
  skipped (suc k) (b ∷ l) i h =
      let e : i + suc k ≡ i + 1 + k = omega arith in
      let d : suc k - 1 ≡ k = omega arith in
      rw (ne_eqb (suc k) 0 (λ z. omega arith), d, e) (skipped k l (i + 1) (le_of_suc-le-suc h))

-- ---- a turn
pub reference_in : (s : List ℕ) (i j : ℕ) (r : Read) → r ≡ reference_end s i → r ≡ Ok j → PassedTo s i j
reference_in s i j r a q = end_of (PassedTo s i) s i j (reference_end s i) (reference_inside s i) (sym a ∙ q)

pub text_in : (s : List ℕ) (b i j : ℕ) (r : Read) → i < length s → r ≡ text_at s b i → r ≡ Ok j → PassedTo s i j
text_in s b i j r h a q = end_of (PassedTo s i) s i j (text_at s b i) (text_inside s b i h) (sym a ∙ q)

pub char_in : (x : Set) (s : List ℕ) (i j : ℕ) (r : Read) → r ≡ char_end x s i → r ≡ Ok j → PassedTo s i j
char_in x s i j r a q = end_of (PassedTo s i) s i j (char_end x s i) (char_inside x s i) (sym a ∙ q)

module _ (p : Read) (s : List ℕ) (at quote i : ℕ) (inv : run (Err Cut) (value_step s at quote) 0 (drop i s) i ≡ p) (h : i < length s) where
  -- a reference or a character, and what was read of it
  module _ (r : Read) (step : passed_over i r ≡ value_step s at quote 0 (get_or s i 0) i) where
    over_stops : (x : Stop) → r ≡ Err x → Err x ≡ p
    over_stops x q = run_stop (Err Cut) (value_step s at quote) p 0 s i inv h (Err x) (ap (passed_over i) (sym q) ∙ step)

    over_passed : (j : ℕ) → r ≡ Ok j → PassedTo s i j → run (Err Cut) (value_step s at quote) 0 (drop j s) j ≡ p
    over_passed j q b =
        let k : i + 1 + (j - (i + 1)) ≡ j = omega arith in
        let m : j - (i + 1) ≤ length (drop (i + 1) s) = simp length-drop (omega arith) in
        (rw (skipped s at quote (j - (i + 1)) (drop (i + 1) s) (i + 1) m, drop-drop, k) at (run_go (Err Cut) (value_step s at quote) p 0 s i inv h (j - (i + 1)) (ap (passed_over i) (sym q) ∙ step)))

  module _ (n : get_or s i 0 ≡ quote → ⊥) where
    -- no reference
    module _ (m : get_or s i 0 ≡ 0x26 → ⊥) (x : Bool) (o : x ≡ closes s at quote (get_or s i 0) i) where
      pub text_closes : x ≡ true → Err (Bad (i - 2)) ≡ p
      text_closes y = run_stop (Err Cut) (value_step s at quote) p 0 s i inv h (Err (Bad (i - 2))) (search tests)

      module _ (y : x ≡ false) (r : Read) (a : r ≡ text_at s (get_or s i 0) i) where
        text_step : passed_over i r ≡ value_step s at quote 0 (get_or s i 0) i
        text_step = simp (ne_eqb _ _ n, ne_eqb _ _ m, ← o, y, a)

        pub text_stops : (z : Stop) → r ≡ Err z → Err z ≡ p
        text_stops z q = over_stops r text_step z q

        pub text_passed : (j : ℕ) → r ≡ Ok j → run (Err Cut) (value_step s at quote) 0 (drop j s) j ≡ p
        text_passed j q = over_passed r text_step j q (text_in s (get_or s i 0) i j r h a q)

    -- a reference
    module _ (e : get_or s i 0 ≡ 0x26) (r : Read) (a : r ≡ reference_end s i) where
      reference_step : passed_over i r ≡ value_step s at quote 0 (get_or s i 0) i
      reference_step = simp (ne_eqb _ _ n, eq-eqb _ _ e, ← a)

      pub reference_stops : (x : Stop) → r ≡ Err x → Err x ≡ p
      reference_stops x q = over_stops r reference_step x q

      pub reference_passed : (j : ℕ) → r ≡ Ok j → run (Err Cut) (value_step s at quote) 0 (drop j s) j ≡ p
      reference_passed j q = over_passed r reference_step j q (reference_in s i j r a q)

-- a turn that passes over more bytes
pub passed_on : (s : List ℕ) (at quote i j : ℕ) (p : Read) → value_from s at quote j ≡ value_from s at quote i
    → run (Err Cut) (value_step s at quote) 0 (drop i s) i ≡ p → run (Err Cut) (value_step s at quote) 0 (drop j s) j ≡ p
unfolding value_from
passed_on s at quote i j p e inv = e ∙ inv

-- a character from 80 on
pub high_passed : (s : List ℕ) (at quote from i : ℕ) → value_from s at quote i ≡ value_from s at quote from → i < length s → 0x80 ≤ get_or s i 0 → (get_or s i 0 ≡ quote → ⊥)
    → (r : Read) → r ≡ char_end set.Char s i → (j : ℕ) → r ≡ Ok j → value_from s at quote j ≡ value_from s at quote from
unfolding value_from text_at
high_passed s at quote from i e h k n r a j q =
    let b = get_or s i 0 in
    over_passed (value_from s at quote from) s at quote i e h r
    (simp (ne_eqb b quote n, ne_eqb b 0x26 (λ z. omega arith), no_closing s at quote b i (ne_eqb b 0x3E (λ z. omega arith)), ne_eqb b 0x3C (λ z. omega arith), a))
    j
    q
    (char_in set.Char s i j r a q)

-- the quote at once
pub quote_here : (s : List ℕ) (at quote from i : ℕ) → value_from s at quote i ≡ value_from s at quote from → i < length s → get_or s i 0 ≡ quote → Ok i ≡ value_from s at quote from
unfolding value_from
quote_here s at quote from i e h q = run_stop (Err Cut) (value_step s at quote) (value_from s at quote from) 0 s i e h (Ok i) (simp (eq-eqb (get_or s i 0) quote q))

-- a line's end before a text
pub line_passed : (s : List ℕ) (at : ℕ) → at < length s → get_or s at 0 ≡ 0x0A → value_from s at 0x3C (at + 1) ≡ text_end s at
unfolding value_from text_at
line_passed s at h e =
    let c : char_end set.Char s at ≡ Ok (at + 1) = low_char s at h (omega arith) (rw e) in
    let z : at + 1 - (at + 1) ≡ 0 = omega arith in
    run_go (Err Cut) (value_step s at 0x3C) (text_end s at) 0 s at refl h 0 (simp (e, no_closing s at 0x3C 0x0A at refl, c, z))
