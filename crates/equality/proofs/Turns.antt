-- The turns and ends of the code.
--     strand_said                              two strands of numbers
--     strands_unlike                           levels of which one has more strands
--     within_start, -done, -out, -on           the loop that looks how many strands each level has
--     level_few, within_levels, within_bound   what it says of a level, of all, and of the bindings
--     words_part                               the numbers of a level's strands, as the code takes them out of the array
--     level-*                                  two levels, test by test
use Prim.Native.Nat.{ℕ, zero, suc, ◌+◌, ◌-◌, ◌*◌, ◌/◌, ◌%◌, ◌≤◌, ◌<◌}
use mathlib.Core.Path.{◌≡◌, refl, sym, ap, ap₂, ◌∙◌}
use mathlib.Core.List.{List, map}
use mathlib.Core.Bool.{Bool, true, false, cond, not, ◌&&◌, ◌||◌}
use mathlib.Core.Option.{none, some}
use mathlib.Core.Logic.{⊎_elim}
use native.Mathlib.Omega.{arith}
use native.Mathlib.Nat.{add-zero, sub-zero, zero-add}
use borrow.Author.Tests.{ne_eqb, le-ltb, lt-ltb, le-leb, lt-leb, leb-true}
use lib.ListN.{length, get_or, take, drop, length-map}
use lib.Dec.{leb, ltb, eqb}
use Rattle.laws.specs.Reading.{le_or_lt}
use Rattle.laws.specs.Lists.{all, tabulate}
use Rattle.laws.specs.Tests.{untold'}
use Rattle.laws.proofs.Flags.{eqb_same, and_left, and_right}
use Rattle.laws.proofs.Lists.{all_done, all_not, all_on, length_tabulate, get_d_tabulate}
use Rattle.laws.proofs.Members.{all_in, in_at}
use Rattle.table.specs.Table.{action_of}
use Rattle.reader.specs.declared.Span.{Span}
use Rattle.reader.specs.Scope.{name_in}
use Rattle.strands.specs.Packed.{strand_in, action_number, words_at}
use Rattle.strands.specs.Levels.{level_strands}
use Rattle.strands.proofs.LevelNumbers.{strand_part}
use Rattle.equality.specs.Same.{same_flag, same_each, same_span, same_target, same_strand, HeldLevel, same_level, held_level}
use Rattle.equality.specs.Checks.{within_arrays}
use Rattle.equality.proofs.Chain.{chain_out, chain_on, chain_unlike, chain_alike}
use Rattle.equality.proofs.Each.{each_unlike}

-- ---- two strands
-- 2 and 3 are validate
low : (n : ℕ) → n ≤ 1 → action_number (action_of n) ≡ n
low zero h = refl
low (suc zero) h = refl
low (suc (suc n)) h = absurd (omega arith)

high : (n : ℕ) → 1 < n → action_number (action_of n) ≡ 2
high n h = rw (ne_eqb n 0 (λ e. omega arith), ne_eqb n 1 (λ e. omega arith))

action_said : (m n : ℕ) → (ltb 1 m && ltb 1 n || eqb m n) ≡ eqb (action_number (action_of m)) (action_number (action_of n))
action_said m n =
    ⊎_elim
    (λ h.
    ⊎_elim (λ g. rw (le-ltb 1 m h, low m h, low n g))
    (λ g. rw (le-ltb 1 m h, low m h, high n g) (eqb_same m n m 2 (λ e. omega arith) (λ e. omega arith))) (le_or_lt n 1))
    (λ h.
    ⊎_elim (λ g. rw (lt-ltb 1 m h, le-ltb 1 n g, high m h, low n g) (eqb_same m n 2 n (λ e. omega arith) (λ e. omega arith)))
    (λ g. rw (lt-ltb 1 m h, lt-ltb 1 n g, high m h, high n g)) (le_or_lt n 1))
    (le_or_lt m 1)

-- what holds of each two bits
bits : (P : ℕ → ℕ → Type 0) → P 0 0 → P 0 1 → P 1 0 → P 1 1 → (a b : ℕ) → a < 2 → b < 2 → P a b
bits P p q r s zero zero h g = p
bits P p q r s zero (suc zero) h g = q
bits P p q r s zero (suc (suc b)) h g = absurd (omega arith)
bits P p q r s (suc zero) zero h g = r
bits P p q r s (suc zero) (suc zero) h g = s
bits P p q r s (suc zero) (suc (suc b)) h g = absurd (omega arith)
bits P p q r s (suc (suc a)) b h g = absurd (omega arith)

target_said : (u v a b : ℕ) → a < 2 → b < 2 → (eqb a b && (eqb a 0 || eqb u v)) ≡ same_target (cond (eqb a 1) (some u) none) (cond (eqb b 1) (some v) none)
target_said u v =
    bits (λ (a b : ℕ). (eqb a b && (eqb a 0 || eqb u v)) ≡ same_target (cond (eqb a 1) (some u) none) (cond (eqb b 1) (some v) none)) refl refl refl refl

here_said : (a b : ℕ) → a < 2 → b < 2 → eqb a b ≡ same_flag (eqb a 1) (eqb b 1)
here_said = bits (λ (a b : ℕ). eqb a b ≡ same_flag (eqb a 1) (eqb b 1)) refl refl refl refl

pub strand_said : (a b : ℕ)
    → (eqb (a % 32) (b % 32)
    && ((ltb 1 (a / 32 % 4) && ltb 1 (b / 32 % 4) || eqb (a / 32 % 4) (b / 32 % 4))
    && ((eqb (a / 256 % 2) (b / 256 % 2) && (eqb (a / 256 % 2) 0 || eqb (a / 512 % 65536) (b / 512 % 65536))) && eqb (a / 128 % 2) (b / 128 % 2))))
    ≡ same_strand (strand_in a) (strand_in b)
unfolding strand_in
strand_said a b =
    ap (λ (x : Bool). eqb (a % 32) (b % 32) && x)
    (ap₂ ◌&&◌ (action_said (a / 32 % 4) (b / 32 % 4))
    (ap₂ ◌&&◌ (target_said (a / 512 % 65536) (b / 512 % 65536) (a / 256 % 2) (b / 256 % 2) (omega arith) (omega arith))
    (here_said (a / 128 % 2) (b / 128 % 2) (omega arith) (omega arith))))

-- ---- the strands of a level
pub strands_unlike : (a b : List ℕ) → (length a ≡ length b → ⊥) → false ≡ same_each same_strand (map strand_in a) (map strand_in b)
strands_unlike a b h =
    each_unlike same_strand (map strand_in a) (map strand_in b) (λ e. h (sym (length-map a strand_in) ∙ e ∙ length-map b strand_in))

-- ---- how many strands each level has
module _ (spaces : List ℕ) (n : ℕ) where
  abbrev few : ℕ → Bool
  few k = leb (get_or spaces (4 * k + 3) 0) 16

  pub within_start : all few (tabulate (λ (k : ℕ). k) 0 (n - 0)) ≡ all few (tabulate (λ (k : ℕ). k) 0 n)
  within_start = simp sub-zero

  pub level_few : all few (tabulate (λ (k : ℕ). k) 0 n) ≡ true → (k : ℕ) → k < n → get_or spaces (4 * k + 3) 0 ≤ 16
  level_few e k h =
      let here : get_or (tabulate (λ (i : ℕ). i) 0 n) k 0 ≡ k = get_d_tabulate (λ (i : ℕ). i) 0 n k 0 h ∙ zero-add k in
      let in-it = in_at (tabulate (λ (i : ℕ). i) 0 n) k 0 (omega (arith, length_tabulate (λ (i : ℕ). i) 0 n)) in
      leb-true _ 16 (ap few (sym here) ∙ all_in few (get_or (tabulate (λ (i : ℕ). i) 0 n) k 0) (tabulate (λ (i : ℕ). i) 0 n) e in-it)

  module _ (i : ℕ) (v : Bool) (inv : all few (tabulate (λ (k : ℕ). k) i (n - i)) ≡ v) where
    pub within_done : n ≤ i → true ≡ v
    within_done = all_done (λ (k : ℕ). k) i n v few inv

    module _ (h : i < n) (c : ℕ) (e : c ≡ get_or spaces (4 * i + 3) 0) where
      pub within_out : 16 < c → false ≡ v
      within_out g = all_not (λ (k : ℕ). k) i n v few inv h (lt-leb (get_or spaces (4 * i + 3) 0) 16 (omega arith))

      pub within_on : c ≤ 16 → all few (tabulate (λ (k : ℕ). k) (i + 1) (n - (i + 1))) ≡ v
      within_on g = all_on (λ (k : ℕ). k) i n v few inv h (le-leb (get_or spaces (4 * i + 3) 0) 16 (omega arith))

-- ---- a level: the tests behind its name, its class, its URI and its count of bindings
abbrev behind_bindings : HeldLevel → HeldLevel → Bool
behind_bindings a b = same_each same_strand a.strands b.strands

abbrev behind_uri : HeldLevel → HeldLevel → Bool
behind_uri a b = eqb a.bindings b.bindings && behind_bindings a b

abbrev behind_class : HeldLevel → HeldLevel → Bool
behind_class a b = same_span a.uri b.uri && behind_uri a b

abbrev behind_name : HeldLevel → HeldLevel → Bool
behind_name a b = eqb a.class b.class && behind_class a b

words_long : (strands : List ℕ) (k n : ℕ) → length (map strand_in (words_at strands k n)) ≡ n
words_long strands k n = length-map (words_at strands k n) strand_in ∙ length_tabulate (λ (i : ℕ). get_or strands i 0) (16 * k) n

pub words_part : (l : List ℕ) (k n : ℕ) → length l ≡ 1536 → k < 64 → n ≤ 16 → take (24 * k + 8 + n - (24 * k + 8)) (drop (24 * k + 8) l) ≡ words_at (level_strands l) k n
words_part l k n long h few =
    let e : 24 * k + 8 + n - (24 * k + 8) ≡ n = omega arith in
    ap (λ (i : ℕ). take i (drop (24 * k + 8) l)) e ∙ strand_part l k n long h few

module _ (names spaces strands names' spaces' strands' : List ℕ) (k : ℕ) where
  abbrev one : HeldLevel
  one = held_level names spaces strands k

  abbrev other : HeldLevel
  other = held_level names' spaces' strands' k

  module _ (w w' : Span) (ew : w ≡ name_in names k) (ew' : w' ≡ name_in names' k) (r : Bool) (er : r ≡ not (same_span w w')) where
    pub level_name : r ≡ true → false ≡ same_level one other
    unfolding held_level
    level_name f = chain_out (same_span w w') (same_span one.name other.name) (behind_name one other) (ap₂ same_span ew ew') (sym er ∙ f)

    module _ (fr : r ≡ false) (m m' : ℕ) (em : m ≡ get_or spaces (4 * k + 0) 0) (em' : m' ≡ get_or spaces' (4 * k + 0) 0) where
      past_name : (v : Bool) → v ≡ behind_name one other → v ≡ same_level one other
      unfolding held_level
      past_name = chain_on (same_span w w') (same_span one.name other.name) (behind_name one other) (ap₂ same_span ew ew') (sym er ∙ fr)

      class_at_lem : (l : List ℕ) → get_or l (4 * k + 0) 0 ≡ get_or l (4 * k) 0
      class_at_lem l = ap (λ (i : ℕ). get_or l i 0) (add-zero (4 * k))

      pub level_class : (m ≡ m' → ⊥) → false ≡ same_level one other
      unfolding held_level
      level_class f = past_name false (chain_unlike m m' one.class other.class (behind_class one other) (em ∙ class_at_lem spaces) (em' ∙ class_at_lem spaces') f)

      module _ (fm : m ≡ m') (u u' : Span) (eu : u ≡ one.uri) (eu' : u' ≡ other.uri) (q : Bool) (eq : q ≡ not (same_span u u')) where
        past_class : (v : Bool) → v ≡ behind_class one other → v ≡ same_level one other
        unfolding held_level
        past_class v e = past_name v (chain_alike m m' one.class other.class (behind_class one other) (em ∙ class_at_lem spaces) (em' ∙ class_at_lem spaces') fm v e)

        pub level_uri_lem : q ≡ true → false ≡ same_level one other
        level_uri_lem f = past_class false (chain_out (same_span u u') (same_span one.uri other.uri) (behind_uri one other) (ap₂ same_span eu eu') (sym eq ∙ f))

        module _ (fq : q ≡ false) (n n' : ℕ) (en : n ≡ one.bindings) (en' : n' ≡ other.bindings) where
          past_uri : (v : Bool) → v ≡ behind_uri one other → v ≡ same_level one other
          past_uri v e = past_class v (chain_on (same_span u u') (same_span one.uri other.uri) (behind_uri one other) (ap₂ same_span eu eu') (sym eq ∙ fq) v e)

          pub level_bindings : (n ≡ n' → ⊥) → false ≡ same_level one other
          level_bindings f = past_uri false (chain_unlike n n' one.bindings other.bindings (behind_bindings one other) en en' f)

          module _ (fn : n ≡ n') (j j' : ℕ) (ej : j ≡ get_or spaces (4 * k + 3) 0) (ej' : j' ≡ get_or spaces' (4 * k + 3) 0) where
            past_bindings : (v : Bool) → v ≡ behind_bindings one other → v ≡ same_level one other
            past_bindings v e = past_uri v (chain_alike n n' one.bindings other.bindings (behind_bindings one other) en en' fn v e)

            pub level_count : (j ≡ j' → ⊥) → false ≡ same_level one other
            unfolding held_level
            level_count f = past_bindings false (each_unlike same_strand one.strands other.strands (λ e. f (ej ∙ sym (words_long strands k _) ∙ e ∙ words_long strands' k _ ∙ sym ej')))

            -- x and y are the words that are compared
            pub level_strands_lem : j ≡ j' → (x y : List ℕ) → x ≡ words_at strands k j → y ≡ words_at strands' k j → (v : Bool) → v ≡ same_each same_strand (map strand_in x) (map strand_in y) → v ≡ same_level one other
            unfolding held_level
            level_strands_lem f x y ex ey v e =
                past_bindings v
                (e ∙ ap₂ (λ (s t : List ℕ). same_each same_strand (map strand_in s) (map strand_in t)) (ex ∙ ap (words_at strands k) ej) (ey ∙ ap (words_at strands' k) (f ∙ ej')))

-- ---- the arrays
pub within_bound : (depth bound : ℕ) (spaces : List ℕ) (r : Bool) → r ≡ within_arrays depth bound spaces → r ≡ true → bound ≤ 64
unfolding within_arrays
within_bound depth bound spaces r e t = leb-true bound 64 (and_left (leb bound 64) _ (and_right (leb depth 64) _ (sym e ∙ t)))

pub within_levels : (depth bound : ℕ) (spaces : List ℕ) (r : Bool) → r ≡ within_arrays depth bound spaces → not r ≡ false
    → (depth ≤ 64) × (all (λ (k : ℕ). leb (get_or spaces (4 * k + 3) 0) 16) (tabulate (λ (k : ℕ). k) 0 depth) ≡ true)
unfolding within_arrays
within_levels depth bound spaces r e f =
    let t = untold' r _ e f in
    (leb-true depth 64 (and_left (leb depth 64) _ t), and_right (leb bound 64) _ (and_right (leb depth 64) _ t))
