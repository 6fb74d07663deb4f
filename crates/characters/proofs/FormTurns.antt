-- What the functions over a form give, a lemma for each way out.
--     goes_on, next_small              a byte that goes on with a form, and what then fits
--     first_one_byte, ..               after the first byte
--     next_first, next_none, next_on   after a byte more
--     range_small                      that the numbers of the code points that share the bytes are small
--     none_met, some_met               whether a set has one of them
use Prim.Native.Nat.{ℕ, zero, suc, ◌+◌, ◌-◌, ◌*◌, ◌≤◌, ◌<◌, max}
use mathlib.Core.Path.{◌≡◌, refl, sym, ◌∙◌}
use mathlib.Core.List.{List}
use mathlib.Core.Bool.{Bool, true, false, ◌&&◌, ◌||◌}
use mathlib.Core.Logic.{⊎_elim}
use native.Mathlib.Omega.{arith}
use borrow.Author.Tests.{lt-ltb, le-ltb, le-leb, lt-leb, ltb-true, ltb-false, leb-true, eq-eqb, ne_eqb, eqb-false}
use lib.Dec.{leb, ltb, eqb}
use Rattle.laws.specs.Lists.{any}
use Rattle.laws.specs.Reading.{le_or_lt}
use Rattle.laws.proofs.Holds.{holds_cond}
use Rattle.laws.proofs.Flags.{differ, and_left, and_right, or_left, or_right}
use Rattle.utf8.specs.declared.Range.{Range}
use Rattle.utf8.specs.declared.Form.{Form}
use Rattle.utf8.specs.Forms.{form, no_form, first_form, next_form, size, larger, least, most, meets, form_begins, Bounded}

-- a form that the code gives: the one that is asked for, its numbers small
abbrev Given : Form → Form → Type 0
Given r f = (r ≡ f) × Bounded r

-- ---- after the first byte: c is it, as the code has it
module _ (b c : ℕ) (e : c ≡ b) where
  pub first_one_byte : c < 0x80 → form 0 c 0 ≡ first_form b
  unfolding first_form
  first_one_byte h = simp (← e, lt-ltb c 0x80 h)

  pub first_none : (r : Form) → r ≡ no_form → 0x80 ≤ c → c < 0xC0 → r ≡ first_form b
  unfolding first_form
  first_none r q l h = q ∙ simp (← e, le-ltb c 0x80 l, lt-ltb c 0xC0 h)

  pub first_two : 0xC0 ≤ c → c < 0xE0 → form 1 (c - 0xC0) 0x80 ≡ first_form b
  unfolding first_form
  first_two l h = simp (← e, le-ltb c 0x80 (omega arith), le-ltb c 0xC0 l, lt-ltb c 0xE0 h)

  pub first_three : 0xE0 ≤ c → c < 0xF0 → form 2 (c - 0xE0) 0x800 ≡ first_form b
  unfolding first_form
  first_three l h = simp (← e, le-ltb c 0x80 (omega arith), le-ltb c 0xC0 (omega arith), le-ltb c 0xE0 l, lt-ltb c 0xF0 h)

  pub first_four : 0xF0 ≤ c → form 3 (c - 0xF0) 0x10000 ≡ first_form b
  unfolding first_form
  first_four l = simp (← e, le-ltb c 0x80 (omega arith), le-ltb c 0xC0 (omega arith), le-ltb c 0xE0 (omega arith), le-ltb c 0xF0 l)

-- ---- after a byte more
-- the code's test for a byte with which no form goes on
abbrev stuck : Form → ℕ → Bool
stuck f b = (eqb f.left 0 || ltb b 0x80) || ltb 0xBF b

module _ (f : Form) (b : ℕ) where
  pub goes_on : stuck f b ≡ false → (0 < f.left) × (0x80 ≤ b) × (b ≤ 0xBF)
  goes_on e =
      let x = or_left (eqb f.left 0 || ltb b 0x80) (ltb 0xBF b) e in
      let n = eqb-false f.left 0 (or_left (eqb f.left 0) (ltb b 0x80) x) in
      (positive f.left n, ltb-false b 0x80 (or_right (eqb f.left 0) (ltb b 0x80) x), ltb-false 0xBF b (or_right (eqb f.left 0 || ltb b 0x80) (ltb 0xBF b) e))
    where
      positive : (k : ℕ) → (k ≡ 0 → ⊥) → 0 < k
      positive zero h = absurd (h refl)
      positive (suc k) h = omega arith

  pub next_first : (r : Form) → f.left ≡ 4 → Given r (first_form b) → Given r (next_form f b)
  unfolding next_form
  next_first r e g = (rw (eq-eqb f.left 4 e) g.0, g.1)

  pub next_none : (r : Form) → (f.left ≡ 4 → ⊥) → stuck f b ≡ true → Given r no_form → Given r (next_form f b)
  unfolding next_form
  next_none r n t g = (
    rw (ne_eqb f.left 4 n)
        (holds_cond (λ (h : Form). r ≡ h) (ltb 0 f.left && leb 0x80 b && leb b 0xBF) (λ e. absurd (differ (sym t ∙ free e))) (λ e. g.0)),
    g.1,
  )
    where
      free : (ltb 0 f.left && leb 0x80 b && leb b 0xBF) ≡ true → stuck f b ≡ false
      free e =
          let q = and_left (ltb 0 f.left && leb 0x80 b) (leb b 0xBF) e in
          let l = ltb-true 0 f.left (and_left (ltb 0 f.left) (leb 0x80 b) q) in
          let lo = leb-true 0x80 b (and_right (ltb 0 f.left) (leb 0x80 b) q) in
          let hi = leb-true b 0xBF (and_right (ltb 0 f.left && leb 0x80 b) (leb b 0xBF) e) in
          rw (ne_eqb f.left 0 (λ z. omega arith), le-ltb b 0x80 lo, le-ltb 0xBF b hi)

  module _ (n : f.left ≡ 4 → ⊥) (t : stuck f b ≡ false) (h : Bounded f) where
    pub next_small : f.value < 0x10000
    next_small = by f.left f.value (goes_on t).0 h.0 h.1
      where
        by : (k v : ℕ) → 0 < k → k ≤ 4 → (v + 1) * size k ≤ 0x400000 → v < 0x10000
        by zero v p q r = absurd (omega arith)
        by (suc zero) v p q r = omega arith
        by (suc (suc zero)) v p q r = omega arith
        by (suc (suc (suc k))) v p q r = omega arith

    -- d: the byte's bits, as the code has them
    pub next_on : (d : ℕ) → d ≡ b - 0x80 → Given (form (f.left - 1) (f.value * 0x40 + d) f.floor) (next_form f b)
    unfolding next_form
    next_on d e =
        let g = goes_on t in rw e (
          rw (ne_eqb f.left 4 n, lt-ltb 0 f.left g.0, le-leb 0x80 b g.1, le-leb b 0xBF g.2),
          (omega arith, by f.left f.value g.0 h.0 n h.1 g.2),
        )
      where
        by : (k v : ℕ) → 0 < k → k ≤ 4 → (k ≡ 4 → ⊥) → (v + 1) * size k ≤ 0x400000 → b ≤ 0xBF → (v * 0x40 + (b - 0x80) + 1) * size (k - 1) ≤ 0x400000
        by zero v p q z r m = absurd (omega arith)
        by (suc zero) v p q z r m = omega arith
        by (suc (suc zero)) v p q z r m = omega arith
        by (suc (suc (suc zero))) v p q z r m = omega arith
        by (suc (suc (suc (suc zero)))) v p q z r m = absurd (z refl)
        by (suc (suc (suc (suc (suc k))))) v p q z r m = absurd (omega arith)

-- ---- the range of a form
size_some : (k : ℕ) → 1 ≤ size k
size_some zero = omega arith
size_some (suc zero) = omega arith
size_some (suc (suc zero)) = omega arith
size_some (suc (suc (suc k))) = omega arith

max_larger : (a b : ℕ) → max a b ≡ larger a b
max_larger a b = ⊎_elim (λ h. rw (le-ltb a b h) (omega arith)) (λ h. rw (lt-ltb a b h) (omega arith)) (le_or_lt b a)

-- s: how many code points, as the code has it
module _ (f : Form) (s : ℕ) (e : s ≡ size f.left) where
  pub range_small : Bounded f → (1 ≤ s) × (f.value * s + s ≤ 0x400000)
  range_small h = rw e (size_some f.left, omega (arith, h.1))

  module _ (ranges : List Range) (l : ℕ) (g' : l ≡ max (f.value * s) f.floor) where
    g : l ≡ larger (f.value * s) f.floor
    g = g' ∙ max_larger (f.value * s) f.floor

    pub none_met : f.value * s + s - 1 < l → false ≡ form_begins ranges f
    unfolding form_begins least most
    none_met h = rw (← e, ← g, lt-leb l (f.value * s + s - 1) h)

    pub some_met : (r : Bool) → l ≤ f.value * s + s - 1 → r ≡ any (meets l (f.value * s + s - 1)) ranges → r ≡ form_begins ranges f
    unfolding form_begins least most
    some_met r h q = rw (← e, ← g, le-leb l (f.value * s + s - 1) h) q
