-- Bytes below 128: the test of a name byte by the bits of two numbers, and the sets of characters on them, tried at every such byte.
--     low_bits, high_bits, no_bits         a byte below 64, below 128, any other
--     start_ascii, name_ascii, char_ascii  the code's tests of such bytes are the sets'
use Prim.Native.Nat.{ℕ, ◌+◌, ◌-◌, ◌/◌, ◌%◌, ◌^◌, ◌≤◌, ◌<◌}
use mathlib.Core.Path.{◌≡◌, refl, sym, ◌∙◌}
use mathlib.Core.Bool.{Bool, true, false, not, and-false}
use native.Mathlib.Nat.{mod-eq_of_lt}
use native.Mathlib.Omega.{arith}
use borrow.Author.Tests.{ne_eqb, lt-leb}
use lib.Bits.{bit_and}
use lib.Dec.{eqb}
use lib.ListN.{get_or}
use Rattle.laws.specs.Bits.{mask1}
use mathlib.Core.List.{[]}
use mathlib.Core.Logic.{⊎_elim}
use Rattle.laws.specs.Lists.{any, all, tabulate}
use Rattle.laws.specs.Reading.{le_or_lt}
use Rattle.laws.proofs.Flags.{differ}
use Rattle.laws.proofs.Lists.{get_d_tabulate, length_tabulate}
use Rattle.laws.proofs.Members.{in_at, all_in}
use Rattle.utf8.specs.Sets.{member, ranges_of}
use Rattle.utf8.specs.declared.Set.{Set}
use Rattle.utf8.specs.declared.Set.TheVariants as set
use Rattle.characters.specs.CanBegin.{begins}
use Rattle.characters.proofs.Laws.{ascii_begins}
use Rattle.lexer.specs.Shortcuts.{is_start, is_name, is_char}

-- two tests agree
abbrev alike : Bool → Bool → Bool
alike true b = b
alike false b = not b

alike_same : (a b : Bool) → alike a b ≡ true → a ≡ b
alike_same true b e = sym e
alike_same false true e = e
alike_same false false e = refl

-- the bit of a byte, one of 64, is the answer on it
abbrev right : ℕ → ℕ → Bool
right word b = alike (eqb (word / 2 ^ (b % 64) % 2) 1) (is_name b)

bit : (word from b : ℕ) → all (right word) (tabulate (λ (k : ℕ). k) from 64) ≡ true → from ≤ b → b < from + 64 → eqb (bit_and (word / 2 ^ (b % 64)) 1) 1 ≡ is_name b
bit word from b e l h =
    let bytes = tabulate (λ (k : ℕ). k) from 64 in
    let n : b - from < 64 = omega arith in
    let q : get_or bytes (b - from) 0 ≡ b = get_d_tabulate (λ (k : ℕ). k) from 64 (b - from) 0 n ∙ omega arith in
    let r : right word (get_or bytes (b - from) 0) ≡ true = all_in (right word) _ bytes e (in_at bytes (b - from) 0 (rw (length_tabulate (λ (k : ℕ). k) from 64) n)) in
    rw (mask1 (word / 2 ^ (b % 64))) (alike_same _ _ (rw q at r))

pub low_bits : (b : ℕ) → b < 64 → eqb (bit_and (0x03FF600000000000 / 2 ^ b) 1) 1 ≡ is_name b
unfolding all tabulate
low_bits b h = let m : b % 64 ≡ b = mod-eq_of_lt h in rw m at (bit 0x03FF600000000000 0 b refl (omega arith) (omega arith))

pub high_bits : (b : ℕ) → 64 ≤ b → b < 128 → eqb (bit_and (0x07FFFFFE87FFFFFE / 2 ^ (b % 64)) 1) 1 ≡ is_name b
unfolding all tabulate
high_bits b l h = bit 0x07FFFFFE87FFFFFE 64 b refl l h

pub no_bits : (b : ℕ) → 128 ≤ b → false ≡ is_name b
no_bits b h =
    simp (
      lt-leb b 0x5A (omega arith),
      lt-leb b 0x7A (omega arith),
      lt-leb b 0x39 (omega arith),
      ne_eqb b 0x2D (λ e. omega arith),
      ne_eqb b 0x2E (λ e. omega arith),
      ne_eqb b 0x5F (λ e. omega arith),
      and-false,
    )

no_start : (b : ℕ) → 128 ≤ b → false ≡ is_start b
no_start b h = simp (lt-leb b 0x5A (omega arith), lt-leb b 0x7A (omega arith), ne_eqb b 0x5F (λ e. omega arith), and-false)

-- ---- the sets
module _ (x : Set) (test : ℕ → Bool) where
  abbrev fits : ℕ → Bool
  fits b = alike (test b) (member (ranges_of x) b)

  fit : all fits (tabulate (λ (k : ℕ). k) 0 128) ≡ true → (b : ℕ) → b < 128 → test b ≡ member (ranges_of x) b
  fit e b h =
      let bytes = tabulate (λ (k : ℕ). k) 0 128 in
      let q : get_or bytes b 0 ≡ b = get_d_tabulate (λ (k : ℕ). k) 0 128 b 0 h ∙ omega arith in
      let r : fits (get_or bytes b 0) ≡ true = all_in fits _ bytes e (in_at bytes b 0 (rw (length_tabulate (λ (k : ℕ). k) 0 128) h)) in
      alike_same _ _ (rw q at r)

pub start_ascii : (b : ℕ) → b < 128 → is_start b ≡ begins set.Start [] b
unfolding all tabulate member any
start_ascii b h = fit set.Start is_start refl b h ∙ sym (ascii_begins set.Start b h)

pub name_ascii : (b : ℕ) → b < 128 → is_name b ≡ begins set.Name [] b
unfolding all tabulate member any
name_ascii b h = fit set.Name is_name refl b h ∙ sym (ascii_begins set.Name b h)

pub char_ascii : (b : ℕ) → b < 128 → is_char b ≡ member (ranges_of set.Char) b
unfolding all tabulate member any
char_ascii b h = fit set.Char is_char refl b h

-- a byte that the name tests take is below 128
pub start_low : (b : ℕ) → is_start b ≡ true → b < 128
start_low b e = ⊎_elim (λ h. absurd (differ (sym e ∙ sym (no_start b h)))) (λ h. h) (le_or_lt 128 b)

pub name_low : (b : ℕ) → is_name b ≡ true → b < 128
name_low b e = ⊎_elim (λ h. absurd (differ (sym e ∙ sym (no_bits b h)))) (λ h. h) (le_or_lt 128 b)
