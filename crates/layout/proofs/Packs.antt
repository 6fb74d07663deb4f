-- Which numbers pack a strand.
use Prim.Native.Nat.{ℕ, zero, suc, ◌+◌, ◌*◌, ◌/◌, ◌%◌, ◌^◌, ◌<◌}
use mathlib.Core.Path.{◌≡◌, refl, sym, ap, ◌∙◌}
use mathlib.Core.Bool.{Bool, true, false, cond, not, ◌&&◌, ◌||◌, or-false}
use mathlib.Core.Option.{Option, none, some}
use native.Mathlib.Nat.{mod-eq_of_lt}
use native.Mathlib.Omega.{arith}
use borrow.Author.Tests.{eq-eqb, ne_eqb, eqb-true, eqb-false, lt-ltb, le-ltb, ltb-true}
use lib.Dec.{eqb, ltb}
use Rattle.laws.proofs.Flags.{flag_same}
use Rattle.table.specs.Table.{action_of}
use Rattle.strands.specs.Packed.{strand_in, packed, action_number, here_number, target_number}
use Rattle.layout.specs.Layout.{packs}

here_is : (h : ℕ) → h < 2 → here_number (eqb h 1) ≡ h * 128
here_is zero l = refl
here_is (suc zero) l = refl
here_is (suc (suc h)) l = absurd (omega arith)

action_is : (n : ℕ) → n < 3 → action_number (action_of n) ≡ n
action_is zero l = refl
action_is (suc zero) l = refl
action_is (suc (suc zero)) l = refl
action_is (suc (suc (suc n))) l = absurd (omega arith)

target_many : (o : Option ℕ) → target_number o % 256 ≡ 0
target_many none = refl
target_many (some u) = omega arith

-- a number's parts
split : (w : ℕ) → w ≡ w % 32 + w / 32 % 4 * 32 + w / 128 % 2 * 128 + w / 256 % 2 * 256 + w / 512 * 512
split w =
    let a : w / 32 / 4 ≡ w / 128 = omega arith in
    let b : w / 128 / 2 ≡ w / 256 = omega arith in
    let c : w / 256 / 2 ≡ w / 512 = omega arith in
    omega arith

-- bits 5 and 6 are 2 on the left, 3 on the right
apart : (m h t x y : ℕ) → m + 64 + h * 128 + t * 256 ≡ m + 96 + h * 128 + x * 256 + y * 512 → ⊥
apart m h t x y e =
    let z : t * 256 ≡ 32 + (x + y * 2) * 256 = omega arith in
    omega arith

module _ (w : ℕ) where
  action_bad : w / 32 % 4 ≡ 3 → false ≡ packs w
  unfolding packed strand_in
  action_bad h = sym (ne_eqb (packed (strand_in w)) w never)
    where
      never : packed (strand_in w) ≡ w → ⊥
      never e =
          let a : action_number (action_of (w / 32 % 4)) ≡ 2 = ap (λ (n : ℕ). action_number (action_of n)) h in
          let t : ℕ = target_number (cond (eqb (w / 2 ^ 8 % 2) 1) (some (w / 2 ^ 9 % 2 ^ 16)) none) in
          let f : t ≡ t / 256 * 256 = omega (arith, target_many (cond (eqb (w / 2 ^ 8 % 2) 1) (some (w / 2 ^ 9 % 2 ^ 16)) none)) in
          apart (w % 32) (w / 128 % 2) (t / 256) (w / 256 % 2) (w / 512) (omega (arith, split w, here_is (w / 2 ^ 7 % 2) (omega arith)))

  module _ (h : w / 32 % 4 ≡ 3 → ⊥) where
    aimed_value : w / 256 % 2 ≡ 1 → packed (strand_in w) ≡ w % 512 + w / 512 % 65536 * 512
    unfolding packed strand_in
    aimed_value e =
        rw (eq-eqb (w / 2 ^ 8 % 2) 1 e)
        (omega (arith, split w, here_is (w / 2 ^ 7 % 2) (omega arith), action_is (w / 32 % 4) (omega arith)))

    free_value : (w / 256 % 2 ≡ 1 → ⊥) → packed (strand_in w) ≡ w % 256
    unfolding packed strand_in
    free_value e =
        rw (ne_eqb (w / 2 ^ 8 % 2) 1 e)
        (omega (arith, split w, here_is (w / 2 ^ 7 % 2) (omega arith), action_is (w / 32 % 4) (omega arith)))

    whole : w < 33554432 → w % 512 + w / 512 % 65536 * 512 ≡ w
    whole l =
        let q : w / 512 < 65536 = omega arith in
        let r : w / 512 % 65536 ≡ w / 512 = mod-eq_of_lt q in
        omega arith

    packs_aimed : w / 256 % 2 ≡ 1 → ltb w 33554432 ≡ packs w
    packs_aimed e =
        let v = aimed_value e in
        flag_same (ltb w 33554432) (packs w) (λ l. eq-eqb (packed (strand_in w)) w (v ∙ whole (ltb-true w 33554432 l))) (λ l. let k : packed (strand_in w) ≡ w = eqb-true (packed (strand_in w)) w l in lt-ltb w 33554432 (omega arith))

    packs_free : (w / 256 % 2 ≡ 1 → ⊥) → ltb w 256 ≡ packs w
    packs_free e =
        let v = free_value e in
        flag_same (ltb w 256) (packs w) (λ l. let k : w < 256 = ltb-true w 256 l in eq-eqb (packed (strand_in w)) w (omega arith)) (λ l. let k : packed (strand_in w) ≡ w = eqb-true (packed (strand_in w)) w l in lt-ltb w 256 (omega arith))

-- the test of all three, without a branch
pub packs_by : (w : ℕ) → (not (eqb (w / 32 % 4) 3) && ((eqb (w / 256 % 2) 1 && ltb w 33554432) || ltb w 256)) ≡ packs w
packs_by w = by (eqb (w / 32 % 4) 3) (eqb (w / 256 % 2) 1) refl refl
  where
    by : (a t : Bool) → eqb (w / 32 % 4) 3 ≡ a → eqb (w / 256 % 2) 1 ≡ t → (not a && ((t && ltb w 33554432) || ltb w 256)) ≡ packs w
    by true t e d = action_bad w (eqb-true (w / 32 % 4) 3 e)
    by false true e d =
        let k : w / 256 % 2 ≡ 1 = eqb-true (w / 256 % 2) 1 d in
        ap (λ (u : Bool). ltb w 33554432 || u) (le-ltb w 256 (omega arith)) ∙ or-false (ltb w 33554432) ∙ packs_aimed w (eqb-false (w / 32 % 4) 3 e) k
    by false false e d = packs_free w (eqb-false (w / 32 % 4) 3 e) (eqb-false (w / 256 % 2) 1 d)

pub zero_packs : (w : ℕ) → eqb w 0 ≡ true → packs w ≡ true
zero_packs w e = ap packs (eqb-true w 0 e) ∙ sym (packs_by 0)
