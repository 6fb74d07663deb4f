-- A strand packed in a number is read back, and 32 bits hold it.
use Prim.Native.Nat.{ℕ, ◌+◌, ◌*◌, ◌/◌, ◌%◌, ◌^◌, ◌<◌}
use mathlib.Core.Path.{◌≡◌, refl, ap₂}
use mathlib.Core.List.{List, [], ◌∷◌, map}
use mathlib.Core.Bool.{Bool, true, false, cond}
use mathlib.Core.Option.{Option, none, some}
use native.Mathlib.Omega.{arith}
use lib.Dec.{eqb}
use Rattle.laws.specs.Members.{All}
use Rattle.table.specs.Table.{action_of}
use Rattle.table.specs.declared.Action.{Action}
use Rattle.table.specs.declared.Action.TheVariants.{Attach, Unwrap, Validate}
use Rattle.model.specs.Stream.{HeldStrand}
use Rattle.model.proofs.Steps.{Below}
use Rattle.strands.specs.Packed.{strand_in, packed, action_number, target_number, here_number}

-- what a number holds of a strand: five bits for its mode, sixteen for its target
pub record Packable (r : HeldStrand ℕ) : Type 0 where
  pub mode_in : r.mode < 32
  pub target_in_lem : Below 65536 r.target

-- the parts of a number, and the number they make
record Parts (w mode action here aimed target : ℕ) : Type 0 where
  pub mode_is : w % 2 ^ 5 ≡ mode
  pub action_is : w / 2 ^ 5 % 2 ^ 2 ≡ action
  pub here_is : w / 2 ^ 7 % 2 ≡ here
  pub aimed_is : w / 2 ^ 8 % 2 ≡ aimed
  pub target_is : w / 2 ^ 9 % 2 ^ 16 ≡ target
  pub small : w < 2 ^ 32

parts : (w mode action here aimed target : ℕ) → w ≡ mode + action * 32 + here * 128 + (aimed * 256 + target * 512)
    → mode < 32 → action < 4 → here < 2 → aimed < 2 → target < 65536 → Parts w mode action here aimed target
parts w mode action here aimed target e m a h b u =
    record { mode_is = omega arith; action_is = omega arith; here_is = omega arith; aimed_is = omega arith; target_is = omega arith; small = omega arith }

-- the parts of a strand
abbrev bit : Bool → ℕ
bit false = 0
bit true = 1

abbrev aimed : Option ℕ → ℕ
aimed none = 0
aimed (some u) = 1

abbrev place : Option ℕ → ℕ
place none = 0
place (some u) = u

action_few : (a : Action) → action_number a < 4
action_few Attach = omega arith
action_few Unwrap = omega arith
action_few Validate = omega arith

action_back : (a : Action) → action_of (action_number a) ≡ a
action_back Attach = refl
action_back Unwrap = refl
action_back Validate = refl

bit_few : (b : Bool) → (bit b < 2) × (here_number b ≡ bit b * 128)
bit_few false = omega arith
bit_few true = omega arith

bit_back : (b : Bool) → eqb (bit b) 1 ≡ b
bit_back false = refl
bit_back true = refl

target_few : (o : Option ℕ) → Below 65536 o → (aimed o < 2) × (place o < 65536) × (target_number o ≡ aimed o * 256 + place o * 512)
target_few none h = omega arith
target_few (some u) h = omega arith

target_back : (o : Option ℕ) → cond (eqb (aimed o) 1) (some (place o)) none ≡ o
target_back none = refl
target_back (some u) = refl

module _ (r : HeldStrand ℕ) (h : Packable r) where
  split : Parts (packed r) r.mode (action_number r.action) (bit r.here) (aimed r.target) (place r.target)
  unfolding packed
  split =
      let b = bit_few r.here in
      let t = target_few r.target h.target_in_lem in
      parts (packed r) r.mode (action_number r.action) (bit r.here) (aimed r.target) (place r.target) (omega arith) h.mode_in (action_few r.action) b.0 t.0 t.1

  pub packed_back : strand_in (packed r) ≡ r
  unfolding strand_in
  packed_back =
      let p = split in
      rw (p.mode_is, p.action_is, p.here_is, p.aimed_is, p.target_is, action_back r.action, bit_back r.here, target_back r.target)

  pub packed_small : packed r < 2 ^ 32
  packed_small = split.small

pub packed_all : (rs : List (HeldStrand ℕ)) → All Packable rs → map strand_in (map packed rs) ≡ rs
packed_all [] h = refl
packed_all (r ∷ rs) h = ap₂ ◌∷◌ (packed_back r h.0) (packed_all rs h.1)

pub packed_all_small : (rs : List (HeldStrand ℕ)) → All Packable rs → All (λ (w : ℕ). w < 2 ^ 32) (map packed rs)
packed_all_small [] h = tt
packed_all_small (r ∷ rs) h = (packed_small r h.0, packed_all_small rs h.1)
