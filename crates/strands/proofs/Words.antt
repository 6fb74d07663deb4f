-- A strand's number as the code reads it and makes it.
use Prim.Native.Nat.{ℕ, ◌+◌, ◌*◌, ◌/◌, ◌%◌, ◌^◌, ◌≤◌, ◌<◌}
use mathlib.Core.Path.{◌≡◌, refl, sym, ap, ◌∙◌}
use mathlib.Core.List.{List, [], ◌∷◌, ◌++◌}
use mathlib.Core.Bool.{Bool, true, false, cond, not, ◌&&◌}
use mathlib.Core.Option.{none, some}
use native.Mathlib.Omega.{arith}
use borrow.Author.Tests.{eq-eqb, ne_eqb, eqb-true}
use denote.Enum.Declared.{tag_of}
use lib.Dec.{eqb}
use lib.ListN.{get_or}
use Rattle.reader.proofs.Tabulated.{tabulate_append}
use Rattle.laws.specs.Lists.{tabulate}
use Rattle.table.specs.Table.{action_of}
use Rattle.table.specs.declared.Action.{Action}
use Rattle.table.specs.declared.Action.TheVariants.{Attach, Unwrap, Validate}
use Rattle.table.specs.declared.Rule.{Rule}
use Rattle.table.specs.contracts.Action.{the_type}
use Rattle.model.specs.Stream.{HeldStrand, receiver, stay}
use Rattle.strands.specs.Packed.{strand_in, packed, action_number, target_number, here_number, words_at, receives, is_unit, target_in}
use Rattle.strands.specs.Entries.{made_by, aimed_at}

-- a target and an action as a number has them, and the unit that gets what is delivered
of_action : (a : Bool) (u : ℕ) (z o : Bool) → (z ≡ true → o ≡ false) → receiver (cond z Attach (cond o Unwrap Validate)) (cond a (some u) none) ≡ cond (a && not o) (some u) none
of_action true u true o h = rw (h refl)
of_action false u true o h = refl
of_action true u false true h = refl
of_action true u false false h = refl
of_action false u false true h = refl
of_action false u false false h = refl

pub receiver_is : (a : Bool) (u n : ℕ) → receiver (action_of n) (cond a (some u) none) ≡ cond (a && not (eqb n 1)) (some u) none
receiver_is a u n = of_action a u (eqb n 0) (eqb n 1) (λ e. ne_eqb n 1 (λ q. let z : n ≡ 0 = eqb-true n 0 e in omega arith))

is_unit_lem : (t : Bool) (u : ℕ) → is_unit (cond t (some u) none) ≡ t
is_unit_lem true u = refl
is_unit_lem false u = refl

aimed_few : (t : Bool) (u : ℕ) → u < 65536 → target_number (cond t (some u) none) < 33554432
aimed_few true u h = omega arith
aimed_few false u h = omega arith

module _ (w : ℕ) where
  pub delivers_is : (eqb (w / 256 % 2) 1 && not (eqb (w / 32 % 4) 1)) ≡ is_unit (receives (strand_in w))
  unfolding strand_in
  delivers_is =
      sym
      (ap is_unit (receiver_is (eqb (w / 256 % 2) 1) (w / 512 % 65536) (w / 32 % 4))
      ∙ is_unit_lem (eqb (w / 256 % 2) 1 && not (eqb (w / 32 % 4) 1)) (w / 512 % 65536))

  pub aim_some : (u : ℕ) → w / 256 % 2 ≡ 1 → u ≡ target_in w → 256 + u * 512 ≡ target_number (strand_in w).target
  unfolding strand_in
  aim_some u h e = rw (eq-eqb (w / 2 ^ 8 % 2) 1 h) (omega arith)

  pub aim_none : (w / 256 % 2 ≡ 1 → ⊥) → 0 ≡ target_number (strand_in w).target
  unfolding strand_in
  aim_none h = rw (ne_eqb (w / 2 ^ 8 % 2) 1 h)

  -- bits 8 to 24
  pub aim_few : target_number (strand_in w).target < 33554432
  unfolding strand_in
  aim_few = aimed_few (eqb (w / 2 ^ 8 % 2) 1) (w / 2 ^ 9 % 2 ^ 16) (omega arith)

  pub stay_is : (action aim : ℕ) → action ≡ action_number (action_of (w / 32 % 4)) → aim ≡ target_number (strand_in w).target
      → w % 32 + action * 32 + aim ≡ packed (stay (strand_in w))
  unfolding packed strand_in
  stay_is action aim e f = omega arith

-- an action as a number
pub tag_is : (a : Action) → tag_of the_type a ≡ action_number a
tag_is Attach = refl
tag_is Unwrap = refl
tag_is Validate = refl

pub action_few : (a : Action) → action_number a ≤ 2
action_few Attach = omega arith
action_few Unwrap = omega arith
action_few Validate = omega arith

-- what a rule makes, by its action
module _ (r : HeldStrand ℕ) (q : Rule) where
  pub made_attach : (aim next : ℕ) → next ≡ q.next → q.action ≡ Attach → aim ≡ target_number r.target → next + aim ≡ packed (made_by r q).strand
  unfolding packed
  made_attach aim next n e f = rw e (omega arith)

  pub made_unwrap : (aim next : ℕ) → next ≡ q.next → q.action ≡ Unwrap → aim ≡ target_number r.target → next + 32 + aim ≡ packed (made_by r q).strand
  unfolding packed
  made_unwrap aim next n e f = rw e (omega arith)

  pub made_validate : (next : ℕ) → next ≡ q.next → q.action ≡ Validate → next + 64 + 128 ≡ packed (made_by r q).strand
  unfolding packed
  made_validate next n e = rw e (omega arith)

-- a strand without a target fills eight bits
eight_bits : (mode unit here aim : ℕ) (a : Action) → mode < 32 → here ≤ 128 → aim ≡ 0
    → (mode + action_number a * 2 ^ 5 + here + aim) % 256 + 256 + unit * 512 ≡ mode + action_number a * 2 ^ 5 + here + (2 ^ 8 + unit * 2 ^ 9)
eight_bits mode unit here aim Attach m h e = omega arith
eight_bits mode unit here aim Unwrap m h e = omega arith
eight_bits mode unit here aim Validate m h e = omega arith

here_few : (b : Bool) → here_number b ≤ 128
here_few true = omega arith
here_few false = omega arith

pub aimed_is : (w unit : ℕ) (r : HeldStrand ℕ) → w ≡ packed r → r.target ≡ none → r.mode < 32 → w % 256 + 256 + unit * 512 ≡ packed (aimed_at r unit)
unfolding packed
aimed_is w unit r e n m =
    ap (λ (k : ℕ). k % 256 + 256 + unit * 512) e
    ∙ eight_bits r.mode unit (here_number r.here) (target_number r.target) r.action m (here_few r.here) (ap target_number n)

-- one more strand of a level
pub words_none : (strands : List ℕ) (level : ℕ) → words_at strands level 0 ≡ []
unfolding tabulate
words_none strands level = refl

pub words_more : (strands : List ℕ) (level j : ℕ) → words_at strands level (j + 1) ≡ words_at strands level j ++ (get_or strands (16 * level + j) 0 ∷ [])
unfolding tabulate
words_more strands level j = tabulate_append (λ (i : ℕ). get_or strands i 0) (16 * level) j 1
