-- 'Calls': a level's strands, each packed in a number of 32 bits. Every number means a strand, so that number 20 has nothing to say of packing. Definitions.
use Rattle.std.specs.Prelude.{ℕ, ◌+◌, ◌*◌, ◌/◌, ◌%◌, ◌^◌, List, Bool, true, false, cond, get_or, eqb}
use Rattle.std.proofs.Math.Option.{Option, none, some}
use Rattle.laws.specs.Lists.{tabulate}
use Rattle.table.specs.Table.{action_of}
use Rattle.table.specs.declared.Action.{Action}
use Rattle.table.specs.declared.Action.TheVariants.{Attach, Unwrap, Validate}
use Rattle.model.specs.Stream.{HeldStrand, receiver}

-- a strand in a number: mode 5 bits, action 2, opened here 1, has a target 1, target 16, from the lowest on
unfoldable pub strand_in : ℕ → HeldStrand ℕ
strand_in w =
    record {
      mode = w % 2 ^ 5;
      action = action_of (w / 2 ^ 5 % 2 ^ 2);
      target = cond (eqb (w / 2 ^ 8 % 2) 1) (some (w / 2 ^ 9 % 2 ^ 16)) none;
      here = eqb (w / 2 ^ 7 % 2) 1;
    }

abbrev pub action_number : Action → ℕ
action_number Attach = 0
action_number Unwrap = 1
action_number Validate = 2

abbrev pub target_number : Option ℕ → ℕ
target_number none = 0
target_number (some u) = 2 ^ 8 + u * 2 ^ 9

abbrev pub here_number : Bool → ℕ
here_number false = 0
here_number true = 2 ^ 7

unfoldable pub packed : HeldStrand ℕ → ℕ
packed r = r.mode + action_number r.action * 2 ^ 5 + here_number r.here + target_number r.target

-- the numbers of a level's strands: sixteen places to a level
abbrev pub words_at : List ℕ → ℕ → ℕ → List ℕ
words_at strands level count = tabulate (λ (i : ℕ). get_or strands i 0) (16 * level) count

-- the unit that gets what a strand delivers
abbrev pub receives : HeldStrand ℕ → Option ℕ
receives r = receiver r.action r.target

abbrev pub is_unit : Option ℕ → Bool
is_unit none = false
is_unit (some u) = true

-- the bits of a target
abbrev pub target_in : ℕ → ℕ
target_in w = w / 2 ^ 9 % 2 ^ 16
