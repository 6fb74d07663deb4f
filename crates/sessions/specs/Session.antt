-- "A session holds ..": the numbers in which it does. The session type of the calls holds the same (`held_by` in dispatcher). A definition.
use Rattle.std.specs.Prelude.{ℕ, List, Bool}
use Rattle.reader.specs.declared.Scope.{Scope}

-- "the place, units opened so far, whether the root has closed, whether the end of a /> is awaited"; the open levels' names and counts of bindings, and
-- the open bindings; four numbers to a level: its class, its URI's place and length, how many strands it has; sixteen strands to a level, each packed in
-- a number
pub record Session : Type 0 where
  pub place : ℕ
  pub units : ℕ
  pub closed : Bool
  pub awaited : Bool
  pub scope : Scope
  pub spaces : List ℕ
  pub strands : List ℕ
