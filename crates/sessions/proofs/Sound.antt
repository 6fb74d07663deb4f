-- What every session that steps hand back holds: a device of the proofs. `Fits`: its arrays and counts. `Sound`: with a table and a scene.
use Prim.Native.Nat.{ℕ, ◌≤◌, ◌<◌}
use mathlib.Core.Path.{◌≡◌}
use mathlib.Core.List.{List}
use mathlib.Core.Logic.{◌⊎◌}
use lib.ListN.{length}
use Rattle.laws.specs.Members.{All}
use Rattle.table.specs.Table.{Table}
use Rattle.reader.specs.Held.{Held, SpanHeld}
use Rattle.reader.proofs.Opens.{CountedScope}
use Rattle.model.specs.Stream.{Level, HeldStrand}
use Rattle.model.specs.Dispatch.{dispatch}
use Rattle.model.proofs.Steps.{Below, HasTarget}
use Rattle.sessions.specs.Sessions.{reader_of, state_of}
use Rattle.sessions.specs.Session.{Session}

pub record Fits (z : Session) : Type 0 where
  pub levels_long : length z.scope.levels ≡ 192
  pub bindings_long : length z.scope.bindings ≡ 256
  pub spaces_long : length z.spaces ≡ 256
  pub strands_long : length z.strands ≡ 1024
  pub counted : CountedScope z.scope
  pub shallow : z.scope.depth ≤ 64
  pub few : z.scope.bound ≤ 64

pub record StrandSound (t : Table) (units : ℕ) (r : HeldStrand ℕ) : Type 0 where
  pub mode_in : r.mode < t.modes
  pub below : Below units r.target
  pub aims : HasTarget r.action r.target

pub record LevelSound (t : Table) (s : List ℕ) (units : ℕ) (l : Level (dispatch t)) : Type 0 where
  pub some_strand : 1 ≤ length l.strands
  pub few_strands : length l.strands ≤ 16
  pub class_in_lem : (l.at.space.class ≤ length t.uris) ⊎ ((l.at.space.class ≡ 254) ⊎ (l.at.space.class ≡ 255))
  pub uri_inside : SpanHeld s l.at.space.uri
  pub strands : All (StrandSound t units) l.strands

pub record Sound (t : Table) (s : List ℕ) (z : Session) : Type 0 where
  pub fits : Fits z
  pub held : Held s (reader_of z)
  pub levels : All (LevelSound t s z.units) (state_of t s z).levels
  pub few_units : z.units ≤ 65536
