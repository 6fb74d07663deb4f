-- The session that a run starts from is sound, with every table and scene.
use mathlib.Core.List.{List}
use Prim.Native.Nat.{ℕ}
use native.Mathlib.Omega.{arith}
use lib.ListN.{length-replicate}
use Rattle.table.specs.Table.{Table}
use Rattle.reader.specs.Scope.{opens_in}
use Rattle.reader.proofs.Held.{held_fresh}
use Rattle.reader.proofs.Opens.{fresh_counted}
use Rattle.sessions.specs.Sessions.{levels_in, fresh_of}
use Rattle.sessions.proofs.Sound.{Fits, Sound}

fits_fresh : Fits fresh_of
fits_fresh =
    record {
      levels_long = length-replicate {A = ℕ} 192 0;
      bindings_long = length-replicate {A = ℕ} 256 0;
      spaces_long = length-replicate {A = ℕ} 256 0;
      strands_long = length-replicate {A = ℕ} 1024 0;
      counted = fresh_counted;
      shallow = omega arith;
      few = omega arith;
    }

pub sound_fresh : (t : Table) (s : List ℕ) → Sound t s fresh_of
unfolding levels_in opens_in
sound_fresh t s = record { fits = fits_fresh; held = held_fresh s; levels = tt; few_units = omega arith }
