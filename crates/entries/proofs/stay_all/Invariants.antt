-- `strands::entries::stay_all` meets its contract: what is laid and what is left are the level's strands, which stay.
use mathlib.Core.Path.{◌≡◌}
use mathlib.Core.List.{map}
use Prim.Native.Nat.{◌≤◌, ◌<◌}
use lib.ListN.{length}
use Rattle.strands.specs.Packed.{words_at}
use Rattle.strands.specs.Levels.{level_strands}
use Rattle.strands.specs.Entries.{stay_entry}
use Rattle.entries.proofs.Laying.{Laying, row_from}
use Rattle.entries.proofs.stay_all.Given as goal

abbrev pub invariant-loop-j : goal.invariant-loop-j
invariant-loop-j l = (l.j ≤ l.n) × (l.n ≤ 16) × (l.level < 64) × (length l.initial.words ≡ 16) × (length l.initial.schemas ≡ 16) × (length l.words ≡ 16) × (length l.schemas ≡ 16) × Laying (map stay_entry (words_at (level_strands l.levels) l.level l.n)) l.initial.words l.initial.schemas 0 l.words l.schemas l.j (map stay_entry (row_from (level_strands l.levels) l.level l.n l.j))
