-- `strands::entries::take_all` meets its contract: what is laid and what the strands behind make are all that the level makes.
use Prim.Native.Nat.{◌≤◌, ◌<◌}
use Rattle.strands.specs.Packed.{words_at}
use Rattle.strands.specs.Levels.{level_strands}
use Rattle.strands.specs.Entries.{entries_from}
use Rattle.entries.proofs.Laying.{Laying, row_from}
use Rattle.entries.proofs.take_all.Given as goal

abbrev pub invariant-loop-j : goal.invariant-loop-j
invariant-loop-j l = (l.j ≤ l.n) × (l.k ≤ 16) × (l.n ≤ 16) × (l.level < 64) × Laying (entries_from l.index l.class (words_at (level_strands l.levels) l.level l.n)) l.initial.words l.initial.schemas 0 l.words l.schemas l.k (entries_from l.index l.class (row_from (level_strands l.levels) l.level l.n l.j))
