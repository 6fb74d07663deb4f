-- `lay_rows` lays the words of the start, then those of the attributes: of the first k after k turns.
use Prim.Native.Nat.{ℕ, ◌≤◌}
use mathlib.Core.Path.{◌≡◌}
use mathlib.Core.List.{List}
use lib.ListN.{length}
use Rattle.laws.specs.Over.{overwrite}
use Rattle.model.specs.Records.{Body}
use Rattle.attributes.specs.Attributes.{attributes_in}
use Rattle.start_records.proofs.Copies.{laid_words}
use Rattle.start_records.proofs.elements.lay_rows.Given as goal

abbrev pub invariant-loop-k : goal.invariant-loop-k
invariant-loop-k l =
    (l.k ≤ l.n) × (length l.rows ≡ 82)
    × ((begun : Body) (rows sections : List ℕ) → l.initial.rows ≡ overwrite rows 0 (laid_words begun (attributes_in l.attributes) sections 0) → l.rows ≡ overwrite rows 0 (laid_words begun (attributes_in l.attributes) sections l.k))
