-- For demand 2: the model of a whole scene, and the reader's state behind its events. No session or step comes into it. Definitions.
use Rattle.std.specs.Prelude.{ℕ, zero, suc, List, map, length, take}
use Rattle.laws.specs.Gather.{gather}
use Rattle.table.specs.Table.{Table}
use Rattle.reader.specs.Events.{ReaderState, Next, event, refusal, finished, next, events}
use Rattle.model.specs.Tree.{tree_of}
use Rattle.model.specs.Model.{model_of, cut_model}
use Rattle.model.specs.Dispatch.{dispatch, told, joined_bytes}

-- how many records the model has for the first so many events, as `expected` has their bytes
unfoldable pub model_count : Table → List ℕ → ℕ → ℕ
model_count t s k = length (gather (λ x. x) (cut_model (dispatch t) (map (told t s) (take k (events s)))))

-- the bytes of the model's records of the whole scene: of the tree of all its events
unfoldable pub whole_model : Table → List ℕ → List ℕ
whole_model t s = joined_bytes (model_of (dispatch t) (tree_of (dispatch t) (map (told t s) (events s))))

-- the reader's state behind so many events; its last where there are fewer
abbrev pub behind_next : ReaderState → Next → ReaderState
behind_next z (event e z') = z'
behind_next z (refusal n p) = z
behind_next z (finished p) = z

unfoldable pub reader_after : ℕ → List ℕ → ReaderState → ReaderState
reader_after zero s z = z
reader_after (suc k) s z = reader_after k s (behind_next z (next s z))
