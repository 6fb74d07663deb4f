-- Demand 2: what a run hands back for every table, scene and output. Definitions.
use Rattle.std.specs.Prelude.{ℕ, ◌*◌, ◌≤◌, ◌≡◌, List, length, take, drop}
use Rattle.table.specs.Table.{decode}
use Rattle.reader.specs.Events.{refusal, finished, events, last_of}
use Rattle.model.specs.Dispatch.{expected}
use Rattle.sessions.specs.Stepping.{Run}
use Rattle.demands.specs.Scenes.{model_count, whole_model}

pub record SceneRun (table s out : List ℕ) (r : Run) : Type 0 where
  -- "until a step's number is not 0", and no session of its own is refused with 20
  pub not_event : r.answer.number ≡ 0 → ⊥
  pub not_20 : r.answer.number ≡ 20 → ⊥
  -- "events (steps that gave 0), records (those written)": its records are the model's of the tree of its events, closed where it stopped
  pub few : r.answer.events ≤ length (events s)
  pub counted : r.answer.records ≡ model_count (decode table) s r.answer.events
  pub room : 16 * r.answer.records ≤ length out
  pub records : take (16 * r.answer.records) r.output ≡ expected (decode table) s r.answer.events
  -- "Output bytes past the records keep their values"
  pub rest : drop (16 * r.answer.records) r.output ≡ drop (16 * r.answer.records) out
  -- 1 to 6: the scene's events are taken, and the reader says so
  pub read : r.answer.number ≤ 6 → (r.answer.events ≡ length (events s)) × (last_of s ≡ refusal r.answer.number r.answer.place)
  -- "9 finished: root closed, only space follows (scene length)": the records are the model's of the whole scene
  pub whole : r.answer.number ≡ 9 → (r.answer.events ≡ length (events s)) × (last_of s ≡ finished (length s)) × (r.answer.place ≡ length s) × (take (16 * r.answer.records) r.output ≡ whole_model (decode table) s)
