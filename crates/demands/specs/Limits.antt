-- Numbers 21 to 24 of a scene, by the reader and the model; how a run ends that has room. No session or step comes into it. Definitions.
use Rattle.std.specs.Prelude.{ℕ, zero, suc, ◌≤◌, ◌<◌, ◌≡◌, List, [], cond, length, take, get_or, ltb, eqb}
use mathlib.Core.List as list
use Rattle.std.proofs.Math.Option.{Option, none, some}
use Rattle.laws.specs.Gather.{gather}
use Rattle.table.specs.Table.{Table}
use Rattle.reader.specs.Spans.{span}
use Rattle.reader.specs.Events.{Start, start, text, Next, event, refusal, finished, fresh_reader, bindings_of, events, last_of}
use Rattle.model.specs.Tree as tree
use Rattle.model.specs.Tree.{Tree, still_open, completed, tree_of}
use Rattle.model.specs.Model.{assigned_at, units_opened, model_of, assigned_of}
use Rattle.model.specs.Dispatch.{dispatch, told}
use Rattle.sessions.specs.Stepping.{event_place}
use Rattle.demands.specs.Scenes.{reader_after}

-- the events of a scene as the dispatcher takes them, and their tree, closed behind the last
abbrev pub told_all : (t : Table) → List ℕ → List (tree.TreeEvent (dispatch t))
told_all t s = list.map (told t s) (events s)

abbrev pub closed_tree : (t : Table) → List ℕ → Option (Tree (dispatch t))
closed_tree t s = tree_of (dispatch t) (completed (dispatch t) (told_all t s))

-- behind the k-th event: the elements open, and the bindings open
abbrev pub depth_at : Table → List ℕ → ℕ → ℕ
depth_at t s k = length (still_open (dispatch t) [] (take (suc k) (told_all t s)))

abbrev pub bound_at : List ℕ → ℕ → ℕ
bound_at s k = length (bindings_of (reader_after (suc k) s fresh_reader).opened)

-- the strands that the model gives the element of the k-th event; the units that its list has opened by then
abbrev pub strands_at : Table → List ℕ → ℕ → ℕ
strands_at t s k = length (get_or (assigned_of (dispatch t) (closed_tree t s)) k (assigned_at 0 [] [])).strands

abbrev pub units_at : Table → List ℕ → ℕ → ℕ
units_at t s k = length (units_opened (gather (λ x. x) (take (suc k) (model_of (dispatch t) (closed_tree t s)))))

-- the number of the limit that the k-th event passes, 0 for none. "21 depth 65; 22 a 65th open binding; 23 a 17th strand; 24 a unit past 65,535", in
-- this order
unfoldable pub passed : Table → List ℕ → ℕ → ℕ
passed t s k =
    cond (ltb 64 (depth_at t s k)) 21
    (cond (ltb 64 (bound_at s k)) 22 (cond (ltb 16 (strands_at t s k)) 23 (cond (ltb 65536 (units_at t s k)) 24 0)))

-- a scene whose first so many events pass no limit; one none of whose events does
abbrev pub WithinFirst : Table → List ℕ → ℕ → Type 0
WithinFirst t s n = (k : ℕ) → k < n → passed t s k ≡ 0

abbrev pub Within : Table → List ℕ → Type 0
Within t s = WithinFirst t s (length (events s))

-- a number and a place that a run has by a limit: those of the first start that passes one, "(< of the tag)", by the first of the limits that it passes
pub record FirstLimit (t : Table) (s : List ℕ) (number place : ℕ) : Type 0 where
  pub before : ℕ
  pub earlier : WithinFirst t s before
  pub tag : Start
  pub event_is : get_or (events s) before (text (span 0 0)) ≡ start tag
  pub number_is : number ≡ passed t s before
  pub place_is : place ≡ tag.at
  pub lowest : 21 ≤ number
  pub highest : number ≤ 24

-- the first event that passes a limit, of n events from the k-th on
unfoldable pub first_past : Table → List ℕ → ℕ → ℕ → Option ℕ
first_past t s zero k = none
first_past t s (suc n) k = cond (eqb (passed t s k) 0) (first_past t s n (suc k)) (some k)

-- how many events come before it
unfoldable pub events_within : Table → List ℕ → ℕ
events_within t s = elim (first_past t s (length (events s)) 0) [ none ↦ length (events s) | some k ↦ k ]

-- How a run ends: a number and its place
pub record End : Type 0 where
  pub number : ℕ
  pub place : ℕ

abbrev pub read_end : Next → End
read_end (event e z) = record { number = 0; place = 0 }
read_end (refusal n p) = record { number = n; place = p }
read_end (finished p) = record { number = 9; place = p }

-- where the output has room: by the limit that the first event past one passes, at its place, "< of the tag"; where there is none, as reading ends
unfoldable pub run_end : Table → List ℕ → End
run_end t s =
    elim (first_past t s (length (events s)) 0) [
      | none ↦ read_end (last_of s)
      | some k ↦ record { number = passed t s k; place = event_place (get_or (events s) k (text (span 0 0))) }
    ]
