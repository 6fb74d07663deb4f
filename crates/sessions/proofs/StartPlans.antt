-- What a start is planned as, where 21 and 22 do not refuse it: 23 and 24, or the event.
use Prim.Native.Nat.{ℕ, ◌+◌, ◌≤◌, ◌<◌}
use mathlib.Core.Path.{◌≡◌, refl, sym, ap, ◌∙◌}
use mathlib.Core.List.{List, map}
use mathlib.Core.Bool.{Bool, true, false, cond}
use native.Mathlib.Omega.{arith}
use borrow.Author.Tests.{lt-leb, le-ltb}
use lib.ListN.{length}
use lib.Dec.{ltb}
use Rattle.table.specs.Table.{Table}
use Rattle.reader.specs.Events.{Start, Open}
use Rattle.model.specs.Tree.{start}
use Rattle.model.specs.Elements.{Element, element_of}
use Rattle.model.specs.Stream.{Entry, entries_at, entered, written, after}
use Rattle.model.specs.Dispatch.{dispatch}
use Rattle.sessions.specs.Sessions.{state_of, with_start}
use Rattle.sessions.specs.Stepping.{Plan, refused, event, start_plan}
use Rattle.sessions.specs.Turns.{decided_number}
use Rattle.sessions.specs.Session.{Session}

number_plan : (x y : Bool) (n at : ℕ) (p : Plan) → n ≡ cond x 23 (cond y 24 0) → (n ≡ 0 → ⊥) → cond x (refused 23 at) (cond y (refused 24 at) p) ≡ refused n at
number_plan true y n at p e h = ap (λ (k : ℕ). refused k at) (sym e)
number_plan false true n at p e h = ap (λ (k : ℕ). refused k at) (sym e)
number_plan false false n at p e h = absurd (h e)

passed_plan : (x y : Bool) (n at : ℕ) (p : Plan) → n ≡ cond x 23 (cond y 24 0) → n ≡ 0 → cond x (refused 23 at) (cond y (refused 24 at) p) ≡ p
passed_plan true y n at p e h = absurd (omega arith)
passed_plan false true n at p e h = absurd (omega arith)
passed_plan false false n at p e h = refl

module _ (t : Table) (s : List ℕ) (z : Session) (e : Start) (o : Open) (place : ℕ) where
  abbrev σ : Element
  σ = element_of t s e

  abbrev pub next_of : Session
  next_of = with_start z place e.empty (after (dispatch t) (state_of t s z) (start σ)).units e.name o.declarations σ.space (map (λ (x : Entry). x.strand) (entered (dispatch t) (state_of t s z) σ))

  abbrev pub event_of : Plan
  event_of = event e.at (written (dispatch t) (state_of t s z) (start σ)) next_of

  abbrev many : Bool
  many = ltb 16 (length (entries_at (dispatch t) (state_of t s z).levels σ))

  abbrev far : Bool
  far = ltb 65536 (after (dispatch t) (state_of t s z) (start σ)).units

  module _ (shallow : z.scope.depth < 64) (few : z.scope.bound + length o.declarations ≤ 64) (n : ℕ) (number_is : n ≡ decided_number t s z (element_of t s e)) where
    start_plan_lem : start_plan t s z e o.declarations place
        ≡ cond many (refused 23 e.at) (cond far (refused 24 e.at) event_of)
    unfolding start_plan
    start_plan_lem = rw (lt-leb 64 z.scope.depth shallow, le-ltb 64 (z.scope.bound + length o.declarations) few)

    pub plan_refused : (n ≡ 0 → ⊥) → start_plan t s z e o.declarations place ≡ refused n e.at
    plan_refused h = start_plan_lem ∙ number_plan many far n e.at event_of number_is h

    pub plan_passed : n ≡ 0 → start_plan t s z e o.declarations place ≡ event_of
    plan_passed h = start_plan_lem ∙ passed_plan many far n e.at event_of number_is h
