-- One event by what the first half says comes next: written, or counted.
--     begun_planned                            by how it begins
--     start_as, text_as, end_as, ..            by what was handed back
--     start_roomy, text_needs, class_small      what the second half asks
--     planned_turn, weighed_turn               the step, and what the loop holds beside the session behind it
use Prim.Native.Nat.{ℕ, ◌*◌, ◌-◌, ◌≤◌, ◌<◌}
use mathlib.Core.Path.{◌≡◌, sym, ap, subst, ◌∙◌}
use mathlib.Core.List.{List, []}
use mathlib.Core.Bool.{false, not}
use native.Mathlib.Omega.{arith}
use lib.ListN.{length, get_or}
use lib.Dec.{eqb, ltb}
use Rattle.std.specs.Prelude.{Result, Ok, Err}
use Rattle.laws.proofs.Holds.{holds_cond}
use Rattle.table.specs.Table.{decode, header_of}
use Rattle.lexer.specs.Begins.{begin_at}
use Rattle.lexer.specs.Reads.{BeginRead}
use Rattle.reader.specs.declared.Span.{Span}
use Rattle.reader.specs.Events.{read_at}
use Rattle.attributes.specs.declared.Placing.{Placing}
use Rattle.strands.specs.Levels.{level_names, level_spaces, level_strands}
use Rattle.openings.specs.declared.Decided.{Decided}
use Rattle.sessions.specs.Sessions.{session_at, reader_of}
use Rattle.sessions.specs.Stepping.{Plan, refused, finished, event, plan_by, plan_of, Step, refused_step, planned}
use Rattle.sessions.specs.Turns.{InnerLevel, LoopReady, Beside, Roomy, StartAs, PlannedAs, session_by, weighed, stop_turn, step_in}
use Rattle.sessions.specs.Session.{Session}
use Rattle.sessions.specs.declared.Head.{Head}
use Rattle.sessions.specs.declared.Turn.{Turn}
use Rattle.sessions.specs.declared.Started.{Started}
use Rattle.sessions.specs.declared.Planned.{Planned}
use Rattle.sessions.specs.declared.Planned.TheVariants as variant
use Rattle.sessions.specs.declared.Refusal.{Refusal}
use Rattle.sessions.proofs.EventTurns.{stop_step}
use Rattle.starts.proofs.StartTurns.{innermost, begin_plan}

-- by how it begins
pub begun_planned : (table index s : List ℕ) (head : Head) (levels bindings : List ℕ) → head.awaited ≡ false → (b r : BeginRead) → r ≡ begin_at s head.place (not (eqb head.depth 0)) head.closed → r ≡ b → (known own words schemas attributes : List ℕ) (x : Result Planned Refusal) → (
    let z = session_at head levels bindings in
    let p = plan_by (decode table) s z (read_at s (reader_of z) b) in
    let q = plan_of (decode table) s z in
    PlannedAs table index s z own words schemas attributes x p → Beside table s known z → Beside table s known (session_by p z)
    → PlannedAs table index s z own words schemas attributes x q × Beside table s known z × Beside table s known (session_by q z))
begun_planned table index s head levels bindings a b r e q known own words schemas attributes x f k k' =
    let z = session_at head levels bindings in
    let same = sym (begin_plan (decode table) s head (level_names levels) bindings (level_spaces levels) (level_strands levels) a b r e q) in
    (subst (λ (y : Plan). PlannedAs table index s z own words schemas attributes x y) same f, k, subst (λ (y : Plan). Beside table s known (session_by y z)) same k')

-- ---- by what was handed back
module _ (table index s : List ℕ) (z : Session) (own words schemas attributes : List ℕ) (p : Plan) (r : Result Planned Refusal) (h : PlannedAs table index s z own words schemas attributes r p) where
  handed : (q k : Planned) → r ≡ Ok k → k ≡ q → PlannedAs table index s z own words schemas attributes (Ok q) p
  handed q k e f = subst (λ (x : Result Planned Refusal). PlannedAs table index s z own words schemas attributes x p) (e ∙ ap Ok f) h

  pub start_as : (o : Started) (placing : Placing) (decided : Decided) {k : Planned} → r ≡ Ok k → k ≡ variant.Start o placing decided → StartAs table index s z own words schemas attributes o placing decided p
  start_as o placing decided {k} e f = handed (variant.Start o placing decided) k e f

  pub text_as : (at place : ℕ) {k : Planned} → r ≡ Ok k → k ≡ variant.Text at place → PlannedAs table index s z own words schemas attributes (Ok (variant.Text at place)) p
  text_as at place {k} e f = handed (variant.Text at place) k e f

  pub end_as : (part : Span) (at place : ℕ) {k : Planned} → r ≡ Ok k → k ≡ variant.End part at place → PlannedAs table index s z own words schemas attributes (Ok (variant.End part at place)) p
  end_as part at place {k} e f = handed (variant.End part at place) k e f

  pub awaited_as : (part : Span) (at : ℕ) {k : Planned} → r ≡ Ok k → k ≡ variant.Awaited part at → PlannedAs table index s z own words schemas attributes (Ok (variant.Awaited part at)) p
  awaited_as part at {k} e f = handed (variant.Awaited part at) k e f

  pub finished_as : {k : Planned} → r ≡ Ok k → k ≡ variant.Finished → p ≡ finished (length s)
  finished_as {k} e f = handed variant.Finished k e f

  pub refused_as : (x : Refusal) → r ≡ Err x → (p ≡ refused x.number x.place) × (x.number ≡ 0 → ⊥)
  refused_as x e = subst (λ (y : Result Planned Refusal). PlannedAs table index s z own words schemas attributes y p) e h

-- ---- what the second half asks
pub start_roomy : (table index s : List ℕ) (head : Head) (levels bindings own words schemas attributes : List ℕ) (o : Started) (placing : Placing) (decided : Decided) (p : Plan)
    → StartAs table index s (session_at head levels bindings) own words schemas attributes o placing decided p → Roomy head o.owned
start_roomy table index s head levels bindings own words schemas attributes o placing decided p f =
    record { shallow = f.shallow; few_own = omega (arith, f.told.owned_is, f.told.few_own); few_bound = f.few_bound }

module _ (table index s known : List ℕ) (head : Head) (levels bindings : List ℕ) (h : LoopReady table index s known (session_at head levels bindings)) (l : 1 ≤ head.depth) where
  pub text_needs : InnerLevel head levels
  text_needs =
      let i = innermost table (header_of table) index s head (level_names levels) bindings (level_spaces levels) (level_strands levels) h.ready l in
      (l, i.shallow, i.few_strands)

  pub class_small : get_or (level_spaces levels) (4 * (head.depth - 1)) 0 < 256
  class_small = (innermost table (header_of table) index s head (level_names levels) bindings (level_spaces levels) (level_strands levels) h.ready l).class

-- ---- the step
module _ (table s known : List ℕ) (z : Session) (b : Beside table s known z) where
  kept : (p : Plan) → Beside table s known (session_by p z) → (out : List ℕ) → Beside table s known (planned p z out).session
  kept (refused n q) k out = b
  kept (finished q) k out = b
  kept (event at rs next) k out = holds_cond (λ (x : Step). Beside table s known x.session) (ltb (length out) (16 * length rs)) (λ e. b) (λ e. k)

  kept_weighed : (p : Plan) → Beside table s known (session_by p z) → Beside table s known (weighed p z).session
  kept_weighed (refused n q) k = b
  kept_weighed (finished q) k = b
  kept_weighed (event at rs next) k = k

  module _ (p : Plan) (k : Beside table s known (session_by p z)) where
    pub planned_turn : (out : List ℕ) (x : Step) → x ≡ planned p z out → (x ≡ planned p z out) × Beside table s known x.session
    planned_turn out x e = (e, subst (λ (y : Step). Beside table s known y.session) (sym e) (kept p k out))

    pub weighed_turn : (x : Step) → x ≡ weighed p z → (x ≡ weighed p z) × Beside table s known x.session
    weighed_turn x e = (e, subst (λ (y : Step). Beside table s known y.session) (sym e) (kept_weighed p k))

-- a refusal and the scene's end
module _ (head : Head) (levels bindings out : List ℕ) (turn : Turn) (n place : ℕ) (e : turn ≡ stop_turn n place head) (some : n ≡ 0 → ⊥) where
  pub stop_planned : (p : Plan) → planned p (session_at head levels bindings) out ≡ refused_step n place (session_at head levels bindings) out → step_in turn levels bindings out ≡ planned p (session_at head levels bindings) out
  stop_planned p q =
      ap (λ (x : Turn). step_in x levels bindings out) e ∙ stop_step n place head (level_names levels) bindings (level_spaces levels) (level_strands levels) out some ∙ sym q

  pub stop_weighed : (p : Plan) → weighed p (session_at head levels bindings) ≡ refused_step n place (session_at head levels bindings) [] → step_in turn levels bindings [] ≡ weighed p (session_at head levels bindings)
  stop_weighed p q =
      ap (λ (x : Turn). step_in x levels bindings []) e ∙ stop_step n place head (level_names levels) bindings (level_spaces levels) (level_strands levels) [] some ∙ sym q
