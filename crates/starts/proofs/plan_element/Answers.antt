-- `starts::plan_element` meets its contract: 21, 22, or what is decided.
use Prim.Native.Nat.{ℕ, ◌+◌, ◌<◌}
use mathlib.Core.Path.{ap, subst, ◌∙◌}
use native.Mathlib.Omega.{arith}
use Rattle.std.specs.Prelude.{Err}
use Rattle.std.proofs.lemmas.Result.{err_from_is_err_and}
use Rattle.table.specs.Table.{decode, header_of}
use Rattle.strands.specs.Levels.{level_names, level_spaces, level_strands}
use Rattle.sessions.specs.Sessions.{session_at}
use Rattle.starts.proofs.StartTurns.{few_bound, decidable, deep_plan, bound_plan}
use Rattle.starts.proofs.Classed.{Classed, classed, unclassed, refused_planned, by_result, decided_refused, decided_start, found_few, names_few}
use Rattle.starts.proofs.plan_element.Goals as goal
use Rattle.starts.proofs.plan_element.Goals.{Joined-owned-ne0, then-owned-ne0, else-owned-ne0}

pub returns-then-head-ge-DEPTH-clause-planned : goal.returns-then-head-ge-DEPTH-clause-planned
returns-then-head-ge-DEPTH-clause-planned c =
    let a = c.args in
    let z = session_at a.head a.levels.now a.bindings.now in
    refused_planned a.table.now a.scene.now a.known.now z 21 a.started.at _ c.requires.0.beside (deep_plan (decode a.table.now) a.scene.now z _ _ a.started.tag.next c.if-head-ge-DEPTH.true) (λ e. omega arith)

pub overflow_add-head : goal.overflow_add-head
overflow_add-head c =
    let a = c.args in
    let h = c.requires in
    omega (arith, few_bound a.table.now (header_of a.table.now) a.index.now a.scene.now a.head (level_names a.levels.now) a.bindings.now (level_spaces a.levels.now) (level_strands a.levels.now) h.0.ready, h.1.told.owned_is, h.1.told.few_own)

pub returns-then-head-owned-gt-BINDINGS-clause-planned : goal.returns-then-head-owned-gt-BINDINGS-clause-planned
returns-then-head-owned-gt-BINDINGS-clause-planned c =
    let a = c.args in
    let h = c.requires in
    let z = session_at a.head a.levels.now a.bindings.now in
    refused_planned a.table.now a.scene.now a.known.now z 22 a.started.at _ h.0.beside
    (bound_plan (decode a.table.now) a.scene.now z _ _ a.started.tag.next c.if-head-ge-DEPTH.false (subst (λ (n : ℕ). 64 < a.head.bound + n) h.1.told.owned_is c.if-head-owned-gt-BINDINGS.true)) (λ e. omega arith)

-- where the classes of its declarations are laid, or it has none
known_classed : (c : Joined-owned-ne0) → (
    let a = c.args in
    Classed a.table.now a.scene.now a.scratch.now.own a.scratch.now.attrs a.scratch.now.codes c.if-owned-ne0.known (session_at a.head a.levels.now a.bindings.now) a.started
    )
known_classed c =
    let a = c.args in
    let h = c.requires in
    let z = session_at a.head a.levels.now a.bindings.now in
    elim c.if-owned-ne0.branch [
      | then-owned-ne0 w ↦ classed a.table.now a.index.now a.scene.now a.known.now c.if-owned-ne0.known a.scratch.now.own a.scratch.now.attrs a.scratch.now.codes w.header_of.result a.head (level_names a.levels.now) a.bindings.now (level_spaces a.levels.now) (level_strands a.levels.now) a.started h.0 h.1 w.header_of.ensures (w.known-is ∙ w.put_classes.ensures)
      | else-owned-ne0 w ↦ unclassed a.table.now a.index.now a.scene.now a.known.now c.if-owned-ne0.known a.scratch.now.own a.scratch.now.attrs a.scratch.now.codes z a.started h.0 h.1 w.if-owned-ne0.false w.known-is
    ]

pub space_of-placing-requires : goal.space_of-placing-requires
space_of-placing-requires c =
    let a = c.args in
    let h = c.requires in
    found_few a.table.now a.index.now a.scene.now a.known.now a.scratch.now.own a.scratch.now.attrs a.scratch.now.codes a.head (level_names a.levels.now) a.bindings.now (level_spaces a.levels.now) (level_strands a.levels.now) a.started h.0 h.1

pub decide-requires : goal.decide-requires
decide-requires c =
    let a = c.args in
    let h = c.requires in
    let d = decidable a.table.now (header_of a.table.now) a.index.now a.scene.now a.head (level_names a.levels.now) a.bindings.now (level_spaces a.levels.now) (level_strands a.levels.now) h.0.ready c.if-head-ge-DEPTH.false in (
      d.0,
      d.1,
      d.2,
      few_bound a.table.now (header_of a.table.now) a.index.now a.scene.now a.head (level_names a.levels.now) a.bindings.now (level_spaces a.levels.now) (level_strands a.levels.now) h.0.ready,
      h.1.told.few_codes,
      h.1.plain_names,
    )

pub returns-in_err-decided-clause-planned : goal.returns-in_err-decided-clause-planned
returns-in_err-decided-clause-planned c =
    let a = c.args in
    let h = c.requires in
    let z = session_at a.head a.levels.now a.bindings.now in
    let k = known_classed (goal.at.returns-in_err-decided-clause-planned c).Joined-owned-ne0 in
    let w = c.space_of-placing.ensures a.table.now (header_of a.table.now) a.scene.now a.started.owned (names_few a.table.now h.0.ready.accepted) k.beside.classes k.own_classes h.1.found_within in
    let d = c.decide.ensures.decided a.table.now (header_of a.table.now) h.0.ready k.beside k.own_classes k.met w in
    let l = c.decide.new in
    let f = err_from_is_err_and c.from_residual.result c.from_residual.ensures.1 in
    let e = f.1 ∙ ap Err f.2 in
    rw e
    (decided_refused a.table.now a.scene.now a.scratch.now.own a.scratch.now.attrs a.scratch.now.codes _ z a.started k c.if-head-ge-DEPTH.false c.if-head-owned-gt-BINDINGS.false l.scratch.words l.scratch.schemas l.scratch.attributes _
    (by_result a.table.now a.scene.now z _ _ _ l.scratch.words l.scratch.schemas l.scratch.attributes c.in_err-decided.was d))

pub returns-clause-planned : goal.returns-clause-planned
returns-clause-planned c =
    let a = c.args in
    let h = c.requires in
    let z = session_at a.head a.levels.now a.bindings.now in
    let k = known_classed (goal.at.returns-clause-planned c).Joined-owned-ne0 in
    let w = c.space_of-placing.ensures a.table.now (header_of a.table.now) a.scene.now a.started.owned (names_few a.table.now h.0.ready.accepted) k.beside.classes k.own_classes h.1.found_within in
    let d = c.decide.ensures.decided a.table.now (header_of a.table.now) h.0.ready k.beside k.own_classes k.met w in
    let l = c.decide.new in
    decided_start a.table.now a.scene.now a.scratch.now.own a.scratch.now.attrs a.scratch.now.codes _ z a.started k
    c.if-head-ge-DEPTH.false c.if-head-owned-gt-BINDINGS.false
    a.index.now l.scratch.words l.scratch.schemas _ _ c.in_ok-decided.decided h.0.ready w (by_result a.table.now a.scene.now z _ _ _ l.scratch.words l.scratch.schemas l.scratch.attributes c.in_ok-decided.was d)
