-- `starts::plan_start` meets its contract, by what reading the tag comes to.
use Prim.Native.Nat.{◌+◌}
use mathlib.Core.Path.{ap, ◌∙◌}
use Rattle.std.specs.Prelude.{Err}
use Rattle.std.proofs.lemmas.Result.{err_from_is_err_and}
use Rattle.table.specs.Table.{header_of}
use Rattle.lexer.specs.Tags.{tag_at}
use Rattle.strands.specs.Levels.{level_names, level_spaces, level_strands}
use Rattle.sessions.specs.Sessions.{session_at}
use Rattle.starts.proofs.StartTurns.{few_bound}
use Rattle.starts.proofs.Classed.{start_met, start_read_lem, refused_read}
use Rattle.starts.proofs.plan_start.Goals as goal

pub read_start-requires : goal.read_start-requires
read_start-requires c =
    let a = c.args in
    let h = c.requires in
    (h.1, few_bound a.table.now (header_of a.table.now) a.index.now a.scene.now a.head (level_names a.levels.now) a.bindings.now (level_spaces a.levels.now) (level_strands a.levels.now) h.0.ready, h.0.beside.keys)

pub plan_element-requires : goal.plan_element-requires
plan_element-requires c =
    let a = c.args in
    let h = c.requires in
    let z = session_at a.head a.levels.now a.bindings.now in
    let w = c.read_start in
    let r = w.ensures a.table.now a.index.now (level_names a.levels.now) (level_spaces a.levels.now) (level_strands a.levels.now) (header_of a.table.now) h.0.ready h.0.beside in
    start_met a.table.now a.index.now a.scene.now z a.at (tag_at a.scene.now (a.at + 1)).answer _ _ _ _ w.result h.0.ready r _ c.in_ok-started.was

pub returns : goal.returns
returns c =
    let a = c.args in
    let h = c.requires in
    let z = session_at a.head a.levels.now a.bindings.now in
    let w = c.read_start in
    let r = w.ensures a.table.now a.index.now (level_names a.levels.now) (level_spaces a.levels.now) (level_strands a.levels.now) (header_of a.table.now) h.0.ready h.0.beside in
    let l = c.plan_element.new in
    rw c.plan_element.ensures.own_unchanged
    (start_read_lem a.table.now a.scene.now z a.at (tag_at a.scene.now (a.at + 1)).answer _ _ _ _ w.result r a.index.now l.scratch.words l.scratch.schemas l.scratch.attributes l.known _ c.in_ok-started.was c.plan_element.result c.plan_element.ensures.planned)

pub returns-in_err-started : goal.returns-in_err-started
returns-in_err-started c =
    let a = c.args in
    let h = c.requires in
    let z = session_at a.head a.levels.now a.bindings.now in
    let w = c.read_start in
    let r = w.ensures a.table.now a.index.now (level_names a.levels.now) (level_spaces a.levels.now) (level_strands a.levels.now) (header_of a.table.now) h.0.ready h.0.beside in
    let f = err_from_is_err_and c.from_residual.result c.from_residual.ensures.1 in
    let e = f.1 ∙ ap Err f.2 in
    rw e (refused_read a.table.now a.scene.now z a.at (tag_at a.scene.now (a.at + 1)).answer _ _ _ _ w.result r _ c.in_err-started.was)
