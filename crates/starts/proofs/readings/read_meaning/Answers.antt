-- `readings::read_meaning` meets its contract, by what the tag means.
use mathlib.Core.Path.{sym, ◌∙◌}
use Rattle.starts.proofs.TagReadings.{start_read_lem, refused_read}
use Rattle.starts.proofs.readings.read_meaning.Goals as goal

pub meaning-requires : goal.meaning-requires
meaning-requires c =
    let h = c.requires in
    (h.1, h.2, λ e. sym c.all_plain-plain.ensures ∙ e)

pub returns-in-Ok : goal.returns-in-Ok
returns-in-Ok c =
    let a = c.args in
    let r = c.meaning in
    λ table index levels spaces strands header w b e back.
    start_read_lem table header index a.scene.now a.head levels a.bindings.now spaces strands w a.at a.tag a.scratch.now.attrs c.requires.0 e back a.scratch.now.own a.scratch.now.codes a.known.now b r.result _ _ _ r.ensures _ _ c.in-Ok.is c.all_plain-plain.result c.all_plain-plain.ensures

pub returns-in-Err : goal.returns-in-Err
returns-in-Err c =
    let a = c.args in
    let r = c.meaning in
    λ table index levels spaces strands header w b e back.
    refused_read table header index a.scene.now a.head levels a.bindings.now spaces strands w a.at a.tag a.scratch.now.attrs c.requires.0 e back a.scratch.now.own a.scratch.now.codes a.known.now b r.result _ _ _ r.ensures _ _ c.in-Err.is c.number.ensures
