-- `names::is_whole_name` meets its contract, by what stands behind the first part.
use mathlib.Core.Path.{◌∙◌}
use borrow.Author.Tests.{ne_eqb}
use Rattle.coherence.proofs.NameChecks.{part_ends, name_colon, name_other, name_alone}
use Rattle.coherence.proofs.names.is_whole_name.Goals as goal

pub bounds-name-j : goal.bounds-name-j
bounds-name-j c = (part_ends c.args.name.now 0 c.in-Ok.j c.in-Ok.ensures).1

pub returns-then-name-j-eq58 : goal.returns-then-name-j-eq58
returns-then-name-j-eq58 c =
    let j = c.in-Ok.j in
    let within = (part_ends c.args.name.now 0 j c.in-Ok.ensures).1 in
    name_colon c.args.name.now c.part_end.result c.part_end.ensures j c.in-Ok.is within c.if-name-j-eq58.true c.ends_as_part.result c.ends_as_part.ensures

pub returns-else-name-j-eq58 : goal.returns-else-name-j-eq58
returns-else-name-j-eq58 c =
    let j = c.in-Ok.j in
    let within = (part_ends c.args.name.now 0 j c.in-Ok.ensures).1 in
    ne_eqb _ 58 c.if-name-j-eq58.false ∙ name_other c.args.name.now c.part_end.result c.part_end.ensures j c.in-Ok.is within c.if-name-j-eq58.false

pub returns-in-Err : goal.returns-in-Err
returns-in-Err c = search name_alone
