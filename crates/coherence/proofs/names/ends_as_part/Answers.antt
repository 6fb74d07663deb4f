-- `names::ends_as_part` meets its contract: of a part that the bytes cut `ends_whole` tells.
use Rattle.coherence.proofs.NameChecks.{part_past, part_end_lem, part_bad, part_long}
use Rattle.coherence.proofs.names.ends_as_part.Goals as goal

pub returns-then-name-at : goal.returns-then-name-at
returns-then-name-at c = search part_past

pub returns-in-Ok : goal.returns-in-Ok
returns-in-Ok c = search part_end_lem

pub returns-in-Err-Bad : goal.returns-in-Err-Bad
returns-in-Err-Bad c = search part_bad

pub returns-in-Err-Long : goal.returns-in-Err-Long
returns-in-Err-Long c = search part_long
