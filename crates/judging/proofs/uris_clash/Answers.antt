-- `judging::uris_clash` meets its contract: at each turn the answer is that of the URIs from p on.
use native.Mathlib.Omega.{arith}
use Rattle.table.proofs.Walk.{inside}
use Rattle.table.proofs.UriTurns.{clash_start, clash_done, clash_none, clash_xml, clash_twice, clash_on}
use Rattle.judging.proofs.uris_clash.Goals as goal
use Rattle.judging.proofs.uris_clash.Goals.{then-is_xml_uri-via-then-is_xml_uri, then-is_xml_uri-via-else-is_xml_uri+then-lists}

pub loop-i-init : goal.loop-i-init
loop-i-init c = search clash_start

pub returns-in_default : goal.returns-in_default
returns-in_default c = search (clash_none, c.in_default.ensures)

pub overflow_add-p : goal.overflow_add-p
overflow_add-p c = omega (arith, inside _ _ _ _ c.loop-i-test.true _ c.in-Some.ensures)

pub returns-then-is_xml_uri : goal.returns-then-is_xml_uri
returns-then-is_xml_uri c =
    elim c.then-is_xml_uri.branch [
      | then-is_xml_uri-via-then-is_xml_uri w ↦ search (clash_xml, c.in-Some.ensures)
      | then-is_xml_uri-via-else-is_xml_uri+then-lists w ↦ search (clash_twice, c.in-Some.ensures)
    ]

pub loop-i-preserved : goal.loop-i-preserved
loop-i-preserved c = search (clash_on, c.in-Some.ensures)

pub returns : goal.returns
returns c = search clash_done
