-- `offers::bytes::is_offered` meets its contract.
use mathlib.Core.Bool.{◌&&◌, not}
use native.Mathlib.Omega.{arith}
use lib.Dec.{eqb}
use Rattle.laws.proofs.Over.{part_whole_lem}
use Rattle.strands.specs.Levels.{level_spaces}
use Rattle.equality.specs.Checks.{within_arrays}
use Rattle.sessions.specs.Sessions.{session_at}
use Rattle.layout.proofs.Lent.{parts_joined}
use Rattle.offers.proofs.Compared.{not_version, not_session, then_compared, both_compared}
use mathlib.Core.Path.{ap}
use Rattle.offers.proofs.bytes.is_offered.Goals as goal

pub returns-then-word8_at-ne1 : goal.returns-then-word8_at-ne1
returns-then-word8_at-ne1 c = not_version c.args.offer.now _ c.word8_at.result c.word8_at.ensures (omega arith)

pub returns-then-not-holds_session : goal.returns-then-not-holds_session
returns-then-not-holds_session c =
    let b = c.args.offer.now in
    let held = c.holds_session in
    not_session b _ c.word8_at.result c.word8_at.ensures (omega arith) _ (part_whole_lem b 16) held.result held.ensures (ap not c.if-not-holds_session.true)

pub returns : goal.returns
returns c =
    let a = c.args in
    let b = a.offer.now in
    let held = c.holds_session in
    let ar = c.arrays_in in
    let hd = c.head_in in
    let same = c.same_session-same in
    let at = c.word8_at-2 in
    let read = ar.new in
    let z = session_at a.head a.levels.now a.bindings.now in
    let y = session_at hd.result read.levels read.bindings in
    let w = within_arrays a.head.depth a.head.bound (level_spaces a.levels.now) in
    let joined = parts_joined _ hd.result read.levels read.bindings hd.ensures ar.ensures.0 ar.ensures.1 ar.ensures.2 ar.ensures.3 in
    then_compared b _ c.word8_at.result c.word8_at.ensures c.if-word8_at-ne1.false _ (part_whole_lem b 16) held.result held.ensures (ap not c.if-not-holds_session.false) (same.result && eqb a.len at.result)
    (both_compared b _ w same.result z y a.len at.result (part_whole_lem b 16) joined same.ensures at.ensures)
