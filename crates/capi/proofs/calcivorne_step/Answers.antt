-- `capi::calcivorne_step` meets its contract.
use mathlib.Core.Path.{subst}
use Rattle.layout.proofs.Told.{Handed, called_short, called}
use Rattle.capi.specs.Calls.{byte_step}
use Rattle.capi.proofs.ByteSteps.{byte_one}
use Rattle.capi.proofs.calcivorne_step.Goals as goal

pub returns-then-session-lt-SESSION_SIZE : goal.returns-then-session-lt-SESSION_SIZE
returns-then-session-lt-SESSION_SIZE c =
    let a = c.args in let r = called_short a.answer.now a.out.now a.session.now (byte_step a.table.now a.scene.now a.session.now a.out.now) c.if-session-lt-SESSION_SIZE.true in record { value = r.0; answer_after = r.1.0; out_after = r.1.1.0; session_after = r.1.1.1 }

pub returns : goal.returns
returns c =
    let a = c.args in let r = called a.answer.now a.out.now a.session.now (byte_step a.table.now a.scene.now a.session.now a.out.now) c.advance_bytes-a.result _ _ _ c.if-session-lt-SESSION_SIZE.false (subst (Handed _ _ _ _) (byte_one a.table.now a.scene.now a.session.now a.out.now) (c.advance_bytes-a.ensures.value, (c.advance_bytes-a.ensures.out_after, c.advance_bytes-a.ensures.session_after))) c.tell.ensures in record { value = r.0; answer_after = r.1.0; out_after = r.1.1.0; session_after = r.1.1.1 }
