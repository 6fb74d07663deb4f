-- What a caller learns from the contracts of calcivorne_fresh, calcivorne_step, calcivorne_advance, calcivorne_ask and calcivorne_commit is that they hand
-- back `host_fresh`, `host_step`, `host_advance`, `host_ask` and `host_commit`. Lifetimes κs, parameters a, result r, parameters at exit e: table, scene, session,
-- out and answer, in this order; fresh has the session alone, advance the number of steps behind the session, ask the offer in out's place; commit has
-- offer, session, table, scene, out and answer.
use mathlib.Core.Path.{◌≡◌}
use contract.Lifetimes.{Lfts}
use denote.Triple.Clauses.{AtExit}
use borrow.Fn.World.{ArgsD, ResD}
use Rattle.capi.specs.contracts.calcivorne_fresh as freshes
use Rattle.capi.proofs.calcivorne_fresh.Reads as fresh-reads
use Rattle.capi.specs.contracts.calcivorne_step as steps
use Rattle.capi.proofs.calcivorne_step.Reads as step-reads
use Rattle.capi.specs.contracts.calcivorne_advance as advances
use Rattle.capi.proofs.calcivorne_advance.Reads as advance-reads
use Rattle.offers.specs.contracts.calcivorne_ask as asks
use Rattle.offers.proofs.calcivorne_ask.Reads as ask-reads
use Rattle.offers.specs.contracts.calcivorne_commit as commits
use Rattle.offers.proofs.calcivorne_commit.Reads as commit-reads
use Rattle.hosts.specs.Calls.{host_fresh, host_step, host_advance}
use Rattle.hosts.specs.Commits.{host_ask, host_commit}

-- the number and the session's bytes that it hands back
pub fresh_contract : (κs : Lfts 1) (a : ArgsD freshes.signature κs) (r : ResD freshes.signature κs) (e : AtExit freshes.ended κs) → fresh-reads.Learnt κs a r e →
    record { number = r; session = e.0.now } ≡ host_fresh a.0.now
unfolding host_fresh
fresh_contract κs a r e h = λ i. record { number = h.0 i; session = h.1 i }

-- the number, the answer's numbers, the output and the session's bytes that it hands back
pub step_contract : (κs : Lfts 5) (a : ArgsD steps.signature κs) (r : ResD steps.signature κs) (e : AtExit steps.ended κs) → step-reads.Learnt κs a r e →
    record { number = r; answer = e.1.1.1.1.0.now; output = e.1.1.1.0.now; session = e.1.1.0.now }
    ≡ host_step a.0.now a.1.0.now a.1.1.0.now a.1.1.1.0.now a.1.1.1.1.0.now
unfolding host_step
step_contract κs a r e h = λ i. record { number = h.0 i; answer = h.1.0 i; output = h.1.1.0 i; session = h.1.1.1 i }

pub advance_contract : (κs : Lfts 5) (a : ArgsD advances.signature κs) (r : ResD advances.signature κs) (e : AtExit advances.ended κs) → advance-reads.Learnt κs a r e →
    record { number = r; answer = e.1.1.1.1.1.0.now; output = e.1.1.1.1.0.now; session = e.1.1.0.now }
    ≡ host_advance a.1.1.1.0 a.0.now a.1.0.now a.1.1.0.now a.1.1.1.1.0.now a.1.1.1.1.1.0.now
unfolding host_advance
advance_contract κs a r e h = λ i. record { number = h.0 i; answer = h.1.0 i; output = h.1.1.0 i; session = h.1.1.1 i }

-- the number, the answer's numbers and the offer's bytes
pub ask_contract : (κs : Lfts 5) (a : ArgsD asks.signature κs) (r : ResD asks.signature κs) (e : AtExit asks.ended κs) → ask-reads.Learnt κs a r e →
    record { number = r; answer = e.1.1.1.1.0.now; offer = e.1.1.1.0.now }
    ≡ host_ask a.0.now a.1.0.now a.1.1.0.now a.1.1.1.0.now a.1.1.1.1.0.now
unfolding host_ask
ask_contract κs a r e h = λ i. record { number = h.0 i; answer = h.1.0 i; offer = h.1.1 i }

pub commit_contract : (κs : Lfts 6) (a : ArgsD commits.signature κs) (r : ResD commits.signature κs) (e : AtExit commits.ended κs) → commit-reads.Learnt κs a r e →
    record { number = r; answer = e.1.1.1.1.1.0.now; output = e.1.1.1.1.0.now; session = e.1.0.now }
    ≡ host_commit a.0.now a.1.1.0.now a.1.1.1.0.now a.1.0.now a.1.1.1.1.0.now a.1.1.1.1.1.0.now
unfolding host_commit
commit_contract κs a r e h = λ i. record { number = h.0 i; answer = h.1.0 i; output = h.1.1.0 i; session = h.1.1.1 i }
