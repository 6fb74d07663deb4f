-- 'For demand 3', for hosts, with N6: what calcivorne_ask and calcivorne_commit hand back, by their contracts, and what an ask says; lists of calls in which
-- commits of any offers in bytes stand. Definitions.
use Rattle.std.specs.Prelude.{ℕ, ◌*◌, ◌≤◌, ◌<◌, ◌≡◌, List, [], ◌∷◌, cond, length, get_or}
use Rattle.laws.specs.Over.{overwrite}
use Rattle.demands.specs.Calls.{Call, call_of}
use Rattle.layout.specs.Answers.{answer_numbers, bytes_behind, too_short}
use Rattle.offers.specs.Layout.{offer_size, offer_bytes}
use Rattle.offers.specs.Calls.{lacks_room, byte_ask, byte_commit}
use Rattle.hosts.specs.Calls.{HostStep, HostCall, AnyHostCall, host_back}

-- What calcivorne_ask hands back: the number that it returns, the answer's numbers, and the offer's bytes
pub record HostAsked : Type 0 where
  pub number : ℕ
  pub answer : List ℕ
  pub offer : List ℕ

-- its contract, clause by clause, of the table, the scene, the session's bytes, and what comes in as the offer's bytes and the answer's numbers
unfoldable pub host_ask : List ℕ → List ℕ → List ℕ → List ℕ → List ℕ → HostAsked
host_ask table scene session offer answer =
    record {
      number = cond (lacks_room session offer) too_short (byte_ask table scene session).number;
      answer = cond (lacks_room session offer) answer (answer_numbers (byte_ask table scene session));
      offer = cond (lacks_room session offer) offer (overwrite offer 0 (offer_bytes session (length scene)));
    }

-- what calcivorne_commit hands back, which is what calcivorne_step does: its contract, clause by clause, of the offer's bytes and the same
unfoldable pub host_commit : List ℕ → List ℕ → List ℕ → List ℕ → List ℕ → List ℕ → HostStep
host_commit offer table scene session out answer =
    record {
      number = cond (lacks_room session offer) too_short (byte_commit offer session table scene out).answer.number;
      answer = cond (lacks_room session offer) answer (answer_numbers (byte_commit offer session table scene out).answer);
      output = cond (lacks_room session offer) out (byte_commit offer session table scene out).output;
      session = cond (lacks_room session offer) session (bytes_behind session (byte_commit offer session table scene out));
    }

-- what an ask says of a step from these bytes, as `Foretold` has it; the answer's second number is the place, its fourth counts the records
pub record HostForetold (a : HostAsked) (session out : List ℕ) (r : HostStep) : Type 0 where
  pub short : a.number ≡ 0 → length out < 16 * get_or a.answer 3 0 → (r.number ≡ 25) × (r.output ≡ out) × (r.session ≡ session)
  pub enough : (a.number ≡ 0 → 16 * get_or a.answer 3 0 ≤ length out)
      → (r.number ≡ a.number) × (get_or r.answer 1 0 ≡ get_or a.answer 1 0) × (get_or r.answer 3 0 ≡ get_or a.answer 3 0)

-- A host's call of calcivorne_step or calcivorne_advance, or of calcivorne_commit of an offer in bytes
pub data HostOffered : Type 0 where
  of_host : AnyHostCall → HostOffered
  of_host_commit : List ℕ → HostCall → HostOffered

-- its scene and output
abbrev pub host_call_in : HostOffered → Call
host_call_in (of_host c) = call_of c.call
host_call_in (of_host_commit offer c) = c.call

-- an offer's slice has room for one: a shorter one is 255, and then no answer is written
abbrev pub Roomy : HostOffered → Type 0
Roomy (of_host c) = Unit {0}
Roomy (of_host_commit offer c) = offer_size ≤ length offer

-- what it hands back of the session's bytes
abbrev pub host_over : List ℕ → List ℕ → HostOffered → HostStep
host_over table b (of_host c) = host_back table b c.call c.answer
host_over table b (of_host_commit offer c) = host_commit offer table c.call.scene b c.call.output c.answer

-- what the calls hand back: each goes on from the session's bytes that the one before left
unfoldable pub host_offers : List ℕ → List ℕ → List HostOffered → List HostStep
host_offers table b [] = []
host_offers table b (c ∷ cs) =
    let r = host_over table b c in
    r ∷ host_offers table r.session cs
