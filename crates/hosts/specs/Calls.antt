-- 'For demand 3', for hosts: what calcivorne_fresh, calcivorne_step and calcivorne_advance hand back, by their contracts; lists of such calls, and the
-- records that they hand out. Definitions.
use Rattle.std.specs.Prelude.{ℕ, ◌*◌, List, [], ◌∷◌, map, Bool, cond, length, get_or, take, eqb, ltb}
use Rattle.laws.specs.Lists.{keep}
use Rattle.laws.specs.Gather.{gather, total}
use Rattle.laws.specs.Over.{overwrite}
use Rattle.sessions.specs.Sessions.{fresh_of}
use Rattle.demands.specs.Calls.{Call, AnyCall, of_step, of_advance}
use Rattle.layout.specs.Layout.{session_size, session_bytes}
use Rattle.layout.specs.Answers.{answer_numbers, bytes_behind, too_short}
use Rattle.capi.specs.Calls.{byte_step, byte_advance}

-- What calcivorne_fresh hands back: the number that it returns, and the session's bytes
pub record HostFresh : Type 0 where
  pub number : ℕ
  pub session : List ℕ

-- its contract, clause by clause, of the session's bytes as they come in
unfoldable pub host_fresh : List ℕ → HostFresh
host_fresh session =
    record {
      number = cond (ltb (length session) session_size) too_short 0;
      session = cond (ltb (length session) session_size) session (overwrite session 0 (session_bytes fresh_of));
    }

-- What calcivorne_step hands back: the number that it returns, the answer's numbers, the output, and the session's bytes
pub record HostStep : Type 0 where
  pub number : ℕ
  pub answer : List ℕ
  pub output : List ℕ
  pub session : List ℕ

-- its contract, clause by clause, of the table, the scene, and what comes in as the session's bytes, the output and the answer's numbers
unfoldable pub host_step : List ℕ → List ℕ → List ℕ → List ℕ → List ℕ → HostStep
host_step table scene session out answer =
    record {
      number = cond (ltb (length session) session_size) too_short (byte_step table scene session out).answer.number;
      answer = cond (ltb (length session) session_size) answer (answer_numbers (byte_step table scene session out).answer);
      output = cond (ltb (length session) session_size) out (byte_step table scene session out).output;
      session = cond (ltb (length session) session_size) session (bytes_behind session (byte_step table scene session out));
    }

-- A host's call of calcivorne_step: a call's scene and output, and what comes in as the answer's numbers
pub record HostCall : Type 0 where
  pub call : Call
  pub answer : List ℕ

abbrev pub calls_of : List HostCall → List Call
calls_of cs = map (λ (c : HostCall). c.call) cs

-- what the calls hand back: each steps the session's bytes that the one before left
unfoldable pub host_steps : List ℕ → List ℕ → List HostCall → List HostStep
host_steps table b [] = []
host_steps table b (c ∷ cs) =
    let r = host_step table c.call.scene b c.call.output c.answer in
    r ∷ host_steps table r.session cs

-- "an accepted step is one that gives 0"
abbrev pub gave_zero : HostStep → Bool
gave_zero r = eqb r.number 0

abbrev pub accepted_by : List HostStep → ℕ
accepted_by rs = length (keep gave_zero rs)

-- "Its records are the first bytes of its output, 16 for each record that it counts, as it hands them back": the answer's fourth number counts them
abbrev pub records_by : HostStep → List ℕ
records_by r = take (16 * get_or r.answer 3 0) r.output

-- "joined is in the list's order"
unfoldable pub joined_by : List HostStep → List ℕ
joined_by rs = gather records_by (keep gave_zero rs)

-- ---- step and advance
-- what calcivorne_advance hands back, which is what calcivorne_step does: its contract, clause by clause, of the number of steps and the same
unfoldable pub host_advance : ℕ → List ℕ → List ℕ → List ℕ → List ℕ → List ℕ → HostStep
host_advance most table scene session out answer =
    record {
      number = cond (ltb (length session) session_size) too_short (byte_advance most table scene session out).answer.number;
      answer = cond (ltb (length session) session_size) answer (answer_numbers (byte_advance most table scene session out).answer);
      output = cond (ltb (length session) session_size) out (byte_advance most table scene session out).output;
      session = cond (ltb (length session) session_size) session (bytes_behind session (byte_advance most table scene session out));
    }

-- A host's call of calcivorne_step or of calcivorne_advance: the call, and what comes in as the answer's numbers
pub record AnyHostCall : Type 0 where
  pub call : AnyCall
  pub answer : List ℕ

abbrev pub any_calls_of : List AnyHostCall → List AnyCall
any_calls_of cs = map (λ (c : AnyHostCall). c.call) cs

-- what it hands back of the session's bytes
abbrev pub host_back : List ℕ → List ℕ → AnyCall → List ℕ → HostStep
host_back table b (of_step c) answer = host_step table c.scene b c.output answer
host_back table b (of_advance most c) answer = host_advance most table c.scene b c.output answer

-- what the calls hand back: each goes on from the session's bytes that the one before left
unfoldable pub host_calls : List ℕ → List ℕ → List AnyHostCall → List HostStep
host_calls table b [] = []
host_calls table b (c ∷ cs) =
    let r = host_back table b c.call c.answer in
    r ∷ host_calls table r.session cs

-- "events (steps that gave 0)": of all calls; the answer's third number counts them
unfoldable pub events_by : List HostStep → ℕ
events_by rs = total (λ (r : HostStep). get_or r.answer 2 0) rs

-- the records of all calls, "joined is in the list's order": an advance that ends with another number than 0 has those of its steps before
unfoldable pub all_records_by : List HostStep → List ℕ
all_records_by rs = gather records_by rs
