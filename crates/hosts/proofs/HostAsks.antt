-- N6 for hosts: what calcivorne_ask says of a call on the bytes b asked about, or on any c that hold the same, with every output.
--     host_asks         of calcivorne_step
--     host_asked        of calcivorne_commit of the offer that ask left
use Prim.Native.Nat.{ℕ, ◌*◌, ◌^◌, ◌≤◌, ◌<◌}
use mathlib.Core.Path.{◌≡◌, refl, sym, ap, subst, ◌∙◌}
use mathlib.Core.List.{List, []}
use mathlib.Core.Bool.{Bool, true, false, cond, not}
use native.Mathlib.Omega.{arith}
use borrow.Author.Tests.{le-ltb, eq-eqb}
use lib.ListN.{length}
use lib.Dec.{eqb, ltb}
use Rattle.laws.specs.Members.{All}
use Rattle.laws.proofs.Flags.{differ}
use Rattle.table.specs.Table.{standard}
use Rattle.table.specs.Judge.{judged}
use Rattle.table.specs.declared.Answer.{Answer}
use Rattle.sessions.specs.Stepping.{Step, answered, longest, step_of}
use Rattle.sessions.specs.Asking.{ask_answer, ask_of}
use Rattle.sessions.specs.Session.{Session}
use Rattle.demands.specs.Offers.{Foretold}
use Rattle.demands.proofs.SameSteps.{commit_as_asked}
use Rattle.layout.specs.Layout.{session_size, session_in, holds_session}
use Rattle.layout.specs.Answers.{unheld, bytes_behind}
use Rattle.layout.proofs.Unheld.{unheld_answer, refusals}
use Rattle.offers.specs.Layout.{offer_size}
use Rattle.offers.specs.Calls.{byte_ask, BytesHoldSame}
use Rattle.capi.specs.Calls.{byte_step}
use Rattle.hosts.specs.Calls.{host_step}
use Rattle.hosts.specs.Commits.{host_ask, host_commit, HostForetold}
use Rattle.hosts.proofs.HostCommits.{host_commit_of_ask}

-- what an ask's answer says of a step from bytes
record Foretells (a : Answer) (b out : List ℕ) (r : Step) : Type 0 where
  short : a.number ≡ 0 → length out < 16 * a.records → (r.answer.number ≡ 25) × (r.output ≡ out) × (bytes_behind b r ≡ b)
  enough : (a.number ≡ 0 → 16 * a.records ≤ length out) → (r.answer.number ≡ a.number) × (r.answer.place ≡ a.place) × (r.answer.records ≡ a.records)

module _ (table s : List ℕ) where
  -- what is answered where there is no session: by the table and the scene alone
  abbrev none : Answer
  none = unheld_answer (judged table) (ltb longest (length s))

  none_held : (b out : List ℕ) → (unheld table s b out).answer ≡ none
  none_held b out = sym (refusals (judged table) none (ltb longest (length s)) (session_in b) b out refl).0

  none_number : none.number ≡ 0 → ⊥
  none_number = by (eqb (judged table).number 0) refl (ltb longest (length s))
    where
      by : (p : Bool) → eqb (judged table).number 0 ≡ p → (q : Bool) → (cond (not p) (answered (judged table).number (judged table).place 0 0) (cond q (answered 7 0 0 0) (answered 20 0 0 0))).number ≡ 0 → ⊥
      by true e true z = omega arith
      by true e false z = omega arith
      by false e q z = differ (sym (eq-eqb (judged table).number 0 z) ∙ e)

  foretells : (a z : Session) (b out : List ℕ) (r : Step) → Foretold (ask_of standard table s a) z out r → Foretells (ask_answer standard table s a) b out r
  foretells a z b out r f = record { short = λ e l. let w = f.short e l in (w.0, w.1.output, rw w.1.events refl); enough = f.enough }

  byte_asks : (b c out : List ℕ) → BytesHoldSame c b → Foretells (byte_ask table s b) c out (byte_step table s c out)
  unfolding byte_ask byte_step
  byte_asks b c out h = rw h.alike (by (holds_session b) refl)
    where
      by : (held : Bool) → holds_session b ≡ held → Foretells (cond held (ask_answer standard table s (session_in b)) (unheld table s b []).answer) c out (cond held (step_of standard table s (session_in c) out) (unheld table s c out))
      by true e =
          let f = commit_as_asked table s (session_in b) (session_in c) out (h.same e) in
          foretells (session_in b) (session_in c) c out (step_of standard table s (session_in c) out) (subst (Foretold (ask_of standard table s (session_in b)) (session_in c) out) f.0 f.1)
      by false e =
          let same = none_held c out ∙ sym (none_held b []) in
          record {
            short = λ z l. absurd (none_number (sym (ap (λ (x : Answer). x.number) (none_held b [])) ∙ z));
            enough = λ _. (ap (λ (x : Answer). x.number) same, ap (λ (x : Answer). x.place) same, ap (λ (x : Answer). x.records) same);
          }

-- ---- the calls
pub host_asks : (table s b c offer before out answer : List ℕ) → session_size ≤ length b → session_size ≤ length c → offer_size ≤ length offer → BytesHoldSame c b →
    HostForetold (host_ask table s b offer before) c out (host_step table s c out answer)
unfolding host_ask host_step
host_asks table s b c offer before out answer long long' room same =
    let f = byte_asks table s b c out same in
    rw (le-ltb (length b) session_size long, le-ltb (length c) session_size long', le-ltb (length offer) offer_size room) (record { short = f.short; enough = f.enough })

pub host_asked : (table s b c offer before out answer : List ℕ) → session_size ≤ length b → session_size ≤ length c → offer_size ≤ length offer → All (λ (x : ℕ). x < 256) b → length s < 2 ^ 64 → BytesHoldSame c b →
    let a = host_ask table s b offer before in
    HostForetold a c out (host_commit a.offer table s c out answer)
host_asked table s b c offer before out answer long long' room few short same =
    subst (HostForetold (host_ask table s b offer before) c out) (sym (host_commit_of_ask table s b c out offer before answer long long' room few short same)) (host_asks table s b c offer before out answer long long' room same)
