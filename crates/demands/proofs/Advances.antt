-- What an advance comes to, from a session that steps handed back: so many events more, with their records laid over the output; and then so many steps
-- were taken, or the next is refused.
use Prim.Native.Nat.{ℕ, zero, suc, ◌+◌, ◌*◌, ◌≤◌, ◌<◌}
use mathlib.Core.Path.{◌≡◌, refl, sym, ap, subst, ◌∙◌}
use mathlib.Core.List.{List, [], ◌++◌, append_assoc, append-nil}
use mathlib.Core.Bool.{cond}
use mathlib.Core.Logic.{◌⊎◌, inl, inr, ⊎_elim}
use native.Mathlib.Nat.{add-zero}
use native.Mathlib.Omega.{arith}
use borrow.Author.Tests.{ne_eqb}
use lib.ListN.{length, drop, length-append, length-drop}
use lib.Seq.{drop-drop}
use lib.Dec.{eqb}
use Rattle.table.specs.Table.{decode, standard}
use Rattle.reader.specs.Events.{ReaderState}
use Rattle.reader.proofs.Progress.{left_of, less, onward}
use Rattle.model.specs.Theory.{Record}
use Rattle.model.specs.Records.{Body}
use Rattle.sessions.specs.Sessions.{reader_of}
use Rattle.sessions.specs.Stepping.{Step, answered, refused_step, step_of, rest_of, joined, advance_of}
use Rattle.sessions.specs.Session.{Session}
use Rattle.sessions.proofs.Behind.{behind}
use Rattle.demands.proofs.Bytes.{laid, none_laid, behind_laid, laid_length, laid_on}
use Rattle.demands.proofs.Reached.{Reached, reached_step}
use Rattle.demands.proofs.Outcomes.{Said, Outcome, refuses, accepts, outcome}

-- behind so many events, with these records: what is handed back
abbrev pub standing : ℕ → ℕ → ℕ → List (Record Body ℕ) → Session → List ℕ → Step
standing number place events rs z out = record { answer = answered number place events (length rs); session = z; output = laid rs out }

-- the next step, lent what is left of the output, is refused
pub record Refused (table s : List ℕ) (z : Session) (rest : List ℕ) (number place : ℕ) : Type 0 where
  pub said : Said s (reader_of z) number place
  pub step : step_of standard table s z rest ≡ refused_step number place z rest

-- from z, behind k events with the records before them
pub record Advanced (table s : List ℕ) (z : Session) (k : ℕ) (before : List (Record Body ℕ)) (most : ℕ) (out : List ℕ) (r : Step) : Type 0 where
  pub number : ℕ
  pub place : ℕ
  pub events : ℕ
  pub records : List (Record Body ℕ)
  pub session : Session
  pub is : r ≡ standing number place events records session out
  pub reached : Reached (decode table) s session (k + events) (before ++ records)
  pub room : 16 * length records ≤ length out
  pub left : events + left_of s (reader_of session) ≤ left_of s (reader_of z)
  pub stop : ((number ≡ 0) × (events ≡ most)) ⊎ Refused table s session (drop (16 * length records) out) number place

module _ (table s : List ℕ) where
  -- no step is accepted
  none : (z : Session) (k : ℕ) (before : List (Record Body ℕ)) → Reached (decode table) s z k before → (most : ℕ) (out : List ℕ) (number place : ℕ) → ((number ≡ 0) × (0 ≡ most)) ⊎ Refused table s z out number place
      → Advanced table s z k before most out (record { answer = answered number place 0 0; session = z; output = out })
  none z k before h most out number place stop =
      record {
        number = number;
        place = place;
        events = 0;
        records = [];
        session = z;
        is = rw (none_laid out);
        reached = rw (add-zero k, append-nil) h;
        room = omega arith;
        left = omega arith;
        stop = stop;
      }

  pub advanced : (most : ℕ) (z : Session) (k : ℕ) (before : List (Record Body ℕ)) → Reached (decode table) s z k before → (out : List ℕ) → Advanced table s z k before most out (advance_of standard most table s z out)
  unfolding advance_of
  advanced zero z k before h out = none z k before h 0 out 0 z.place (inl (refl, refl))
  advanced (suc n) z k before h out = by (step_of standard table s z out) refl (outcome table s z out h.sound) (λ w j more g o. advanced n w j more g o)
    where
      by : (r : Step) → step_of standard table s z out ≡ r → Outcome table s z out r
          → ((w : Session) (j : ℕ) (more : List (Record Body ℕ)) → Reached (decode table) s w j more → (o : List ℕ) → Advanced table s w j more n o (advance_of standard n table s w o))
          → Advanced table s z k before (suc n) out (cond (eqb r.answer.number 0) (joined r (advance_of standard n table s r.session (rest_of r))) r)
      by r q (refuses number place said) ih =
          rw (ne_eqb number 0 said.not_event) (none z k before h (suc n) out number place (inr (record { said = said; step = q })))
      by r q (accepts ok short p ps w plan fits) ih =
          let b = behind table ok s short z h.sound p ps w plan in
          let less-left : left_of s (reader_of w) < left_of s (reader_of z) = subst (λ (x : ReaderState). left_of s x < left_of s (reader_of z)) (sym b.reader) (less s (reader_of z) b.state (onward s (reader_of z) b.state b.happened b.read)) in
          let rest = drop (16 * length ps) (laid ps out) in
          let i = ih w (k + 1) (before ++ ps) (reached_step table ok s short z k before h p ps w plan) rest in
          let qs = i.records in
          let count : k + 1 + i.events ≡ k + (1 + i.events) = omega arith in
          let both : length (ps ++ qs) ≡ length ps + length qs = length-append ps qs in
          let used : 16 * length ps + 16 * length qs ≡ 16 * length (ps ++ qs) = omega arith in
          let end : drop (16 * length qs) rest ≡ drop (16 * length (ps ++ qs)) out =
          ap (drop (16 * length qs)) (behind_laid ps out fits) ∙ drop-drop (16 * length qs) (16 * length ps) out ∙ ap (λ (m : ℕ). drop m out) used in
          record {
            number = i.number;
            place = i.place;
            events = 1 + i.events;
            records = ps ++ qs;
            session = i.session;
            is = ap (joined r) i.is ∙ rw (both, ← laid_on ps out fits qs);
            reached = rw (← count, ← append_assoc) i.reached;
            room = omega (arith, i.room, laid_length ps out fits, length-drop (16 * length ps) (laid ps out));
            left = omega (arith, i.left);
            stop = ⊎_elim (λ e. inl (e.0, omega arith)) (λ e. inr (rw (← end) e)) i.stop;
          }
