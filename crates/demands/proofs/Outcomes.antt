-- What a step on a sound session comes to: a refusal by a number that is neither 0 nor 20, with nothing changed; or an event, by a plan whose records fit.
use Prim.Native.Nat.{ℕ, ◌*◌, ◌≤◌, ◌<◌}
use mathlib.Core.Path.{◌≡◌, sym, ◌∙◌}
use mathlib.Core.List.{List}
use mathlib.Core.Bool.{true}
use native.Mathlib.Omega.{arith}
use borrow.Author.Tests.{eq-eqb}
use lib.ListN.{length}
use Rattle.laws.specs.Over.{overwrite}
use Rattle.laws.specs.Gather.{gather}
use Rattle.laws.proofs.Flags.{differ}
use Rattle.table.specs.Table.{decode, standard}
use Rattle.table.specs.Judge.{judged, Accepted}
use Rattle.reader.specs.Events as scene
use Rattle.model.specs.Theory.{Record}
use Rattle.model.specs.Records.{Body}
use Rattle.model.specs.Dispatch.{record_bytes_of}
use Rattle.sessions.specs.Sessions.{reader_of}
use Rattle.sessions.specs.Stepping.{event, plan_of, Step, answered, refused_step, step_of}
use Rattle.sessions.specs.Session.{Session}
use Rattle.sessions.proofs.Sound.{Sound}
use Rattle.sessions.proofs.SoundCoherent.{sound_coherent}
use Rattle.demands.specs.Answers.{Answered, bad_table, long_scene, bad_session, unread, all_read, limited, no_room, wrote}
use Rattle.demands.proofs.Refusals.{answered_by}

-- what a number that is not 0 says of the reader: 9 and 1 to 6 are its own
pub record Said (s : List ℕ) (w : scene.ReaderState) (n p : ℕ) : Type 0 where
  pub not_event : n ≡ 0 → ⊥
  pub not_20 : n ≡ 20 → ⊥
  pub ends : n ≡ 9 → scene.next s w ≡ scene.finished p
  pub reads : n ≤ 6 → scene.next s w ≡ scene.refusal n p

pub data Outcome (table s : List ℕ) (z : Session) (out : List ℕ) : Step → Type 0 where
  refuses : (n p : ℕ) → Said s (reader_of z) n p → Outcome table s z out (refused_step n p z out)
  accepts : Accepted table ≡ true → length s ≤ 16777215 → (p : ℕ) (rs : List (Record Body ℕ)) (z'' : Session) → plan_of (decode table) s z ≡ event p rs z'' → 16 * length rs ≤ length out
      → Outcome table s z out (record { answer = answered 0 z''.place 1 (length rs); session = z''; output = overwrite out 0 (gather record_bytes_of rs) })

pub outcome : (table s : List ℕ) (z : Session) (out : List ℕ) → Sound (decode table) s z → Outcome table s z out (step_of standard table s z out)
outcome table s z out h = by (answered_by table s z out)
  where
    -- a number that is not the reader's
    above : (n p : ℕ) → 6 < n → (n ≡ 9 → ⊥) → (n ≡ 20 → ⊥) → Outcome table s z out (refused_step n p z out)
    above n p lt not-9 not_20 = refuses n p (record { not_event = omega arith; not_20 = not_20; ends = λ e. absurd (not-9 e); reads = λ l. absurd (omega arith) })

    by : {r : Step} → Answered table s z out r → Outcome table s z out r
    by (bad_table lo hi) = above (judged table).number (judged table).place (omega arith) (omega arith) (omega arith)
    by (long_scene a l) = above 7 0 (omega arith) (omega arith) (omega arith)
    by (bad_session a l c) = absurd (differ (sym (sound_coherent (decode table) s z h) ∙ c))
    by (unread r n p q lo hi) = refuses n p (record { not_event = omega arith; not_20 = omega arith; ends = λ e. absurd (omega arith); reads = λ l. q })
    by (all_read r p q) = refuses 9 p (record { not_event = omega arith; not_20 = omega arith; ends = λ n. q; reads = λ l. absurd (omega arith) })
    by (limited r e o q n l lo hi) = above n e.at (omega arith) (omega arith) (omega arith)
    by (no_room r p rs z'' q l) = above 25 p (omega arith) (omega arith) (omega arith)
    by (wrote r p rs z'' q l) = accepts (eq-eqb (judged table).number 0 r.accepted) r.short p rs z'' q l
