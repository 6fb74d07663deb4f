-- Steps of a session in bytes: no session in them, and those of the session in them.
use Prim.Native.Nat.{ℕ}
use mathlib.Core.Path.{◌≡◌, sym, ap, ◌∙◌}
use mathlib.Core.List.{List}
use mathlib.Core.Bool.{Bool, true, false, not}
use borrow.Author.Tests.{not-true, not-false}
use lib.Dec.{ltb}
use lib.ListN.{length}
use Rattle.table.specs.Table.{standard}
use Rattle.table.specs.Judge.{judged}
use Rattle.table.specs.declared.Answer.{Answer}
use Rattle.sessions.specs.Stepping.{Step, longest, advance_of}
use Rattle.sessions.specs.Session.{Session}
use Rattle.sessions.proofs.Advancing.{advance_one}
use Rattle.layout.specs.Layout.{session_in, holds_session}
use Rattle.layout.proofs.Told.{Handed}
use Rattle.layout.proofs.Unheld.{unheld_answer, refusals}
use Rattle.capi.specs.Calls.{byte_step, byte_advance}

module _ (most : ℕ) (table s b out : List ℕ) (held : Bool) (e : held ≡ holds_session b) where
  pub none_held : (r : Answer) → not held ≡ true → r ≡ unheld_answer (judged table) (ltb longest (length s)) → Handed r out b b (byte_advance most table s b out)
  unfolding byte_advance
  none_held r h q = rw (sym e ∙ not-true held h) (refusals (judged table) r (ltb longest (length s)) (session_in b) b out q)

  pub advanced : not held ≡ false → (z : Session) → z ≡ session_in b → (r : Step) → r ≡ advance_of standard most table s z out → r ≡ byte_advance most table s b out
  unfolding byte_advance
  advanced h z ez r q = q ∙ (ap (λ (x : Session). advance_of standard most table s x out) ez ∙ rw (sym e ∙ not-false held h))

-- one step
pub byte_one : (table s b out : List ℕ) → byte_advance 1 table s b out ≡ byte_step table s b out
unfolding byte_advance byte_step
byte_one table s b out = rw (advance_one table s (session_in b) out)
