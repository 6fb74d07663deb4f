-- Ask and commit of a session in bytes: no session in them, what is then asked, what is then committed.
use Prim.Native.Nat.{ℕ}
use mathlib.Core.Path.{◌≡◌, refl, sym, ap, ◌∙◌}
use mathlib.Core.List.{List, []}
use mathlib.Core.Bool.{Bool, true, false, not, ◌&&◌}
use borrow.Author.Tests.{not-true, not-false}
use lib.Dec.{eqb, ltb}
use lib.ListN.{length}
use Rattle.table.specs.Table.{standard}
use Rattle.table.specs.Judge.{judged}
use Rattle.table.specs.declared.Answer.{Answer}
use Rattle.equality.specs.Checks.{within_arrays}
use Rattle.sessions.specs.Stepping.{Step, longest}
use Rattle.sessions.specs.Asking.{holds_same, ask_answer, step_where, Offer, offered}
use Rattle.sessions.specs.Session.{Session}
use Rattle.asking.proofs.OfferTurns.{where_offered}
use Rattle.layout.specs.Layout.{session_in, holds_session}
use Rattle.layout.proofs.Told.{Handed}
use Rattle.layout.proofs.Unheld.{unheld_answer, refusals}
use Rattle.offers.specs.Layout.{offer_in, holds_offer}
use Rattle.offers.specs.Calls.{byte_ask, byte_commit}

-- an offer as the code compares it: only where the session's counts fit its arrays
abbrev pub compared : Offer → Session → List ℕ → Bool
compared o z s = (within_arrays z.scope.depth z.scope.bound z.spaces && holds_same z o.session) && eqb (length s) o.length

where_held : (table s : List ℕ) (z : Session) (out : List ℕ) (held : Bool) (o : Offer) → step_where (held && compared o z s) standard table s z out ≡ step_where (held && offered o z s) standard table s z out
where_held table s z out true o = where_offered table s z out o
where_held table s z out false o = refl

module _ (table s b : List ℕ) (held : Bool) (e : held ≡ holds_session b) where
  pub none_asked : (r : Answer) → not held ≡ true → r ≡ unheld_answer (judged table) (ltb longest (length s)) → r ≡ byte_ask table s b
  unfolding byte_ask
  none_asked r h q = rw (sym e ∙ not-true held h) (refusals (judged table) r (ltb longest (length s)) (session_in b) b [] q).0

  pub then_asked : (z : Session) (r : Answer) → not held ≡ false → z ≡ session_in b → r ≡ ask_answer standard table s z → r ≡ byte_ask table s b
  unfolding byte_ask
  then_asked z r h ez q = q ∙ (ap (ask_answer standard table s) ez ∙ rw (sym e ∙ not-false held h))

  module _ (offer out : List ℕ) where
    pub none_held : (r : Answer) → not held ≡ true → r ≡ unheld_answer (judged table) (ltb longest (length s)) → Handed r out b b (byte_commit offer b table s out)
    unfolding byte_commit
    none_held r h q = rw (sym e ∙ not-true held h) (refusals (judged table) r (ltb longest (length s)) (session_in b) b out q)

    -- same: what comparing the offer said
    pub committed : not held ≡ false → (z : Session) → z ≡ session_in b → (same : Bool) → same ≡ (holds_offer offer && compared (offer_in offer) z s) → (r : Step) → r ≡ step_where same standard table s z out → r ≡ byte_commit offer b table s out
    unfolding byte_commit
    committed h z ez same es r q =
        q
        ∙ ap (λ (t : Bool). step_where t standard table s z out) es
        ∙ ap (λ (x : Session). step_where (holds_offer offer && compared (offer_in offer) x s) standard table s x out) ez
        ∙ where_held table s (session_in b) out (holds_offer offer) (offer_in offer)
        ∙ rw (sym e ∙ not-false held h)
