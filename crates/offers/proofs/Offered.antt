-- What ask stores and what commit makes of it.
--     asked_held             ask's bytes hold the offer of the session that the session's bytes hold, and of the scene
--     byte_commit_of_ask     commit of ask's bytes, with the same scene and bytes that hold the same, is the step
use Prim.Native.Nat.{ℕ, ◌+◌, ◌^◌, ◌≤◌, ◌<◌}
use mathlib.Core.Path.{◌≡◌, refl, sym, ap, ◌∙◌}
use mathlib.Core.List.{List, ◌∷◌, ◌++◌}
use mathlib.Core.Bool.{Bool, true, false, cond, ◌&&◌}
use native.Mathlib.Omega.{arith}
use borrow.Author.Tests.{eq-eqb}
use lib.ListN.{length, take, drop}
use Rattle.laws.specs.Members.{All}
use Rattle.laws.specs.Over.{overwrite}
use Rattle.laws.specs.Tests.{both}
use Rattle.table.specs.Table.{standard}
use Rattle.sessions.specs.Stepping.{step_of}
use Rattle.sessions.specs.Asking.{step_where, Offer, offer_of, offered}
use Rattle.sessions.specs.Session.{Session}
use Rattle.sessions.proofs.JudgedFirst.{step_judged_first}
use Rattle.layout.specs.Layout.{session_size, word8, bytes8, session_in, holds_session, session_bytes}
use Rattle.layout.specs.Answers.{unheld}
use Rattle.layout.proofs.RoundTrip.{read_back, held_back, written_back, in_packs, in_storable}
use Rattle.layout.proofs.Within.{has_long}
use Rattle.offers.specs.Layout.{offer_in, holds_offer, offer_bytes}
use Rattle.offers.specs.Calls.{byte_commit, BytesHoldSame}

-- an offer's bytes in their order, and the bytes behind them
abbrev in_order : List ℕ → ℕ → List ℕ → List ℕ
in_order session n rest = 1 ∷ 0 ∷ 0 ∷ 0 ∷ 0 ∷ 0 ∷ 0 ∷ 0 ∷ (bytes8 n ++ (take session_size session ++ rest))

over_first : (offer session : List ℕ) (n : ℕ) → overwrite offer 0 (offer_bytes session n) ≡ in_order session n (drop (0 + length (offer_bytes session n)) offer)
unfolding overwrite offer_bytes
over_first offer session n = refl

module _ (session : List ℕ) (long : session_size ≤ length session) (few : All (λ (x : ℕ). x < 256) session) (s : List ℕ) (short : length s < 2 ^ 64) where
  module _ (rest : List ℕ) where
    abbrev o : List ℕ
    o = in_order session (length s) rest

    version : word8 o 0 ≡ 1
    version = has_long o 0 1 (omega arith) (bytes8 (length s) ++ (take session_size session ++ rest), refl)

    length_in : word8 o 8 ≡ length s
    length_in = has_long o 8 (length s) short (take session_size session ++ rest, refl)

    module _ (h : holds_session session ≡ true) where
      behind : drop 16 o ≡ session_bytes (session_in session) ++ rest
      behind = ap (λ (l : List ℕ). l ++ rest) (sym (written_back session few long h))

      held : holds_offer o ≡ true
      unfolding holds_offer
      held = both _ _ (eq-eqb (word8 o 0) 1 version) (ap holds_session behind ∙ held_back (session_in session) rest (in_storable session few long) (in_packs session h))

      offer_is : offer_in o ≡ offer_of (session_in session) s
      unfolding offer_in
      offer_is =
          ap (λ (z : Session). record { session = z; length = word8 o 8 }) (ap session_in behind ∙ read_back (session_in session) rest (in_storable session few long))
          ∙ ap (λ (n : ℕ). record { session = session_in session; length = n }) length_in

pub asked_held : (session offer s : List ℕ) → session_size ≤ length session → All (λ (x : ℕ). x < 256) session → length s < 2 ^ 64 → holds_session session ≡ true
    → (holds_offer (overwrite offer 0 (offer_bytes session (length s))) ≡ true) × (offer_in (overwrite offer 0 (offer_bytes session (length s))) ≡ offer_of (session_in session) s)
asked_held session offer s long few short h =
    let e = over_first offer session (length s) in
    let rest = drop (0 + length (offer_bytes session (length s))) offer in
    (ap holds_offer e ∙ held session long few s short rest h, ap offer_in e ∙ offer_is session long few s short rest h)

pub byte_commit_of_ask : (session b offer table s out : List ℕ) → session_size ≤ length session → All (λ (x : ℕ). x < 256) session → length s < 2 ^ 64 → BytesHoldSame b session
    → byte_commit (overwrite offer 0 (offer_bytes session (length s))) b table s out ≡ cond (holds_session b) (step_of standard table s (session_in b) out) (unheld table s b out)
unfolding byte_commit
byte_commit_of_ask session b offer table s out long few short same = by (holds_session b) refl
  where
    z : Session
    z = session_in b

    stored : List ℕ
    stored = overwrite offer 0 (offer_bytes session (length s))

    by : (held : Bool) → holds_session b ≡ held
        → cond held (step_where (holds_offer stored && offered (offer_in stored) z s) standard table s z out) (unheld table s b out) ≡ cond held (step_of standard table s z out) (unheld table s b out)
    by false e = refl
    by true e =
        let h = sym same.alike ∙ e in
        let a = asked_held session offer s long few short h in
        ap (λ (t : Bool). step_where t standard table s z out)
        (both (holds_offer stored) (offered (offer_in stored) z s) a.0 (ap (λ (o : Offer). offered o z s) a.1 ∙ both _ _ (same.same h) (eq-eqb (length s) (length s) refl)))
        ∙ step_judged_first table s z out
