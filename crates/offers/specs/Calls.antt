-- What calcivorne_ask and calcivorne_commit hand back, for all arguments; bytes that hold the same. Definitions.
use Rattle.std.specs.Prelude.{ℕ, ◌≡◌, List, [], Bool, true, cond, ◌&&◌, ◌||◌, length, ltb}
use Rattle.table.specs.Table.{standard}
use Rattle.table.specs.declared.Answer.{Answer}
use Rattle.sessions.specs.Stepping.{Step}
use Rattle.sessions.specs.Asking.{holds_same, ask_answer, step_where, offered}
use Rattle.layout.specs.Layout.{session_size, session_in, holds_session}
use Rattle.layout.specs.Answers.{unheld}
use Rattle.offers.specs.Layout.{offer_size, offer_in, holds_offer}

-- "a slice too short for an offer is 255, as for a session"
abbrev pub lacks_room : List ℕ → List ℕ → Bool
lacks_room session offer = ltb (length session) session_size || ltb (length offer) offer_size

-- ask of a session in bytes; bytes that hold no session are answered 20, in 20's rank
unfoldable pub byte_ask : List ℕ → List ℕ → List ℕ → Answer
byte_ask table s b = cond (holds_session b) (ask_answer standard table s (session_in b)) (unheld table s b []).answer

-- commit of an offer in bytes on a session in bytes; bytes that hold no offer are answered 30, in 30's rank: no session was asked about
unfoldable pub byte_commit : List ℕ → List ℕ → List ℕ → List ℕ → List ℕ → Step
byte_commit offer b table s out =
    cond (holds_session b)
    (step_where (holds_offer offer && offered (offer_in offer) (session_in b) s) standard table s (session_in b) out)
    (unheld table s b out)

-- bytes that hold sessions which hold the same, or of which neither hold one
pub record BytesHoldSame (b c : List ℕ) : Type 0 where
  pub alike : holds_session b ≡ holds_session c
  pub same : holds_session c ≡ true → holds_same (session_in b) (session_in c) ≡ true
