-- The layout of an offer in bytes, for hosts: fixed, little-endian, 7,224 bytes. Definitions.
--     0       version, 1
--     1       seven zero bytes
--     8       the scene's length: eight bytes
--     16      the session: its 7,208 bytes
use Rattle.std.specs.Prelude.{ℕ, List, [], ◌∷◌, ◌++◌, Bool, ◌&&◌, take, drop, eqb}
use Rattle.sessions.specs.Asking.{Offer}
use Rattle.layout.specs.Layout.{session_size, word8, bytes8, session_in, holds_session}

abbrev pub offer_size : ℕ
offer_size = 7224

-- the offer that bytes hold
unfoldable pub offer_in : List ℕ → Offer
offer_in b = record { session = session_in (drop 16 b); length = word8 b 8 }

-- bytes that hold an offer: the version and the zero bytes are 1, as a number of eight bytes, and the session's bytes hold a session
unfoldable pub holds_offer : List ℕ → Bool
holds_offer b = eqb (word8 b 0) 1 && holds_session (drop 16 b)

-- the bytes of an offer: of a session in bytes, which stand in it as they are, and a scene of so many bytes
unfoldable pub offer_bytes : List ℕ → ℕ → List ℕ
offer_bytes session n = (1 ∷ 0 ∷ 0 ∷ 0 ∷ 0 ∷ 0 ∷ 0 ∷ 0 ∷ []) ++ bytes8 n ++ take session_size session
