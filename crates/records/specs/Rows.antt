-- 'Records': a row is a record's seven fields; its 16 bytes, and rows laid into an output. Definitions.
use Rattle.std.specs.Prelude.{ℕ, ◌+◌, ◌*◌, ◌/◌, ◌%◌, ◌^◌, ◌<◌, ◌≡◌, Bool, cond, leb, length, get_or}
use mathlib.Core.List.{List, [], ◌∷◌, ◌++◌, foldl}
use Rattle.laws.specs.Over.{overwrite}
use Rattle.laws.specs.Gather.{gather}
use Rattle.laws.specs.Members.{All}
use Rattle.model.specs.Records.{Body, record_bytes}
use Rattle.records.specs.declared.Row.{Row}

abbrev pub body_of : Row → Body
body_of r = record { kind = r.kind; class = r.class; at = r.at; len = r.len; uri_at = r.uri_at; uri_len = r.uri_len }

unfoldable pub row_bytes : Row → List ℕ
row_bytes r = record_bytes r.unit (body_of r)

-- An output, and the place from which on it is free
pub record Laid : Type 0 where
  pub out : List ℕ
  pub at : ℕ

abbrev pub laid : List ℕ → ℕ → Laid
laid out at = record { out = out; at = at }

-- there is room for 16 bytes
abbrev pub fits : List ℕ → ℕ → Bool
fits out at = leb (at + 16) (length out)

-- a row laid at the place, and the place behind it; where it does not fit, nothing
unfoldable pub laid_row : Laid → Row → Laid
laid_row w r = cond (fits w.out w.at) (laid (overwrite w.out w.at (row_bytes r)) (w.at + 16)) w

-- the same where it is due
unfoldable pub laid_if : Bool → Laid → Row → Laid
laid_if due w r = cond due (laid_row w r) w

-- rows, one after the other
unfoldable pub laid_rows : Laid → List Row → Laid
laid_rows = foldl laid_row

-- ---- a row as two words, eight of its bytes to each
-- a number's lowest 64 bits, "most significant bit first"
unfoldable pub bytes8 : ℕ → List ℕ
bytes8 w =
    w / 2 ^ 56 % 2 ^ 8 ∷ w / 2 ^ 48 % 2 ^ 8 ∷ w / 2 ^ 40 % 2 ^ 8 ∷ w / 2 ^ 32 % 2 ^ 8 ∷ w / 2 ^ 24 % 2 ^ 8 ∷ w / 2 ^ 16 % 2 ^ 8 ∷ w / 2 ^ 8 % 2 ^ 8 ∷ w % 2 ^ 8 ∷ []

-- the first word but for the unit: kind, class, offset and the length's highest byte; what the unit adds to it
unfoldable pub first_word : Body → ℕ
first_word b = b.kind * 2 ^ 40 + b.class * 2 ^ 32 + b.at % 2 ^ 24 * 2 ^ 8 + b.len / 2 ^ 16 % 2 ^ 8

unfoldable pub unit_word : ℕ → ℕ
unit_word unit = unit % 2 ^ 16 * 2 ^ 48

-- the last word: the length's other bytes, URI offset, URI length
unfoldable pub last_word : Body → ℕ
last_word b = b.len % 2 ^ 16 * 2 ^ 48 + b.uri_at % 2 ^ 24 * 2 ^ 24 + b.uri_len % 2 ^ 24

abbrev pub body_words : Body → List ℕ
body_words b = first_word b ∷ last_word b ∷ []

-- the j-th of the rows that an array holds as words, two to each, with what the unit adds: its 16 bytes
unfoldable pub words_row : List ℕ → ℕ → ℕ → List ℕ
words_row words unit j = bytes8 (get_or words (2 * j) 0 + unit) ++ bytes8 (get_or words (2 * j + 1) 0)

-- kind and class are bytes
abbrev pub ByteFields : Body → Type 0
ByteFields b = (b.kind < 256) × (b.class < 256)

-- an array begins with the words of these rows
pub record InWords (words : List ℕ) (bodies : List Body) : Type 0 where
  pub fields : All ByteFields bodies
  pub held : (i : ℕ) → i < 2 * length bodies → get_or words i 0 ≡ get_or (gather body_words bodies) i 0
