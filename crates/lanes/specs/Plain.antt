-- Bytes that are passed over eight at a time. Definitions.
use Rattle.std.specs.Prelude.{◌≡◌, ℕ, zero, suc, ◌-◌, ◌/◌, ◌%◌, Bool, not, ◌&&◌, List, take, drop, ◌==◌, nat_le, nat_lt}
use Rattle.laws.specs.Lists.{all}

-- a plain byte: from 20 to 7F, neither the quote nor & nor < nor >. Values and texts pass such a byte wherever it stands. > and the bytes from 80 on
-- are left out, so that a rule about them does not touch what is passed over at once
unfoldable pub is_plain : ℕ → ℕ → Bool
is_plain quote b = nat_le 0x20 b && nat_lt b 0x80 && not (b == quote) && not (b == 0x26) && not (b == 0x3C) && not (b == 0x3E)

-- the bytes of s from at up to end are plain; where s ends before, those that it has
unfoldable pub plain_bytes : List ℕ → ℕ → ℕ → ℕ → Bool
plain_bytes s quote at end = all (is_plain quote) (take (end - at) (drop at s))

-- the k least significant bytes of a number are 0
unfoldable pub Clear : ℕ → ℕ → Type 0
Clear zero m = Unit
Clear (suc k) m = (m % 256 ≡ 0) × Clear k (m / 256)
