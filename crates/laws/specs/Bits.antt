-- Shifts and masks in plain arithmetic. `simp masks` turns `bit_and n 31` into `n % 32`.
use Rattle.std.specs.Prelude.{ℕ, ◌+◌, ◌*◌, ◌%◌, ◌^◌, ◌<◌, ◌≡◌, refl}
use Rattle.std.specs.Int.Bits.{bit_and, bit_or}
use Rattle.std.proofs.lemmas.Nat.{and_mask, or_shifted}
use Rattle.std.proofs.Common.{subst, arith, mod-eq_of_lt}

pub mask1 : (n : ℕ) → bit_and n 1 ≡ n % 2
mask1 n = and_mask n 1

pub mask3 : (n : ℕ) → bit_and n 3 ≡ n % 4
mask3 n = and_mask n 2

pub mask7 : (n : ℕ) → bit_and n 7 ≡ n % 8
mask7 n = and_mask n 3

pub mask15 : (n : ℕ) → bit_and n 15 ≡ n % 16
mask15 n = and_mask n 4

pub mask31 : (n : ℕ) → bit_and n 31 ≡ n % 32
mask31 n = and_mask n 5

pub mask63 : (n : ℕ) → bit_and n 63 ≡ n % 64
mask63 n = and_mask n 6

pub mask127 : (n : ℕ) → bit_and n 127 ≡ n % 128
mask127 n = and_mask n 7

pub mask255 : (n : ℕ) → bit_and n 255 ≡ n % 256
mask255 n = and_mask n 8

pub ruleset masks = (mask1, mask3, mask7, mask15, mask31, mask63, mask127, mask255)

-- a byte put behind a number that has room for it
pub push_byte : (x b : ℕ) → x < 2 ^ 24 → b < 256 → bit_or (x * 256 % 4294967296) b ≡ x * 256 + b
push_byte x b h k = rw (mod-eq_of_lt {n = x * 256} {m = 4294967296} (omega arith)) (or_shifted x 8 b k)

-- four bytes by shifts of 8, the first the most significant
pub be32 : (a b c d : ℕ) → a < 256 → b < 256 → c < 256 → d < 256 → bit_or (bit_or (bit_or (a * 256 % 4294967296) b * 256 % 4294967296) c * 256 % 4294967296) d ≡ a * 2 ^ 24 + b * 2 ^ 16 + c * 2 ^ 8 + d
be32 a b c d ha hb hc hd =
    rw (push_byte a b (omega arith) hb, push_byte (a * 256 + b) c (omega arith) hc, push_byte ((a * 256 + b) * 256 + c) d (omega arith) hd) (omega arith)

-- a shift of x by k and something below 2 ^ k
put : (x k y : ℕ) → (n : ℕ) → x * 2 ^ k ≡ n → y < 2 ^ k → bit_or n y ≡ n + y
put x k y n e h = subst (λ (m : ℕ). bit_or m y ≡ m + y) e (or_shifted x k y h)

-- four bytes by shifts of 24, 16 and 8
pub be32_flat : (a b c d : ℕ) → a < 256 → b < 256 → c < 256 → d < 256 → bit_or (bit_or (bit_or (a * 16777216 % 4294967296) (b * 65536 % 4294967296)) (c * 256 % 4294967296)) d ≡ a * 2 ^ 24 + b * 2 ^ 16 + c * 2 ^ 8 + d
be32_flat a b c d ha hb hc hd =
    rw (mod-eq_of_lt {n = a * 16777216} {m = 4294967296} (omega arith), mod-eq_of_lt {n = b * 65536} {m = 4294967296} (omega arith), mod-eq_of_lt {n = c * 256} {m = 4294967296} (omega arith))
    (rw (put a 24 (b * 65536) (a * 16777216) refl (omega arith))
    (rw (put (a * 256 + b) 16 (c * 256) (a * 16777216 + b * 65536) (omega arith) (omega arith))
    (put ((a * 256 + b) * 256 + c) 8 d (a * 16777216 + b * 65536 + c * 256) (omega arith) hd)))
