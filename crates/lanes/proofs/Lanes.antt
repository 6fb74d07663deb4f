-- Lanes: the bytes of a number, the least significant first. One direction is all that is needed: as many lanes of the mask as are 0, so many bytes
-- are plain.
--     less_step, other_step       a lane of a difference without its high bit: nothing was borrowed from the lanes behind it
--     plain_lanes                 lanes of 0 in the mask: the bytes are plain
--     counted                     the zeros at a number's end, by eight: lanes of 0
use Rattle.std.proofs.Common.{◌≡◌, ℕ, zero, suc, ◌+◌, ◌*◌, ◌/◌, ◌%◌, ◌^◌, ◌<◌, ◌≤◌, true, take, sym, refl, ap, ◌∙◌, subst, le_of_suc-le-suc, not-suc-le-zero, mod-eq_of_lt, mul_assoc, pow-suc, arith, lt-ltb, ne_eqb, le-leb}
use lib.Bits.{bit_and, bit_or, bit_xor, and_le_l, and_le_r, or_add_and, and_high, and_mod, or_mod, xor_mod, and_shr, or_shr, xor_shr, xor_self}
use lib.Count.{count_trailing_zeros, under, trailing_le}
use Rattle.laws.specs.Lists.{all}
use Rattle.lanes.specs.Words.{digits}
use Rattle.lanes.specs.Plain.{is_plain, Clear}

-- a number of n lanes, each of them c
abbrev pub repeated : ℕ → ℕ → ℕ
repeated zero c = 0
repeated (suc n) c = repeated n c * 256 + c

-- ---- differences that wrap

-- r is a less b, but for what n lanes cannot hold
record Less (n r b a : ℕ) : Type 0 where
  over : ℕ
  is : r + b ≡ a + over * 256 ^ n

wrapped : (r b a : ℕ) → (r + b) % 2 ^ 64 ≡ a → Less 8 r b a
wrapped r b a e = record { over = (r + b) / 2 ^ 64; is = omega arith }

-- a lane without its high bit: it is the difference of the lanes, and so are the lanes behind it
less_step : (n r b a : ℕ) → Less (suc n) r b a → r % 256 < 128 → b % 256 < 128 → (a % 256 ≡ r % 256 + b % 256) × Less n (r / 256) (b / 256) (a / 256)
less_step n r b a l h k =
    let x : ℕ = l.over * 256 ^ n in
    let p : l.over * 256 ^ suc n ≡ x * 256 = ap (λ (m : ℕ). l.over * m) (pow-suc 256 n) ∙ sym (mul_assoc l.over (256 ^ n) 256) in
    let e : r + b ≡ a + x * 256 = l.is ∙ ap (λ (m : ℕ). a + m) p in
    (omega arith, record { over = l.over; is = omega arith })

-- the same of w ^ c less 1: the lane of w is not c
other_step : (n r w c : ℕ) → c < 256 → Less (suc n) r (repeated (suc n) 1) (bit_xor w (repeated (suc n) c)) → r % 256 < 128
    → (w % 256 ≡ c → ⊥) × Less n (r / 256) (repeated n 1) (bit_xor (w / 256) (repeated n c))
other_step n r w c h l k =
    let o = repeated (suc n) 1 in
    let v = repeated (suc n) c in
    let s = less_step n r o (bit_xor w v) l k (omega arith) in
    let low : v % 256 ≡ c = omega arith in
    let high : v / 256 ≡ repeated n c = omega arith in
    let one : o / 256 ≡ repeated n 1 = omega arith in
    let m : bit_xor w v % 256 ≡ bit_xor (w % 256) c = xor_mod w v 8 ∙ ap (bit_xor (w % 256)) low in
    let d : bit_xor w v / 256 ≡ bit_xor (w / 256) (repeated n c) = xor_shr w v 8 ∙ ap (bit_xor (w / 256)) high in
    (λ e. let z : bit_xor (w % 256) c ≡ 0 = rw e (xor_self c) in omega (arith, s.0, m, z), rw (one, d) at s.1)

-- ---- the mask: the high bits of the lanes of six numbers

-- a number's high bits, one to a lane
abbrev highs : ℕ → ℕ → ℕ
highs n m = bit_and m (repeated n 0x80)

no_high : (x : ℕ) → x < 256 → bit_and x 0x80 ≡ 0 → x < 128
no_high x h e =
    let m : x / 128 % 2 ≡ x / 128 = mod-eq_of_lt (omega arith) in
    let q : bit_and x 0x80 ≡ x / 128 * 128 = and_high x 1 7 ∙ ap (λ (y : ℕ). y * 128) m in
    omega arith

high_step : (n m : ℕ) → (highs (suc n) m % 256 ≡ 0 → m % 256 < 128) × (highs (suc n) m / 256 ≡ highs n (m / 256))
high_step n m =
    let h = repeated (suc n) 0x80 in
    let low : h % 256 ≡ 0x80 = omega arith in
    let rest : h / 256 ≡ repeated n 0x80 = omega arith in
    let e : bit_and m h % 256 ≡ bit_and (m % 256) 0x80 = and_mod m h 8 ∙ ap (bit_and (m % 256)) low in
    let d : bit_and m h / 256 ≡ bit_and (m / 256) (repeated n 0x80) = and_shr m h 8 ∙ ap (bit_and (m / 256)) rest in
    (λ z. no_high (m % 256) (omega arith) (sym e ∙ z), d)

-- no high bit in the least lane of a | b: none in a's and in b's
either : (a b : ℕ) → bit_or a b % 256 < 128 → (a % 256 < 128) × (b % 256 < 128)
either a b h =
    let e = or_mod a b 8 in
    let s = or_add_and (a % 256) (b % 256) in
    let l = and_le_l (a % 256) (b % 256) in
    let r = and_le_r (a % 256) (b % 256) in
    (omega (arith, e, s, r), omega (arith, e, s, l))

-- five of the mask's six numbers, by the sixth, w: w less 20, and w ^ c less 1 for the quote, &, < and >
record Tested (n quote w a b c d e : ℕ) : Type 0 where
  above : Less n a (repeated n 0x20) w
  quotes : Less n b (repeated n 1) (bit_xor w (repeated n quote))
  ampersands : Less n c (repeated n 1) (bit_xor w (repeated n 0x26))
  starts : Less n d (repeated n 1) (bit_xor w (repeated n 0x3C))
  ends : Less n e (repeated n 1) (bit_xor w (repeated n 0x3E))

abbrev joined : ℕ → ℕ → ℕ → ℕ → ℕ → ℕ → ℕ
joined w a b c d e = bit_or (bit_or (bit_or (bit_or (bit_or a b) c) d) e) w

joined_rest : (w a b c d e : ℕ) → joined w a b c d e / 256 ≡ joined (w / 256) (a / 256) (b / 256) (c / 256) (d / 256) (e / 256)
joined_rest w a b c d e =
    rw (
      or_shr (bit_or (bit_or (bit_or (bit_or a b) c) d) e) w 8,
      or_shr (bit_or (bit_or (bit_or a b) c) d) e 8,
      or_shr (bit_or (bit_or a b) c) d 8,
      or_shr (bit_or a b) c 8,
      or_shr a b 8,
    )

-- a lane of 0: the byte is plain, and the other lanes are those of the other bytes
tested_step : (n quote w a b c d e : ℕ) → quote < 256 → Tested (suc n) quote w a b c d e → joined w a b c d e % 256 < 128
    → (is_plain quote (w % 256) ≡ true) × Tested n quote (w / 256) (a / 256) (b / 256) (c / 256) (d / 256) (e / 256)
unfolding is_plain
tested_step n quote w a b c d e h t k =
    let o₅ = either (bit_or (bit_or (bit_or (bit_or a b) c) d) e) w k in
    let o₄ = either (bit_or (bit_or (bit_or a b) c) d) e o₅.0 in
    let o₃ = either (bit_or (bit_or a b) c) d o₄.0 in
    let o₂ = either (bit_or a b) c o₃.0 in
    let o₁ = either a b o₂.0 in
    let s = less_step n a (repeated (suc n) 0x20) w t.above o₁.0 (omega arith) in
    let q = other_step n b w quote h t.quotes o₁.1 in
    let m = other_step n c w 0x26 (omega arith) t.ampersands o₂.1 in
    let l = other_step n d w 0x3C (omega arith) t.starts o₃.1 in
    let r = other_step n e w 0x3E (omega arith) t.ends o₄.1 in
    let x = w % 256 in
    let twenty : repeated (suc n) 0x20 / 256 ≡ repeated n 0x20 = omega arith in (
      simp (
        le-leb 0x20 x (omega (arith, s.0)),
        lt-ltb x 0x80 o₅.1,
        ne_eqb x quote q.0,
        ne_eqb x 0x26 m.0,
        ne_eqb x 0x3C l.0,
        ne_eqb x 0x3E r.0,
      ),
      record { above = rw twenty at s.1; quotes = q.1; ampersands = m.1; starts = l.1; ends = r.1 },
    )

plain_lanes : (n k quote w a b c d e : ℕ) → quote < 256 → Tested n quote w a b c d e → Clear k (highs n (joined w a b c d e)) → all (is_plain quote) (take k (digits n w)) ≡ true
unfolding all digits Clear
plain_lanes n zero quote w a b c d e h t z = refl
plain_lanes zero (suc k) quote w a b c d e h t z = refl
plain_lanes (suc n) (suc k) quote w a b c d e h t z =
    let m = joined w a b c d e in
    let s = tested_step n quote w a b c d e h t ((high_step n m).0 z.0) in
    let f : highs (suc n) m / 256 ≡ highs n (joined (w / 256) (a / 256) (b / 256) (c / 256) (d / 256) (e / 256)) = (high_step n m).1 ∙ ap (highs n) (joined_rest w a b c d e) in
    rw s.0 (plain_lanes n k quote (w / 256) (a / 256) (b / 256) (c / 256) (d / 256) (e / 256) h s.1 (subst (Clear k) f z.1))

-- what a difference leaves: z is 2 ^ 64 less y
pub taken_back : (x z y : ℕ) → x < 18446744073709551616 → z + y ≡ 18446744073709551616 → ((x + z) % 18446744073709551616 + y) % 18446744073709551616 ≡ x
taken_back x z y h e = omega arith

-- eight lanes, by the code's differences
module _ (quote w a b c d e : ℕ) (h : quote < 256) (above : (a + repeated 8 0x20) % 2 ^ 64 ≡ w) (quotes : (b + repeated 8 1) % 2 ^ 64 ≡ bit_xor w (quote * 0x0101010101010101))
    (ampersands : (c + repeated 8 1) % 2 ^ 64 ≡ bit_xor w (repeated 8 0x26)) (starts : (d + repeated 8 1) % 2 ^ 64 ≡ bit_xor w (repeated 8 0x3C)) (ends : (e + repeated 8 1) % 2 ^ 64 ≡ bit_xor w (repeated 8 0x3E)) where
  pub plain_eight : (k : ℕ) → Clear k (highs 8 (joined w a b c d e)) → all (is_plain quote) (take k (digits 8 w)) ≡ true
  plain_eight k z =
      let q : quote * 0x0101010101010101 ≡ repeated 8 quote = omega arith in
      plain_lanes 8 k quote w a b c d e h
      record {
        above = wrapped a (repeated 8 0x20) w above;
        quotes = wrapped b (repeated 8 1) (bit_xor w (repeated 8 quote)) (quotes ∙ ap (bit_xor w) q);
        ampersands = wrapped c (repeated 8 1) (bit_xor w (repeated 8 0x26)) ampersands;
        starts = wrapped d (repeated 8 1) (bit_xor w (repeated 8 0x3C)) starts;
        ends = wrapped e (repeated 8 1) (bit_xor w (repeated 8 0x3E)) ends;
      } z

-- ---- the zeros at a number's end

peel : (k d m : ℕ) → suc k ≤ count_trailing_zeros d m → (d' : ℕ) × (m % 2 ≡ 0) × (k ≤ count_trailing_zeros d' (m / 2))
unfolding count_trailing_zeros
peel k zero m h = absurd (not-suc-le-zero h)
peel k (suc d) m h = digit (m % 2) refl h
  where
    digit : (r : ℕ) → m % 2 ≡ r → suc k ≤ under r (count_trailing_zeros d (m / 2)) → (d' : ℕ) × (m % 2 ≡ 0) × (k ≤ count_trailing_zeros d' (m / 2))
    digit zero e l = (d, e, le_of_suc-le-suc l)
    digit (suc r) e l = absurd (not-suc-le-zero l)

-- a lane is eight digits
lane_zeros : (k d m : ℕ) → 8 + k ≤ count_trailing_zeros d m → (d' : ℕ) × (m % 256 ≡ 0) × (k ≤ count_trailing_zeros d' (m / 256))
lane_zeros k d m h =
    let a = peel (7 + k) d m (omega (arith, h)) in
    let b = peel (6 + k) a.0 (m / 2) (omega (arith, a.2)) in
    let c = peel (5 + k) b.0 (m / 2 / 2) (omega (arith, b.2)) in
    let e = peel (4 + k) c.0 (m / 2 / 2 / 2) (omega (arith, c.2)) in
    let f = peel (3 + k) e.0 (m / 2 / 2 / 2 / 2) (omega (arith, e.2)) in
    let g = peel (2 + k) f.0 (m / 2 / 2 / 2 / 2 / 2) (omega (arith, f.2)) in
    let i = peel (1 + k) g.0 (m / 2 / 2 / 2 / 2 / 2 / 2) (omega (arith, g.2)) in
    let j = peel k i.0 (m / 2 / 2 / 2 / 2 / 2 / 2 / 2) (omega (arith, i.2)) in
    let q : m / 2 / 2 / 2 / 2 / 2 / 2 / 2 / 2 ≡ m / 256 = omega arith in
    (j.0, omega (arith, a.1, b.1, c.1, e.1, f.1, g.1, i.1, j.1), subst (λ (z : ℕ). k ≤ count_trailing_zeros j.0 z) q j.2)

pub clear_below : (k d m : ℕ) → 8 * k ≤ count_trailing_zeros d m → Clear k m
unfolding Clear
clear_below zero d m h = tt
clear_below (suc k) d m h = let a = lane_zeros (8 * k) d m (omega (arith, h)) in (a.1, clear_below k a.0 (m / 256) a.2)

-- all eight lanes
pub clear_none : (k : ℕ) → Clear k 0
unfolding Clear
clear_none zero = tt
clear_none (suc k) = (refl, clear_none k)

pub counted : (m : ℕ) → (count_trailing_zeros 64 m / 8 ≤ 8) × Clear (count_trailing_zeros 64 m / 8) m
counted m = (omega (arith, trailing_le 64 m), clear_below (count_trailing_zeros 64 m / 8) 64 m (omega arith))
