-- Eight bytes as one number: joined, and the bytes told by the number.
use Rattle.std.proofs.Common.{◌≡◌, ℕ, suc, ◌+◌, ◌*◌, ◌/◌, ◌%◌, ◌<◌, ◌≤◌, List, [], ◌∷◌, length, get_or, take, drop, refl, ap, ◌∙◌, arith}
use Rattle.std.specs.Int.{from_le_bytes, w64}
use Rattle.laws.specs.Reading.{drop_here}
use Rattle.lanes.specs.Words.{little_endian, digits}

-- a number's last byte and the rest of it
digit : (b n k : ℕ) (l : List ℕ) → b < 256 → digits k n ≡ l → digits (suc k) (b + 256 * n) ≡ b ∷ l
unfolding digits
digit b n k l h e =
    let m : (b + 256 * n) % 256 ≡ b = omega arith in
    let d : (b + 256 * n) / 256 ≡ n = omega arith in
    rw (m, d, e)

module _ (a b c d e f g h : ℕ) (ha : a < 256) (hb : b < 256) (hc : c < 256) (hd : d < 256) (he : e < 256) (hf : f < 256) (hg : g < 256) (hh : h < 256) where
  -- eight bytes as the library joins them
  pub le64 : from_le_bytes w64 (a ∷ b ∷ c ∷ d ∷ e ∷ f ∷ g ∷ h ∷ []) ≡ little_endian (a ∷ b ∷ c ∷ d ∷ e ∷ f ∷ g ∷ h ∷ [])
  unfolding little_endian
  le64 = omega arith

  pub le64_digits : (n : ℕ) → n ≡ from_le_bytes w64 (a ∷ b ∷ c ∷ d ∷ e ∷ f ∷ g ∷ h ∷ []) → digits 8 n ≡ a ∷ b ∷ c ∷ d ∷ e ∷ f ∷ g ∷ h ∷ []
  unfolding little_endian digits
  le64_digits n q =
      ap (digits 8) (q ∙ le64)
      ∙ digit a (little_endian (b ∷ c ∷ d ∷ e ∷ f ∷ g ∷ h ∷ [])) 7 _ ha
      (digit b (little_endian (c ∷ d ∷ e ∷ f ∷ g ∷ h ∷ [])) 6 _ hb
      (digit c (little_endian (d ∷ e ∷ f ∷ g ∷ h ∷ [])) 5 _ hc
      (digit d (little_endian (e ∷ f ∷ g ∷ h ∷ [])) 4 _ hd
      (digit e (little_endian (f ∷ g ∷ h ∷ [])) 3 _ he
      (digit f (little_endian (g ∷ h ∷ [])) 2 _ hf
      (digit g (little_endian (h ∷ [])) 1 _ hg
      (digit h (little_endian []) 0 _ hh refl)))))))

-- a byte of a span, and those behind it
span_here : (s : List ℕ) (i n j : ℕ) → j ≡ i + 1 → i < length s → take (suc n) (drop i s) ≡ get_or s i 0 ∷ take n (drop j s)
span_here s i n j e h = rw (e, drop_here s i h)

pub eight_at : (s : List ℕ) (i : ℕ) → i + 8 ≤ length s
    → take 8 (drop i s) ≡ get_or s i 0 ∷ get_or s (i + 1) 0 ∷ get_or s (i + 2) 0 ∷ get_or s (i + 3) 0 ∷ get_or s (i + 4) 0 ∷ get_or s (i + 5) 0 ∷ get_or s (i + 6) 0 ∷ get_or s (i + 7) 0 ∷ []
eight_at s i h =
    rw (
      span_here s i 7 (i + 1) refl (omega arith),
      span_here s (i + 1) 6 (i + 2) (omega arith) (omega arith),
      span_here s (i + 2) 5 (i + 3) (omega arith) (omega arith),
      span_here s (i + 3) 4 (i + 4) (omega arith) (omega arith),
      span_here s (i + 4) 3 (i + 5) (omega arith) (omega arith),
      span_here s (i + 5) 2 (i + 6) (omega arith) (omega arith),
      span_here s (i + 6) 1 (i + 7) (omega arith) (omega arith),
      span_here s (i + 7) 0 (i + 8) (omega arith) (omega arith),
    )
