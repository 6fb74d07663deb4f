-- Where bytes hold other bytes, and the numbers in them.
use Prim.Native.Nat.{ℕ, zero, suc, ◌+◌, ◌*◌, ◌/◌, ◌%◌, ◌^◌, ◌≤◌, ◌<◌}
use mathlib.Core.Path.{◌≡◌, refl, sym, ap, subst, ◌∙◌}
use mathlib.Core.List.{List, [], ◌∷◌, ◌++◌, append_assoc}
use native.Mathlib.Nat.{add-zero, mod-eq_of_lt}
use native.Mathlib.Numerals.{add-one}
use native.Mathlib.Omega.{arith}
use lib.ListN.{length, get_or, drop}
use lib.Seq.{get_or-drop, drop-drop, drop-append_seam}
use Rattle.laws.specs.Gather.{gather}
use mathlib.Core.Logic.{⊎_elim}
use Rattle.laws.specs.Reading.{le_or_lt}
use Rattle.laws.specs.Lists.{tabulate}
use Rattle.layout.specs.Layout.{word4, word8, bytes4, bytes8}
use Rattle.layout.proofs.Stored.{gather_upto, upto_length}

-- b has ys from the index at on
abbrev pub Has : List ℕ → ℕ → List ℕ → Type 0
Has b at ys = (rest : List ℕ) × (drop at b ≡ ys ++ rest)

pub has_first : (ys rest : List ℕ) → Has (ys ++ rest) 0 ys
has_first ys rest = (rest, refl)

pub has_left : (b : List ℕ) (at : ℕ) (ys zs : List ℕ) → Has b at (ys ++ zs) → Has b at ys
has_left b at ys zs h = (zs ++ h.0, h.1 ∙ append_assoc ys zs h.0)

pub has_right : (b : List ℕ) (at : ℕ) (ys zs : List ℕ) (n : ℕ) → length ys ≡ n → Has b at (ys ++ zs) → Has b (at + n) zs
has_right b at ys zs n l h = (
  h.0,
  sym (drop-drop n at b)
      ∙ ap (drop n) (h.1 ∙ append_assoc ys zs h.0)
      ∙ ap (λ (k : ℕ). drop k (ys ++ (zs ++ h.0))) (sym l)
      ∙ drop-append_seam ys (zs ++ h.0),
)

pub has_at : (b : List ℕ) (i j : ℕ) (ys : List ℕ) → i ≡ j → Has b i ys → Has b j ys
has_at b i j ys e h = subst (λ (k : ℕ). Has b k ys) e h

-- the bytes of a number, read
byte_in : (b : List ℕ) (at : ℕ) (ys : List ℕ) (i : ℕ) (h : Has b at ys) → get_or b (at + i) 0 ≡ get_or (ys ++ h.0) i 0
byte_in b at ys i h = sym (get_or-drop at b i 0) ∙ ap (λ (l : List ℕ). get_or l i 0) h.1

four_bytes : (n : ℕ) → n < 2 ^ 32 → n % 2 ^ 8 + n / 2 ^ 8 % 2 ^ 8 * 2 ^ 8 + n / 2 ^ 16 % 2 ^ 8 * 2 ^ 16 + n / 2 ^ 24 % 2 ^ 8 * 2 ^ 24 ≡ n
four_bytes n h =
    let a : n / 2 ^ 8 / 2 ^ 8 ≡ n / 2 ^ 16 = omega arith in
    let b : n / 2 ^ 16 / 2 ^ 8 ≡ n / 2 ^ 24 = omega arith in
    let c : n / 2 ^ 24 < 2 ^ 8 = omega arith in
    let d : n / 2 ^ 24 % 2 ^ 8 ≡ n / 2 ^ 24 = mod-eq_of_lt c in
    omega arith

pub has_word : (b : List ℕ) (at n : ℕ) → n < 2 ^ 32 → Has b at (bytes4 n) → word4 b at ≡ n
has_word b at n l h =
    let e₀ : get_or b at 0 ≡ n % 2 ^ 8 = ap (λ (k : ℕ). get_or b k 0) (sym (add-zero at)) ∙ byte_in b at (bytes4 n) 0 h in
    let e₁ : get_or b (at + 1) 0 ≡ n / 2 ^ 8 % 2 ^ 8 = byte_in b at (bytes4 n) 1 h in
    let e₂ : get_or b (at + 2) 0 ≡ n / 2 ^ 16 % 2 ^ 8 = byte_in b at (bytes4 n) 2 h in
    let e₃ : get_or b (at + 3) 0 ≡ n / 2 ^ 24 % 2 ^ 8 = byte_in b at (bytes4 n) 3 h in
    rw (e₀, e₁, e₂, e₃) (four_bytes n l)

pub has_long : (b : List ℕ) (at n : ℕ) → n < 2 ^ 64 → Has b at (bytes8 n) → word8 b at ≡ n
has_long b at n l h =
    let lo : word4 b at ≡ n % 2 ^ 32 = has_word b at (n % 2 ^ 32) (omega arith) (has_left b at (bytes4 (n % 2 ^ 32)) (bytes4 (n / 2 ^ 32)) h) in
    let hi : word4 b (at + 4) ≡ n / 2 ^ 32 = has_word b (at + 4) (n / 2 ^ 32) (omega arith) (has_right b at (bytes4 (n % 2 ^ 32)) (bytes4 (n / 2 ^ 32)) 4 refl h) in
    let e : n % 2 ^ 32 + n / 2 ^ 32 * 2 ^ 32 ≡ n = omega arith in
    ap (λ (x : ℕ). x + word4 b (at + 4) * 2 ^ 32) lo ∙ ap (λ (x : ℕ). n % 2 ^ 32 + x * 2 ^ 32) hi ∙ e

-- the i-th of numbers stored one after the other
pub has_words : (b : List ℕ) (at : ℕ) (ws : List ℕ) (i : ℕ) → i < length ws → Has b at (gather bytes4 ws) → Has b (at + 4 * i) (bytes4 (get_or ws i 0))
unfolding gather
has_words b at [] i l h = absurd (omega arith)
has_words b at (w ∷ ws) zero l h = has_at b at (at + 4 * 0) (bytes4 w) (omega arith) (has_left b at (bytes4 w) (gather bytes4 ws) h)
has_words b at (w ∷ ws) (suc i) l h =
    has_at b (at + 4 + 4 * i) (at + 4 * suc i) (bytes4 (get_or ws i 0)) (omega arith)
    (has_words b (at + 4) ws i (omega arith) (has_right b at (bytes4 w) (gather bytes4 ws) 4 refl h))

-- the k-th of parts of 96 bytes
pub has_upto : (f : ℕ → List ℕ) (n : ℕ) → ((k : ℕ) → k < n → length (f k) ≡ 96) → (b : List ℕ) (at m k : ℕ) → m ≤ n → k < m → Has b at (gather f (tabulate (λ (i : ℕ). i) 0 m)) → Has b (at + 96 * k) (f k)
has_upto f n each b at zero k g l h = absurd (omega arith)
has_upto f n each b at (suc m) k g l h =
    ⊎_elim (λ q. has_upto f n each b at m k (omega arith) q (has_left b at (gather f (tabulate (λ (i : ℕ). i) 0 m)) (f m) parts)) last (le_or_lt (suc k) m)
  where
    parts : Has b at (gather f (tabulate (λ (i : ℕ). i) 0 m) ++ f m)
    parts = subst (λ (ys : List ℕ). Has b at ys) (ap (λ (i : ℕ). gather f (tabulate (λ (j : ℕ). j) 0 i)) (sym (add-one m)) ∙ gather_upto f m) h

    last : m < suc k → Has b (at + 96 * k) (f k)
    last q =
        let e : m ≡ k = omega arith in
        subst (λ (j : ℕ). Has b (at + 96 * j) (f j)) e
        (has_right b at (gather f (tabulate (λ (i : ℕ). i) 0 m)) (f m) (96 * m) (upto_length f n each m (omega arith)) parts)
