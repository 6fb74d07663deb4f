-- Parts of a list of bytes, and the bytes of the numbers in them.
use Prim.Native.Nat.{ℕ, zero, suc, ◌+◌, ◌*◌, ◌/◌, ◌%◌, ◌^◌, ◌≤◌, ◌<◌}
use mathlib.Core.Path.{◌≡◌, refl, sym, ap, ◌∙◌}
use mathlib.Core.List.{List, [], ◌∷◌, ◌++◌, append-nil}
use native.Mathlib.Nat.{mod-eq_of_lt, zero-add}
use native.Mathlib.Numerals.{add-one}
use native.Mathlib.Omega.{arith}
use lib.ListN.{length, get_or, take, drop, length-drop}
use lib.Seq.{take-add, drop-drop, get_or-take, get_or-drop, length-take-le, ext_get_or}
use Rattle.laws.specs.Reading.{drop_here}
use Rattle.laws.specs.Lists.{tabulate}
use Rattle.laws.specs.Gather.{gather}
use Rattle.laws.specs.Members.{All}
use Rattle.laws.proofs.Lists.{length_tabulate, get_d_tabulate}
use Rattle.laws.proofs.Gather.{gather_append}
use Rattle.laws.proofs.Holds.{each_at}
use Rattle.layout.specs.Layout.{word4, word8, bytes4, bytes8}
use Rattle.layout.proofs.Filled.{tabulate_more}

-- n bytes from the index at on
abbrev pub part : List ℕ → ℕ → ℕ → List ℕ
part b at n = take n (drop at b)

pub part_join : (b : List ℕ) (at m n : ℕ) (xs ys : List ℕ) → xs ≡ part b at m → ys ≡ part b (at + m) n → xs ++ ys ≡ part b at (m + n)
part_join b at m n xs ys e f =
    ap (λ (l : List ℕ). l ++ ys) e
    ∙ ap (λ (l : List ℕ). part b at m ++ l) f
    ∙ sym (take-add m n (drop at b) ∙ ap (λ (l : List ℕ). take m (drop at b) ++ take n l) (drop-drop m at b))

pub part_four : (b : List ℕ) (at : ℕ) → at + 4 ≤ length b → part b at 4 ≡ get_or b at 0 ∷ get_or b (at + 1) 0 ∷ get_or b (at + 2) 0 ∷ get_or b (at + 3) 0 ∷ []
part_four b at h =
    let e₀ : drop at b ≡ get_or b at 0 ∷ drop (at + 1) b = drop_here b at (omega arith) in
    let e₁ : drop (at + 1) b ≡ get_or b (at + 1) 0 ∷ drop (at + 2) b = next (at + 1) (at + 2) (omega arith) (omega arith) in
    let e₂ : drop (at + 2) b ≡ get_or b (at + 2) 0 ∷ drop (at + 3) b = next (at + 2) (at + 3) (omega arith) (omega arith) in
    let e₃ : drop (at + 3) b ≡ get_or b (at + 3) 0 ∷ drop (at + 4) b = next (at + 3) (at + 4) (omega arith) (omega arith) in
    ap (take 4) (e₀ ∙ ap (λ (l : List ℕ). get_or b at 0 ∷ l) (e₁ ∙ ap (λ (l : List ℕ). get_or b (at + 1) 0 ∷ l) (e₂ ∙ ap (λ (l : List ℕ). get_or b (at + 2) 0 ∷ l) e₃)))
  where
    next : (i j : ℕ) → i + 1 ≡ j → i < length b → drop i b ≡ get_or b i 0 ∷ drop j b
    next i j e l = drop_here b i l ∙ ap (λ (k : ℕ). get_or b i 0 ∷ drop k b) e

-- four bytes of a number that four bytes make
pub same_four : (x x' y y' z z' w w' : ℕ) → x ≡ x' → y ≡ y' → z ≡ z' → w ≡ w' → x ∷ y ∷ z ∷ w ∷ [] ≡ x' ∷ y' ∷ z' ∷ w' ∷ []
same_four x x' y y' z z' w w' e f g h = cc

four_back : (x y z w : ℕ) → x < 256 → y < 256 → z < 256 → w < 256 → bytes4 (x + y * 2 ^ 8 + z * 2 ^ 16 + w * 2 ^ 24) ≡ x ∷ y ∷ z ∷ w ∷ []
four_back x y z w hx hy hz hw =
    let n : ℕ = x + y * 2 ^ 8 + z * 2 ^ 16 + w * 2 ^ 24 in
    let q₁ : n / 2 ^ 8 ≡ y + z * 2 ^ 8 + w * 2 ^ 16 = omega arith in
    let q₂ : n / 2 ^ 16 ≡ z + w * 2 ^ 8 = omega arith in
    let q₃ : n / 2 ^ 24 ≡ w = omega arith in
    same_four (n % 2 ^ 8) x (n / 2 ^ 8 % 2 ^ 8) y (n / 2 ^ 16 % 2 ^ 8) z (n / 2 ^ 24 % 2 ^ 8) w (omega arith)
    (ap (λ (k : ℕ). k % 2 ^ 8) q₁ ∙ low y (z + w * 2 ^ 8) (omega arith) hy)
    (ap (λ (k : ℕ). k % 2 ^ 8) q₂ ∙ low z w refl hz)
    (ap (λ (k : ℕ). k % 2 ^ 8) q₃ ∙ mod-eq_of_lt hw)
  where
    low : (a q : ℕ) {m : ℕ} → m ≡ a + q * 2 ^ 8 → a < 256 → m % 2 ^ 8 ≡ a
    low a q e l = omega arith

module _ (b : List ℕ) (few : All (λ (x : ℕ). x < 256) b) where
  byte_few : (i : ℕ) → i < length b → get_or b i 0 < 256
  byte_few i l = each_at (λ (x : ℕ). x < 256) b i 0 few l

  pub word_few : (at : ℕ) → at + 4 ≤ length b → word4 b at < 2 ^ 32
  word_few at h = omega (arith, byte_few at (omega arith), byte_few (at + 1) (omega arith), byte_few (at + 2) (omega arith), byte_few (at + 3) (omega arith))

  pub word_part : (at : ℕ) → at + 4 ≤ length b → bytes4 (word4 b at) ≡ part b at 4
  word_part at h =
      four_back (get_or b at 0) (get_or b (at + 1) 0) (get_or b (at + 2) 0) (get_or b (at + 3) 0) (byte_few at (omega arith)) (byte_few (at + 1) (omega arith)) (byte_few (at + 2) (omega arith)) (byte_few (at + 3) (omega arith))
      ∙ sym (part_four b at h)

  pub long_part : (at : ℕ) → at + 8 ≤ length b → bytes8 (word8 b at) ≡ part b at 8
  long_part at h =
      let lo : word8 b at % 2 ^ 32 ≡ word4 b at = omega (arith, word_few at (omega arith)) in
      let hi : word8 b at / 2 ^ 32 ≡ word4 b (at + 4) = omega (arith, word_few at (omega arith)) in
      part_join b at 4 4 (bytes4 (word8 b at % 2 ^ 32)) (bytes4 (word8 b at / 2 ^ 32))
      (ap bytes4 lo ∙ word_part at (omega arith))
      (ap bytes4 hi ∙ word_part (at + 4) (omega arith))

  -- numbers one after the other
  pub words_part : (at n : ℕ) → at + 4 * n ≤ length b → gather bytes4 (tabulate (λ (i : ℕ). word4 b (at + 4 * i)) 0 n) ≡ part b at (4 * n)
  unfolding gather tabulate
  words_part at zero h = refl
  words_part at (suc n) h =
      let f : ℕ → ℕ = λ (i : ℕ). word4 b (at + 4 * i) in
      let e : 4 * n + 4 ≡ 4 * suc n = omega arith in
      ap (λ (k : ℕ). gather bytes4 (tabulate f 0 k)) (sym (add-one n))
      ∙ ap (gather bytes4) (tabulate_more f n)
      ∙ gather_append bytes4 (tabulate f 0 n) (f n ∷ [])
      ∙ part_join b at (4 * n) 4 (gather bytes4 (tabulate f 0 n)) (gather bytes4 (f n ∷ [])) (words_part at n (omega arith)) (append-nil (bytes4 (f n)) ∙ word_part (at + 4 * n) (omega arith))
      ∙ ap (part b at) e

-- some of a tabulated list's
pub cut_table : (f g : ℕ → ℕ) (size from n : ℕ) → from + n ≤ size → ((j : ℕ) → j < n → f (from + j) ≡ g j) → take n (drop from (tabulate f 0 size)) ≡ tabulate g 0 n
cut_table f g size from n h same = ext_get_or 0 (take n (drop from (tabulate f 0 size))) (tabulate g 0 n) (l ∙ sym (length_tabulate g 0 n)) each
  where
    l : length (take n (drop from (tabulate f 0 size))) ≡ n
    l = length-take-le n (drop from (tabulate f 0 size)) (omega (arith, length-drop from (tabulate f 0 size), length_tabulate f 0 size))

    each : (j : ℕ) → j < length (take n (drop from (tabulate f 0 size))) → get_or (take n (drop from (tabulate f 0 size))) j 0 ≡ get_or (tabulate g 0 n) j 0
    each j k =
        let m : j < n = omega (arith, l) in
        get_or-take n (drop from (tabulate f 0 size)) j 0 m
        ∙ get_or-drop from (tabulate f 0 size) j 0
        ∙ get_d_tabulate f 0 size (from + j) 0 (omega arith)
        ∙ ap f (zero-add (from + j))
        ∙ same j m
        ∙ sym (get_d_tabulate g 0 n j 0 m ∙ ap g (zero-add j))
