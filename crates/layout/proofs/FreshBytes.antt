-- A fresh session's bytes: a 1, the others 0.
use Prim.Native.Nat.{ℕ, zero, suc, ◌+◌, ◌*◌, ◌≤◌, ◌<◌}
use mathlib.Core.Path.{◌≡◌, refl, sym, ap, ◌∙◌}
use mathlib.Core.List.{List, [], ◌∷◌, ◌++◌}
use native.Mathlib.Numerals.{add-one}
use native.Mathlib.Omega.{arith}
use lib.ListN.{length, set, take, drop, replicate}
use Rattle.laws.specs.Lists.{tabulate}
use Rattle.laws.specs.Gather.{gather}
use Rattle.laws.specs.Over.{overwrite}
use Rattle.laws.proofs.Lists.{length_tabulate}
use Rattle.laws.proofs.Over.{part_over}
use Rattle.laws.proofs.Gather.{gather_append}
use Rattle.reader.proofs.Tabulated.{tabulate_same, tabulate_append}
use Rattle.sessions.specs.Sessions.{fresh_of}
use Rattle.layout.specs.Layout.{bytes4, level_bytes, session_bytes}
use Rattle.layout.proofs.Filled.{tabulate_more}
use Rattle.layout.proofs.Stored.{gather_upto}
use Rattle.layout.proofs.Taken.{cut_table}

-- n zeros
abbrev zero_at : ℕ → ℕ
zero_at i = 0

abbrev pub zeros : ℕ → List ℕ
zeros n = tabulate zero_at 0 n

zeros_from : (k n : ℕ) → tabulate zero_at k n ≡ zeros n
zeros_from k n = tabulate_same zero_at zero_at k 0 n (λ _ _. refl)

zeros_suc : (n : ℕ) → zeros (suc n) ≡ 0 ∷ zeros n
unfolding tabulate
zeros_suc n = ap (λ (l : List ℕ). 0 ∷ l) (zeros_from 1 n)

zeros_append : (m n : ℕ) → zeros m ++ zeros n ≡ zeros (m + n)
zeros_append m n = sym (tabulate_append zero_at 0 m n ∙ ap (λ (l : List ℕ). zeros m ++ l) (zeros_from (0 + m) n))

replicate_zeros : (n : ℕ) → replicate n 0 ≡ zeros n
unfolding tabulate
replicate_zeros zero = refl
replicate_zeros (suc n) = ap {B = List ℕ} (λ l. 0 ∷ l) (replicate_zeros n) ∙ sym (zeros_suc n)

-- numbers that are 0
words_zeros : (n : ℕ) → gather bytes4 (zeros n) ≡ zeros (4 * n)
unfolding gather tabulate
words_zeros zero = refl
words_zeros (suc n) =
    let e : 4 * n + 4 ≡ 4 * suc n = omega arith in
    ap (λ (k : ℕ). gather bytes4 (zeros k)) (sym (add-one n))
    ∙ ap (gather bytes4) (tabulate_more zero_at n)
    ∙ gather_append bytes4 (zeros n) (0 ∷ [])
    ∙ ap (λ (l : List ℕ). l ++ (0 ∷ 0 ∷ 0 ∷ 0 ∷ [])) (words_zeros n)
    ∙ zeros_append (4 * n) 4
    ∙ ap zeros e

some_zeros : (m i n : ℕ) → i + n ≤ m → gather bytes4 (take n (drop i (replicate m 0))) ≡ zeros (4 * n)
some_zeros m i n h =
    ap (λ (l : List ℕ). gather bytes4 (take n (drop i l))) (replicate_zeros m)
    ∙ ap (gather bytes4) (cut_table zero_at zero_at m i n h (λ _ _. refl))
    ∙ words_zeros n

level_zeros : (k : ℕ) → k < 64 → level_bytes fresh_of k ≡ zeros 96
unfolding tabulate
level_zeros k h =
    let names = gather bytes4 (take 3 (drop (3 * k) (replicate 192 0))) in
    let uris = gather bytes4 (take 4 (drop (4 * k) (replicate 256 0))) in
    let packed = gather bytes4 (take 16 (drop (16 * k) (replicate 1024 0))) in
    ap (λ (l : List ℕ). l ++ uris ++ (zeros 4 ++ packed)) (some_zeros 192 (3 * k) 3 (omega arith))
    ∙ ap (λ (l : List ℕ). zeros 12 ++ l ++ (zeros 4 ++ packed)) (some_zeros 256 (4 * k) 4 (omega arith))
    ∙ ap (λ (l : List ℕ). zeros 12 ++ zeros 16 ++ (zeros 4 ++ l)) (some_zeros 1024 (16 * k) 16 (omega arith))

levels_zeros : (k : ℕ) → k ≤ 64 → gather (level_bytes fresh_of) (tabulate (λ (i : ℕ). i) 0 k) ≡ zeros (96 * k)
unfolding gather tabulate
levels_zeros zero h = refl
levels_zeros (suc k) h =
    let e : 96 * k + 96 ≡ 96 * suc k = omega arith in
    ap (λ (i : ℕ). gather (level_bytes fresh_of) (tabulate (λ (j : ℕ). j) 0 i)) (sym (add-one k))
    ∙ gather_upto (level_bytes fresh_of) k
    ∙ ap (λ (l : List ℕ). l ++ level_bytes fresh_of k) (levels_zeros k (omega arith))
    ∙ ap (λ (l : List ℕ). zeros (96 * k) ++ l) (level_zeros k (omega arith))
    ∙ zeros_append (96 * k) 96
    ∙ ap zeros e

first_zeros : 1 ∷ 0 ∷ 0 ∷ 0 ∷ 0 ∷ 0 ∷ 0 ∷ 0 ∷ 0 ∷ 0 ∷ 0 ∷ 0 ∷ 0 ∷ 0 ∷ 0 ∷ 0 ∷ 0 ∷ 0 ∷ 0 ∷ 0 ∷ 0 ∷ 0 ∷ 0 ∷ 0 ∷ 0 ∷ 0 ∷ 0 ∷ 0 ∷ 0 ∷ 0 ∷ 0 ∷ 0 ∷ 0 ∷ 0 ∷ 0 ∷ 0 ∷ 0 ∷ 0 ∷ 0 ∷ 0 ∷ [] ≡ 1 ∷ zeros 39
unfolding tabulate
first_zeros = refl

fresh_bytes : session_bytes fresh_of ≡ 1 ∷ zeros 7207
unfolding session_bytes
fresh_bytes =
    let bound = gather bytes4 (replicate 256 0) in
    let levels = gather (level_bytes fresh_of) (tabulate (λ (k : ℕ). k) 0 64) in
    ap (λ (l : List ℕ). l ++ bound ++ levels) first_zeros
    ∙ ap (λ (l : List ℕ). 1 ∷ (zeros 39 ++ gather bytes4 l ++ levels)) (replicate_zeros 256)
    ∙ ap (λ (l : List ℕ). 1 ∷ (zeros 39 ++ l ++ levels)) (words_zeros 256)
    ∙ ap (λ (l : List ℕ). 1 ∷ (l ++ levels)) (zeros_append 39 1024)
    ∙ ap (λ (l : List ℕ). 1 ∷ (zeros 1063 ++ l)) (levels_zeros 64 (omega arith))
    ∙ ap (λ (l : List ℕ). 1 ∷ l) (zeros_append 1063 6144)

-- zeros, stored from the first byte on, and then the 1
module _ (b : List ℕ) where
  first_set : (x y : ℕ) (ys : List ℕ) → set (overwrite b 0 (x ∷ ys)) 0 y ≡ overwrite b 0 (y ∷ ys)
  unfolding overwrite
  first_set x y ys = refl

  pub clear_end : (c : List ℕ) (n k : ℕ) → n ≡ k → k ≡ 7208 → c ≡ replicate n 0 → set (c ++ drop k b) 0 1 ≡ overwrite b 0 (session_bytes fresh_of)
  clear_end c n k h g e =
      let z : c ≡ zeros 7208 = e ∙ replicate_zeros n ∙ ap zeros (h ∙ g) in
      let l : length c ≡ k = ap length e ∙ ap length (replicate_zeros n) ∙ length_tabulate zero_at 0 n ∙ h in
      ap (λ (x : List ℕ). set x 0 1) (part_over b 0 k c l ∙ ap (overwrite b 0) (z ∙ zeros_suc 7207))
      ∙ first_set 0 1 (zeros 7207)
      ∙ ap (overwrite b 0) (sym fresh_bytes)
