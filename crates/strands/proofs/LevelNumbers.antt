-- What the arrays of a session have of the one that holds the levels.
--     each_long, each_at        how long, and the numbers of a level
--     each_laid, each_kept      where numbers of a level were laid over: among those taken, or beside them
--     name_of, strand_part      a level's name, and its strands as a part of the array
use Prim.Native.Nat.{ℕ, ◌+◌, ◌-◌, ◌*◌, ◌/◌, ◌%◌, ◌≤◌, ◌<◌}
use mathlib.Core.Path.{◌≡◌, sym, ap, ap₂, subst, ◌∙◌}
use mathlib.Core.List.{List}
use mathlib.Core.Logic.{◌⊎◌, inl, inr, ⊎_elim}
use native.Mathlib.Nat.{add_comm, zero-add, mul_comm, div-eq_of_lt, div-lt_iff_lt-mul, mod-eq_of_lt, mod-lt, mul-le-mul_left, mul-suc, div-add-mod, add-mul-div_left, add-mul-mod_self_left}
use native.Mathlib.Omega.{arith}
use lib.ListN.{length, get_or, take, drop, length-drop}
use lib.Seq.{ext_get_or, get_or-take, get_or-drop, length-take-le}
use Rattle.laws.specs.Over.{overwrite}
use Rattle.laws.specs.Reading.{le_or_lt}
use Rattle.laws.proofs.Lists.{length_tabulate, get_d_tabulate}
use Rattle.laws.proofs.Over.{length_over, get_d_over_before, get_d_over_in, get_d_over_after}
use Rattle.reader.specs.Spans.{span}
use Rattle.reader.specs.Scope.{name_in}
use Rattle.strands.specs.Packed.{words_at}
use Rattle.strands.specs.Levels.{of_each, level_names, level_strands}

-- rows of w numbers
pub next_row : (w k n : ℕ) → k < n → w * k + w ≤ w * n
next_row w k n h = subst (λ (x : ℕ). x ≤ w * n) (mul-suc w k) (mul-le-mul_left w h)

row_below : (w k n j : ℕ) → k < n → j < w → w * k + j < w * n
row_below w k n j h l = omega (arith, next_row w k n h)

quotient : (w k j : ℕ) → j < w → (w * k + j) / w ≡ k
quotient w k j l =
    ap (λ (x : ℕ). x / w) (add_comm (w * k) j)
    ∙ add-mul-div_left j k {y = w} (omega arith)
    ∙ ap (λ (x : ℕ). x + k) (div-eq_of_lt l)
    ∙ zero-add k

remainder : (w k j : ℕ) → j < w → (w * k + j) % w ≡ j
remainder w k j l = ap (λ (x : ℕ). x % w) (add_comm (w * k) j) ∙ add-mul-mod_self_left j w k ∙ mod-eq_of_lt l

-- beside a part that is replaced
get_d_beside : (l : List ℕ) (i : ℕ) (ys : List ℕ) (p : ℕ) → i + length ys ≤ length l → (p < i) ⊎ (i + length ys ≤ p) → get_or (overwrite l i ys) p 0 ≡ get_or l p 0
get_d_beside l i ys p h =
    ⊎_elim (λ b. get_d_over_before l i ys p 0 b (omega arith))
    (λ b.
    let e : i + length ys + (p - (i + length ys)) ≡ p = omega arith in
    ap (λ (x : ℕ). get_or (overwrite l i ys) x 0) (sym e)
    ∙ get_d_over_after l i ys (p - (i + length ys)) 0 (omega arith)
    ∙ ap (λ (x : ℕ). get_or l x 0) e)

module _ (w f : ℕ) where
  pub each_long : (l : List ℕ) → length (of_each w f l) ≡ 64 * w
  unfolding of_each
  each_long l = length_tabulate (λ (i : ℕ). get_or l (24 * (i / w) + f + i % w) 0) 0 (64 * w)

  in_order : (l : List ℕ) (i : ℕ) → i < 64 * w → get_or (of_each w f l) i 0 ≡ get_or l (24 * (i / w) + f + i % w) 0
  unfolding of_each
  in_order l i h =
      get_d_tabulate (λ (j : ℕ). get_or l (24 * (j / w) + f + j % w) 0) 0 (64 * w) i 0 h
      ∙ ap (λ (j : ℕ). get_or l (24 * (j / w) + f + j % w) 0) (zero-add i)

  pub each_at : (l : List ℕ) (k j : ℕ) → k < 64 → j < w → get_or (of_each w f l) (w * k + j) 0 ≡ get_or l (24 * k + f + j) 0
  each_at l k j h g =
      in_order l (w * k + j) (subst (λ (x : ℕ). w * k + j < x) (mul_comm w 64) (row_below w k 64 j h g))
      ∙ ap₂ (λ (q r : ℕ). get_or l (24 * q + f + r) 0) (quotient w k j g) (remainder w k j g)

  pub each_is : (l : List ℕ) (k j i p : ℕ) → k < 64 → j < w → i ≡ w * k + j → p ≡ 24 * k + f + j → get_or (of_each w f l) i 0 ≡ get_or l p 0
  each_is l k j i p h g e d = ap (λ (x : ℕ). get_or (of_each w f l) x 0) e ∙ each_at l k j h g ∙ ap (λ (x : ℕ). get_or l x 0) (sym d)

  some_wide : (i : ℕ) → i < 64 * w → 0 < w
  some_wide i b = omega arith

  -- two of them, level by level
  each_same : (l m : List ℕ) → ((k j : ℕ) → k < 64 → j < w → get_or l (24 * k + f + j) 0 ≡ get_or m (24 * k + f + j) 0) → of_each w f l ≡ of_each w f m
  each_same l m same = ext_get_or 0 (of_each w f l) (of_each w f m) (each_long l ∙ sym (each_long m)) at
    where
      at : (i : ℕ) → i < length (of_each w f l) → get_or (of_each w f l) i 0 ≡ get_or (of_each w f m) i 0
      at i h =
          let b : i < 64 * w = subst (λ (x : ℕ). i < x) (each_long l) h in
          let p : 0 < w = some_wide i b in
          in_order l i b ∙ same (i / w) (i % w) ((div-lt_iff_lt-mul p).1 b) (mod-lt i p) ∙ sym (in_order m i b)

  -- numbers of a level laid beside those taken
  pub each_kept : (l : List ℕ) (k g : ℕ) (ys : List ℕ) → length l ≡ 1536 → k < 64 → g + length ys ≤ 24 → f + w ≤ 24 → (g + length ys ≤ f) ⊎ (f + w ≤ g) → of_each w f (overwrite l (24 * k + g) ys) ≡ of_each w f l
  each_kept l k g ys long h few wide apart = each_same (overwrite l (24 * k + g) ys) l at
    where
      at : (q j : ℕ) → q < 64 → j < w → get_or (overwrite l (24 * k + g) ys) (24 * q + f + j) 0 ≡ get_or l (24 * q + f + j) 0
      at q j b c = get_d_beside l (24 * k + g) ys (24 * q + f + j) (omega arith) (side (le_or_lt k q) (le_or_lt q k))
        where
          side : (k ≤ q) ⊎ (q < k) → (q ≤ k) ⊎ (k < q) → (24 * q + f + j < 24 * k + g) ⊎ (24 * k + g + length ys ≤ 24 * q + f + j)
          side (inr p) r = inl (omega arith)
          side (inl p) (inr r) = inr (omega arith)
          side (inl p) (inl r) = ⊎_elim (λ s. inr (omega arith)) (λ s. inl (omega arith)) apart

  -- and among them, from the first on
  pub each_laid : (l : List ℕ) (k : ℕ) (ys : List ℕ) → length l ≡ 1536 → k < 64 → length ys ≤ w → f + w ≤ 24 → of_each w f (overwrite l (24 * k + f) ys) ≡ overwrite (of_each w f l) (w * k) ys
  each_laid l k ys long h few wide = ext_get_or 0 (of_each w f m) (overwrite (of_each w f l) (w * k) ys) (each_long m ∙ sym (length_over (of_each w f l) (w * k) ys fits ∙ each_long l)) at
    where
      m : List ℕ
      m = overwrite l (24 * k + f) ys

      room : w * k + w ≤ 64 * w
      room = subst (λ (x : ℕ). w * k + w ≤ x) (mul_comm w 64) (next_row w k 64 h)

      fits : w * k + length ys ≤ length (of_each w f l)
      fits = omega (arith, room, each_long l)

      -- the number of a level, where the part is not
      off : (q r : ℕ) → q < 64 → r < w → (24 * q + f + r < 24 * k + f) ⊎ (24 * k + f + length ys ≤ 24 * q + f + r) → (w * q + r < w * k) ⊎ (w * k + length ys ≤ w * q + r)
          → get_or m (24 * q + f + r) 0 ≡ get_or (overwrite (of_each w f l) (w * k) ys) (w * q + r) 0
      off q r a b c d =
          get_d_beside l (24 * k + f) ys (24 * q + f + r) (omega arith) c
          ∙ sym (each_at l q r a b)
          ∙ sym (get_d_beside (of_each w f l) (w * k) ys (w * q + r) fits d)

      here : (q r : ℕ) → q < 64 → r < w → q ≡ k → get_or m (24 * q + f + r) 0 ≡ get_or (overwrite (of_each w f l) (w * k) ys) (w * q + r) 0
      here q r a b e =
          ⊎_elim (λ c. off q r a b (inr (omega arith)) (inr (subst (λ (x : ℕ). w * k + length ys ≤ w * x + r) (sym e) (omega arith))))
          (λ c.
          ap (λ (x : ℕ). get_or m (24 * x + f + r) 0) e
          ∙ get_d_over_in l (24 * k + f) ys r 0 c (omega arith)
          ∙ sym (get_d_over_in (of_each w f l) (w * k) ys r 0 c (omega (arith, fits)))
          ∙ ap (λ (x : ℕ). get_or (overwrite (of_each w f l) (w * k) ys) (w * x + r) 0) (sym e))
          (le_or_lt (length ys) r)

      row : (q r : ℕ) → q < 64 → r < w → (k ≤ q) ⊎ (q < k) → (q ≤ k) ⊎ (k < q) → get_or m (24 * q + f + r) 0 ≡ get_or (overwrite (of_each w f l) (w * k) ys) (w * q + r) 0
      row q r a b (inr c) d = off q r a b (inl (omega arith)) (inl (row_below w q k r c b))
      row q r a b (inl c) (inr d) = off q r a b (inr (omega arith)) (inr (omega (arith, next_row w k q d)))
      row q r a b (inl c) (inl d) = here q r a b (omega arith)

      at : (i : ℕ) → i < length (of_each w f m) → get_or (of_each w f m) i 0 ≡ get_or (overwrite (of_each w f l) (w * k) ys) i 0
      at i b =
          let c : i < 64 * w = subst (λ (x : ℕ). i < x) (each_long m) b in
          let p : 0 < w = some_wide i c in
          in_order m i c
          ∙ row (i / w) (i % w) ((div-lt_iff_lt-mul p).1 c) (mod-lt i p) (le_or_lt k (i / w)) (le_or_lt (i / w) k)
          ∙ ap (λ (x : ℕ). get_or (overwrite (of_each w f l) (w * k) ys) x 0) (div-add-mod i w)

-- a level's name, by its numbers
pub name_of : (l : List ℕ) (k a b : ℕ) → k < 64 → a ≡ get_or l (24 * k + 0) 0 → b ≡ get_or l (24 * k + 1) 0 → span a b ≡ name_in (level_names l) k
unfolding name_in
name_of l k a b h e d =
    ap₂ span (e ∙ sym (each_is 3 0 l k 0 (3 * k) (24 * k + 0) h (omega arith) (omega arith) (omega arith)))
    (d ∙ sym (each_is 3 0 l k 1 (3 * k + 1) (24 * k + 1) h (omega arith) (omega arith) (omega arith)))

-- a level's first n strands stand in a row
pub strand_part : (l : List ℕ) (k n : ℕ) → length l ≡ 1536 → k < 64 → n ≤ 16 → take n (drop (24 * k + 8) l) ≡ words_at (level_strands l) k n
strand_part l k n long h few = ext_get_or 0 (take n (drop (24 * k + 8) l)) (words_at (level_strands l) k n) (s ∙ sym t) at
  where
    s : length (take n (drop (24 * k + 8) l)) ≡ n
    s = length-take-le n (drop (24 * k + 8) l) (omega (arith, length-drop (24 * k + 8) l))

    t : length (words_at (level_strands l) k n) ≡ n
    t = length_tabulate (λ (i : ℕ). get_or (level_strands l) i 0) (16 * k) n

    at : (j : ℕ) → j < length (take n (drop (24 * k + 8) l)) → get_or (take n (drop (24 * k + 8) l)) j 0 ≡ get_or (words_at (level_strands l) k n) j 0
    at j b =
        let c : j < n = omega (arith, s) in
        get_or-take n (drop (24 * k + 8) l) j 0 c
        ∙ get_or-drop (24 * k + 8) l j 0
        ∙ sym (get_d_tabulate (λ (i : ℕ). get_or (level_strands l) i 0) (16 * k) n j 0 c ∙ each_is 16 8 l k j (16 * k + j) (24 * k + 8 + j) h (omega arith) (omega arith) (omega arith))
