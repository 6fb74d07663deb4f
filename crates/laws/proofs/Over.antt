-- Laws of `overwrite`, which is shut: a proof goes by these alone. Assumes nothing.
use mathlib.Core.Path.{◌≡◌, sym, ap, ◌∙◌}
use mathlib.Core.List.{List, [], ◌∷◌, ◌++◌, append_assoc, append-nil}
use Prim.Native.Nat.{ℕ, suc, ◌+◌, ◌-◌, ◌≤◌, ◌<◌}
use native.Mathlib.Nat.{zero-add, add-zero, add_assoc}
use native.Mathlib.Numerals.{add-one}
use native.Mathlib.Omega.{arith}
use lib.ListN.{length, get_or, set, take, drop, length-append, take-append-drop, length-drop, get_or-append, drop_of_length-le}
use lib.Seq.{length-take-le, take_at, drop_at, set_at, drop-cons, drop-drop, drop-append-add, append_snoc, take-suc, get_or-take, get_or-append-add, get_or-drop, take-add, take_all}
use Rattle.laws.specs.Over.{overwrite}

module _ {ℓ} {A : Type ℓ} where
  -- what stands before the end of the part that is replaced
  head_length : (xs : List A) (i : ℕ) (ys : List A) → i ≤ length xs → length (take i xs ++ ys) ≡ i + length ys
  head_length xs i ys h = length-append (take i xs) ys ∙ ap (λ (k : ℕ). k + length ys) (length-take-le i xs h)

  pub over_none : (xs : List A) (i : ℕ) → overwrite xs i [] ≡ xs
  unfolding overwrite
  over_none xs i = ap (λ (k : ℕ). take i xs ++ [] ++ drop k xs) (add-zero i) ∙ ap (λ (r : List A). r ++ drop i xs) (append-nil (take i xs)) ∙ take-append-drop i xs

  -- a list as long as the one that it is laid over
  pub over_all : (xs ys : List A) → length xs ≤ length ys → overwrite xs 0 ys ≡ ys
  unfolding overwrite
  over_all xs ys h = rw (zero-add (length ys), drop_of_length-le xs h) (append-nil ys)

  pub length_over : (xs : List A) (i : ℕ) (ys : List A) → i + length ys ≤ length xs → length (overwrite xs i ys) ≡ length xs
  unfolding overwrite
  length_over xs i ys h =
      let a : i ≤ length xs = omega arith in
      length-append (take i xs ++ ys) (drop (i + length ys) xs)
      ∙ omega (arith, head_length xs i ys a, length-drop (i + length ys) xs)

  -- a store right behind the part makes it one longer
  pub over_set : (xs : List A) (i : ℕ) (ys : List A) (v : A) → i + length ys < length xs
      → set (overwrite xs i ys) (i + length ys) v ≡ overwrite xs i (ys ++ (v ∷ []))
  unfolding overwrite
  over_set xs i ys v h =
      let a : i ≤ length xs = omega arith in
      let n : ℕ = i + length ys in
      let p : List A = take i xs ++ ys in
      let e : i + length (ys ++ (v ∷ [])) ≡ suc n = omega (arith, length-append ys (v ∷ [])) in
      ap (λ (r : List A). set (p ++ r) n v) (drop-cons xs n v h)
      ∙ set_at p (get_or xs n v) (drop (suc n) xs) v n (head_length xs i ys a)
      ∙ sym (append_snoc p v (drop (suc n) xs))
      ∙ ap (λ (r : List A). r ++ drop (suc n) xs) (append_assoc (take i xs) ys (v ∷ []))
      ∙ ap (λ (k : ℕ). take i xs ++ (ys ++ (v ∷ [])) ++ drop k xs) (sym e)

  -- a second part right behind the first
  pub over_over : (xs : List A) (i : ℕ) (ys zs : List A) → i ≤ length xs
      → overwrite (overwrite xs i ys) (i + length ys) zs ≡ overwrite xs i (ys ++ zs)
  unfolding overwrite
  over_over xs i ys zs a =
      let n : ℕ = i + length ys in
      let p : List A = take i xs ++ ys in
      let q : List A = drop n xs in
      let lp : length p ≡ n = head_length xs i ys a in
      let e : n + length zs ≡ i + length (ys ++ zs) = omega (arith, length-append ys zs) in
      ap (λ (r : List A). r ++ zs ++ drop (n + length zs) (p ++ q)) (take_at p q n lp)
      ∙ ap (λ (r : List A). p ++ zs ++ r)
      (ap (λ (k : ℕ). drop (k + length zs) (p ++ q)) (sym lp) ∙ drop-append-add p q (length zs) ∙ drop-drop (length zs) n xs)
      ∙ ap (λ (k : ℕ). p ++ zs ++ drop k xs) e
      ∙ ap (λ (r : List A). r ++ drop (i + length (ys ++ zs)) xs) (append_assoc (take i xs) ys zs)

  -- one store is a part of one
  pub set_over : (xs : List A) (i : ℕ) (v : A) → i < length xs → set xs i v ≡ overwrite xs i (v ∷ [])
  set_over xs i v h =
      ap (λ (r : List A). set r i v) (sym (over_none xs i))
      ∙ ap (λ (k : ℕ). set (overwrite xs i []) k v) (sym (add-zero i))
      ∙ over_set xs i [] v (omega arith)

  -- four stores
  pub four_set : (xs : List A) (i : ℕ) (a b c d : A) → i + 4 ≤ length xs
      → set (set (set (set xs i a) (i + 1) b) (i + 2) c) (i + 3) d ≡ overwrite xs i (a ∷ b ∷ c ∷ d ∷ [])
  four_set xs i a b c d h =
      ap (λ (r : List A). set (set (set r (i + 1) b) (i + 2) c) (i + 3) d) (set_over xs i a (omega arith))
      ∙ ap (λ (r : List A). set (set r (i + 2) c) (i + 3) d) (over_set xs i (a ∷ []) b (omega arith))
      ∙ ap (λ (r : List A). set r (i + 3) d) (over_set xs i (a ∷ b ∷ []) c (omega arith))
      ∙ over_set xs i (a ∷ b ∷ c ∷ []) d (omega arith)

  -- a turn of a loop that copies s over xs from i on
  pub over_copy : (xs : List A) (i : ℕ) (s : List A) (j : ℕ) (d : A) → j < length s → i + j < length xs
      → set (overwrite xs i (take j s)) (i + j) (get_or s j d) ≡ overwrite xs i (take (j + 1) s)
  over_copy xs i s j d hs hx =
      let l : length (take j s) ≡ j = length-take-le j s (omega arith) in
      ap (λ (k : ℕ). set (overwrite xs i (take j s)) (i + k) (get_or s j d)) (sym l)
      ∙ over_set xs i (take j s) (get_or s j d) (omega arith)
      ∙ ap (overwrite xs i) (sym (take-suc s j d hs))
      ∙ ap (λ (k : ℕ). overwrite xs i (take k s)) (sym (add-one j))

  pub take_over : (xs : List A) (i : ℕ) (ys : List A) → i ≤ length xs → take (i + length ys) (overwrite xs i ys) ≡ take i xs ++ ys
  unfolding overwrite
  take_over xs i ys a = take_at (take i xs ++ ys) (drop (i + length ys) xs) (i + length ys) (head_length xs i ys a)

  pub drop_over : (xs : List A) (i : ℕ) (ys : List A) → i ≤ length xs → drop (i + length ys) (overwrite xs i ys) ≡ drop (i + length ys) xs
  unfolding overwrite
  drop_over xs i ys a = drop_at (take i xs ++ ys) (drop (i + length ys) xs) (i + length ys) (head_length xs i ys a)

  -- bytes copied over a part as long as they are: the borrow checker's `put_mid`
  pub part_over : (xs : List A) (i k : ℕ) (ys : List A) → length ys ≡ k → take i xs ++ (ys ++ drop k (drop i xs)) ≡ overwrite xs i ys
  unfolding overwrite
  part_over xs i k ys h = rw (sym h, drop-drop) (sym (append_assoc (take i xs) ys (drop (i + length ys) xs)))

  -- what lies before the part is as it was
  pub get_d_over_before : (xs : List A) (i : ℕ) (ys : List A) (k : ℕ) (d : A) → k < i → i ≤ length xs → get_or (overwrite xs i ys) k d ≡ get_or xs k d
  unfolding overwrite
  get_d_over_before xs i ys k d h a =
      let lt : length (take i xs) ≡ i = length-take-le i xs a in
      get_or-append (take i xs ++ ys) (drop (i + length ys) xs) d k (omega (arith, head_length xs i ys a))
      ∙ get_or-append (take i xs) ys d k (omega arith)
      ∙ get_or-take i xs k d h

  pub get_d_over_in : (xs : List A) (i : ℕ) (ys : List A) (k : ℕ) (d : A) → k < length ys → i ≤ length xs → get_or (overwrite xs i ys) (i + k) d ≡ get_or ys k d
  unfolding overwrite
  get_d_over_in xs i ys k d h a =
      let lt : length (take i xs) ≡ i = length-take-le i xs a in
      get_or-append (take i xs ++ ys) (drop (i + length ys) xs) d (i + k) (omega (arith, head_length xs i ys a))
      ∙ ap (λ (n : ℕ). get_or (take i xs ++ ys) (n + k) d) (sym lt)
      ∙ get_or-append-add (take i xs) ys k d

  pub get_d_over_after : (xs : List A) (i : ℕ) (ys : List A) (k : ℕ) (d : A) → i ≤ length xs → get_or (overwrite xs i ys) (i + length ys + k) d ≡ get_or xs (i + length ys + k) d
  unfolding overwrite
  get_d_over_after xs i ys k d a =
      ap (λ (n : ℕ). get_or (take i xs ++ ys ++ drop (i + length ys) xs) (n + k) d) (sym (head_length xs i ys a))
      ∙ get_or-append-add (take i xs ++ ys) (drop (i + length ys) xs) k d
      ∙ get_or-drop (i + length ys) xs k d

  -- `&mut s[a..]` is lent, written from i on, and comes back: what was done to the part, said of the whole
  pub over_part : (xs : List A) (a i : ℕ) (ys : List A) → a ≤ length xs → take a xs ++ overwrite (drop a xs) i ys ≡ overwrite xs (a + i) ys
  unfolding overwrite
  over_part xs a i ys h =
      sym (append_assoc (take a xs) (take i (drop a xs) ++ ys) (drop (i + length ys) (drop a xs)))
      ∙ ap (λ (r : List A). r ++ drop (i + length ys) (drop a xs)) (sym (append_assoc (take a xs) (take i (drop a xs)) ys))
      ∙ ap (λ (r : List A). r ++ ys ++ drop (i + length ys) (drop a xs)) (sym (take-add a i xs))
      ∙ ap (λ (r : List A). take (a + i) xs ++ ys ++ r) (drop-drop (i + length ys) a xs ∙ ap (λ (k : ℕ). drop k xs) (sym (add_assoc a i (length ys))))

  -- what `&mut s[a..]` lends: the borrow checker's `take (length xs - a) (drop a xs)` is all that is left
  pub part_whole_lem : (xs : List A) (a : ℕ) → take (length xs - a) (drop a xs) ≡ drop a xs
  part_whole_lem xs a = take_all (length xs - a) (drop a xs) (omega (arith, length-drop a xs))

  -- and when it is back at ys: nothing comes after it
  pub part_back : (xs : List A) (a : ℕ) (ys : List A) → take a xs ++ (ys ++ drop (length xs - a) (drop a xs)) ≡ take a xs ++ ys
  part_back xs a ys =
      ap (λ (r : List A). take a xs ++ (ys ++ r)) (drop_of_length-le (drop a xs) {i = length xs - a} (omega (arith, length-drop a xs)))
      ∙ ap (λ (r : List A). take a xs ++ r) (append-nil ys)
