-- Lists: what each element gives, joined; a property of every element; no element twice; one element apart; numbers that count. Nothing here knows of sections.
use mathlib.Core.Path.{◌≡◌, refl, sym, ap, ap₂, subst, ◌∙◌}
use mathlib.Core.List.{List, [], ◌∷◌, ◌++◌, map, map-append, append-nil}
use mathlib.Core.Logic.{◌⊎◌, inl, inr}
use Prim.Native.Nat.{ℕ, suc, ◌≤◌, ◌<◌}
use native.Mathlib.Omega.{arith}
use lib.ListN.{length}
use Rattle.laws.specs.Lists.{tabulate}
use Rattle.laws.specs.Gather.{gather}
pub use Rattle.laws.specs.Members.{In, All}
use Rattle.laws.proofs.Gather.{gather_append}
use Rattle.laws.proofs.Members.{all_at, all_by}

module _ {A B : Type 0} where
  pub gather_same : (f g : A → List B) → ((x : A) → f x ≡ g x) → (xs : List A) → gather f xs ≡ gather g xs
  unfolding gather
  gather_same f g h [] = refl
  gather_same f g h (x ∷ xs) = rw (h x, gather_same f g h xs)

  pub gather_nothing : (f : A → List B) → ((x : A) → f x ≡ []) → (xs : List A) → gather f xs ≡ []
  unfolding gather
  gather_nothing f h [] = refl
  gather_nothing f h (x ∷ xs) = rw (h x, gather_nothing f h xs)

  pub gather_same_on : (f g : A → List B) (xs : List A) → All (λ x. f x ≡ g x) xs → gather f xs ≡ gather g xs
  unfolding gather
  gather_same_on f g [] h = refl
  gather_same_on f g (x ∷ xs) h = rw (h.0, gather_same_on f g xs h.1)

  pub gather_nothing_on : (f : A → List B) (xs : List A) → All (λ x. f x ≡ []) xs → gather f xs ≡ []
  unfolding gather
  gather_nothing_on f [] h = refl
  gather_nothing_on f (x ∷ xs) h = rw (h.0, gather_nothing_on f xs h.1)

module _ {A B C : Type 0} where
  pub map_gather : (g : B → C) (f : A → List B) (xs : List A) → map g (gather f xs) ≡ gather (λ x. map g (f x)) xs
  unfolding gather
  map_gather g f [] = refl
  map_gather g f (x ∷ xs) = rw (map-append g (f x) (gather f xs), map_gather g f xs)

  pub gather_gather : (g : B → List C) (f : A → List B) (xs : List A) → gather g (gather f xs) ≡ gather (λ x. gather g (f x)) xs
  unfolding gather
  gather_gather g f [] = refl
  gather_gather g f (x ∷ xs) = gather_append g (f x) (gather f xs) ∙ rw (gather_gather g f xs)

  pub gather_map : (g : B → List C) (f : A → B) (xs : List A) → gather g (map f xs) ≡ gather (λ x. g (f x)) xs
  unfolding gather
  gather_map g f [] = refl
  gather_map g f (x ∷ xs) = rw (gather_map g f xs)

module _ {A : Type 0} where
  -- No element stands twice.
  abbrev pub Distinct : List A → Type 0
  Distinct [] = Unit {0}
  Distinct (x ∷ xs) = All (λ y. ¬ (x ≡ y)) xs × Distinct xs

  pub all_append : (P : A → Type 0) (xs ys : List A) → All P xs → All P ys → All P (xs ++ ys)
  all_append P [] ys h k = k
  all_append P (x ∷ xs) ys h k = (h.0, all_append P xs ys h.1 k)

  pub all_weaken : (P Q : A → Type 0) → ((x : A) → P x → Q x) → (xs : List A) → All P xs → All Q xs
  all_weaken P Q f [] h = tt
  all_weaken P Q f (x ∷ xs) h = (f x h.0, all_weaken P Q f xs h.1)

  pub all_left : (P : A → Type 0) (xs ys : List A) → All P (xs ++ ys) → All P xs
  all_left P [] ys h = tt
  all_left P (x ∷ xs) ys h = (h.0, all_left P xs ys h.1)

  pub all_right : (P : A → Type 0) (xs ys : List A) → All P (xs ++ ys) → All P ys
  all_right P [] ys h = h
  all_right P (x ∷ xs) ys h = all_right P xs ys h.1

  pub all_both : (P Q : A → Type 0) (xs : List A) → All P xs → All Q xs → All (λ x. P x × Q x) xs
  all_both P Q [] h g = tt
  all_both P Q (x ∷ xs) h g = ((h.0, g.0), all_both P Q xs h.1 g.1)

  pub every : {P : A → Type 0} → ((x : A) → P x) → (xs : List A) → All P xs
  every f [] = tt
  every f (x ∷ xs) = (f x, every f xs)

  -- Two distinct lists that a property tells apart.
  pub distinct_append : (P : A → Type 0) (xs ys : List A) → All P xs → All (λ y. ¬ P y) ys → Distinct xs → Distinct ys → Distinct (xs ++ ys)
  distinct_append P [] ys h k dx dy = dy
  distinct_append P (x ∷ xs) ys h k dx dy = (
    all_append (λ y. ¬ (x ≡ y)) xs ys dx.0 (all_weaken (λ y. ¬ P y) (λ y. ¬ (x ≡ y)) (λ y n e. n (rw e at h.0)) ys k),
    distinct_append P xs ys h.1 k dx.1 dy,
  )

  pub distinct_left : (xs ys : List A) → Distinct (xs ++ ys) → Distinct xs
  distinct_left [] ys d = tt
  distinct_left (x ∷ xs) ys d = (all_left (λ y. ¬ (x ≡ y)) xs ys d.0, distinct_left xs ys d.1)

  pub distinct_right : (xs ys : List A) → Distinct (xs ++ ys) → Distinct ys
  distinct_right [] ys d = d
  distinct_right (x ∷ xs) ys d = distinct_right xs ys d.1

  pub distinct_across : (xs ys : List A) → Distinct (xs ++ ys) → All (λ x. All (λ y. ¬ (x ≡ y)) ys) xs
  distinct_across [] ys d = tt
  distinct_across (x ∷ xs) ys d = (all_right (λ y. ¬ (x ≡ y)) xs ys d.0, distinct_across xs ys d.1)

module _ {A C : Type 0} where
  -- A relation between two lists, seen from the second.
  pub all_flip : (R : A → C → Type 0) (xs : List A) (ys : List C) → All (λ x. All (λ y. R x y) ys) xs → All (λ y. All (λ x. R x y) xs) ys
  all_flip R [] ys h = every (λ y. tt) ys
  all_flip R (x ∷ xs) ys h = all_both (λ y. R x y) (λ y. All (λ z. R z y) xs) ys h.0 (all_flip R xs ys h.1)

  pub all_gather : (P : C → Type 0) (f : A → List C) (xs : List A) → All (λ x. All P (f x)) xs → All P (gather f xs)
  unfolding gather
  all_gather P f [] h = tt
  all_gather P f (x ∷ xs) h = all_append P (f x) (gather f xs) h.0 (all_gather P f xs h.1)

  pub all_map : (P : C → Type 0) (f : A → C) (xs : List A) → All (λ x. P (f x)) xs → All P (map f xs)
  all_map P f [] h = tt
  all_map P f (x ∷ xs) h = (h.0, all_map P f xs h.1)

  pub all_unmap : (P : C → Type 0) (f : A → C) (xs : List A) → All P (map f xs) → All (λ x. P (f x)) xs
  all_unmap P f [] h = tt
  all_unmap P f (x ∷ xs) h = (h.0, all_unmap P f xs h.1)

-- What gather of some differently tagged elements gives is distinct, if it bears its element's tag.
module _ {A C G : Type 0} where
  pub gather_distinct : (f : A → List C) (tag : A → G) (tag_of : C → G) → ((x : A) → All (λ c. tag_of c ≡ tag x) (f x)) → ((x : A) → Distinct (f x)) → (xs : List A) → Distinct (map tag xs) → Distinct (gather f xs)
  unfolding gather
  gather_distinct f tag tag_of bears one [] d = tt
  gather_distinct f tag tag_of bears one (x ∷ xs) d =
      distinct_append (λ c. tag_of c ≡ tag x) (f x) (gather f xs) (bears x)
      (all_gather (λ c. ¬ (tag_of c ≡ tag x)) f xs
      (all_weaken (λ y. ¬ (tag x ≡ tag y)) (λ y. All (λ c. ¬ (tag_of c ≡ tag x)) (f y))
      (λ y n. all_weaken (λ c. tag_of c ≡ tag y) (λ c. ¬ (tag_of c ≡ tag x)) (λ c e e'. n (sym e' ∙ e)) (f y) (bears y))
      xs (all_unmap (λ t. ¬ (tag x ≡ t)) tag xs d.0)))
      (one x) (gather_distinct f tag tag_of bears one xs d.1)

-- f j, f (j + 1), .., as many as a list has elements.
abbrev pub keys_from : {A K : Type 0} → (ℕ → K) → ℕ → List A → List K
keys_from f j [] = []
keys_from f j (x ∷ xs) = f j ∷ keys_from f (suc j) xs

module _ {A K : Type 0} (f : ℕ → K) where
  pub from_all : (P : K → Type 0) → ((j : ℕ) → P (f j)) → (j : ℕ) (xs : List A) → All P (keys_from f j xs)
  from_all P h j [] = tt
  from_all P h j (x ∷ xs) = (h j, from_all P h (suc j) xs)

  module _ (own : (m n : ℕ) → f m ≡ f n → m ≡ n) where
    from_later : (m j : ℕ) (xs : List A) → m < j → All (λ k. ¬ (f m ≡ k)) (keys_from f j xs)
    from_later m j [] h = tt
    from_later m j (x ∷ xs) h = (λ e. let z : m ≡ j = own m j e in omega arith, from_later m (suc j) xs (omega arith))

    pub from_distinct : (j : ℕ) (xs : List A) → Distinct (keys_from f j xs)
    from_distinct j [] = tt
    from_distinct j (x ∷ xs) = (from_later j (suc j) xs (omega arith), from_distinct (suc j) xs)

module _ {A : Type 0} where
  -- One element is of H and all others are of N; or all are of N, and Z.
  abbrev pub OneAt : (A → Type 0) → (A → Type 0) → Type 0 → List A → Type 0
  OneAt N H Z [] = Z
  OneAt N H Z (x ∷ xs) = (N x × OneAt N H Z xs) ⊎ (H x × All N xs)

  pub one_none : (N H : A → Type 0) (Z : Type 0) (xs : List A) → All N xs → Z → OneAt N H Z xs
  one_none N H Z [] h z = z
  one_none N H Z (x ∷ xs) h z = inl (h.0, one_none N H Z xs h.1 z)

  pub one_weaken : (N H K : A → Type 0) (Y Z : Type 0) → ((x : A) → H x → K x) → (Y → Z) → (xs : List A) → OneAt N H Y xs → OneAt N K Z xs
  one_weaken N H K Y Z f g [] o = g o
  one_weaken N H K Y Z f g (x ∷ xs) (inl o) = inl (o.0, one_weaken N H K Y Z f g xs o.1)
  one_weaken N H K Y Z f g (x ∷ xs) (inr o) = inr (f x o.0, o.1)

  one_left : (N H : A → Type 0) (Z : Type 0) (xs ys : List A) → OneAt N H Z xs → All N ys → OneAt N H Z (xs ++ ys)
  one_left N H Z [] ys o h = one_none N H Z ys h o
  one_left N H Z (x ∷ xs) ys (inl o) h = inl (o.0, one_left N H Z xs ys o.1 h)
  one_left N H Z (x ∷ xs) ys (inr o) h = inr (o.0, all_append N xs ys o.1 h)

  one_right : (N H : A → Type 0) (Z : Type 0) (xs ys : List A) → All N xs → OneAt N H Z ys → OneAt N H Z (xs ++ ys)
  one_right N H Z [] ys h o = o
  one_right N H Z (x ∷ xs) ys h o = inl (h.0, one_right N H Z xs ys h.1 o)

module _ {A C : Type 0} where
  pub one_gather : (N H : A → Type 0) (Z : Type 0) (M K : C → Type 0) (Y : Type 0) (f : A → List C) → ((x : A) → N x → All M (f x)) → ((x : A) → H x → OneAt M K Y (f x)) → (Z → Y) → (xs : List A) → OneAt N H Z xs → OneAt M K Y (gather f xs)
  unfolding gather
  one_gather N H Z M K Y f n h z [] o = z o
  one_gather N H Z M K Y f n h z (x ∷ xs) (inl o) = one_right M K Y (f x) (gather f xs) (n x o.0) (one_gather N H Z M K Y f n h z xs o.1)
  one_gather N H Z M K Y f n h z (x ∷ xs) (inr o) = one_left M K Y (f x) (gather f xs) (h x o.0) (all_gather M f xs (all_weaken N (λ y. All M (f y)) n xs o.1))

  -- What is gathered where only that one gives anything.
  pub one_gathers : (N H : A → Type 0) (Z : Type 0) (f : A → List C) (v : List C) → ((x : A) → N x → f x ≡ []) → ((x : A) → H x → f x ≡ v) → (Z → v ≡ []) → (xs : List A) → OneAt N H Z xs → gather f xs ≡ v
  unfolding gather
  one_gathers N H Z f v n h z [] o = sym (z o)
  one_gathers N H Z f v n h z (x ∷ xs) (inl o) = rw (n x o.0) (one_gathers N H Z f v n h z xs o.1)
  one_gathers N H Z f v n h z (x ∷ xs) (inr o) = ap₂ (λ a b. a ++ b) (h x o.0) (gather_nothing_on f xs (all_weaken N (λ y. f y ≡ []) n xs o.1)) ∙ append-nil v

  -- One of some differently tagged elements.
  pub one_tagged : (tag : A → C) (N H : A → Type 0) (Z : Type 0) (x : A) (xs : List A) → Distinct (map tag xs) → In x xs → ((y : A) → In y xs → ¬ (tag x ≡ tag y) → N y) → ((y : A) → x ≡ y → H y) → OneAt N H Z xs
  one_tagged tag N H Z x [] d m n h = absurd m
  one_tagged tag N H Z x (y ∷ ys) d (inl p) n h =
      inr (h y p, all_by N ys (λ z q. n z (inr q) (λ r. all_at (λ w. ¬ (tag y ≡ tag w)) ys (all_unmap (λ t. ¬ (tag y ≡ t)) tag ys d.0) z q (ap tag (sym p) ∙ r))))
  one_tagged tag N H Z x (y ∷ ys) d (inr m) n h =
      inl (n y (inl refl) (λ r. all_at (λ w. ¬ (tag y ≡ tag w)) ys (all_unmap (λ t. ¬ (tag y ≡ t)) tag ys d.0) x m (sym r)), one_tagged tag N H Z x ys d.1 m (λ z q. n z (inr q)) h)

module _ {A C : Type 0} where
  pub in_map : (f : A → C) (x : A) (xs : List A) → In x xs → In (f x) (map f xs)
  in_map f x [] m = absurd m
  in_map f x (y ∷ ys) (inl p) = inl (ap f p)
  in_map f x (y ∷ ys) (inr m) = inr (in_map f x ys m)

  pub map_same_on : (f g : A → C) (xs : List A) → All (λ x. f x ≡ g x) xs → map f xs ≡ map g xs
  map_same_on f g [] h = refl
  map_same_on f g (x ∷ xs) h = rw (h.0, map_same_on f g xs h.1)

module _ {A : Type 0} (f : A → ℕ) where
  -- The elements have the numbers i, i + 1, .., before n.
  abbrev pub Consecutive : ℕ → ℕ → List A → Type 0
  Consecutive i n [] = i ≡ n
  Consecutive i n (x ∷ xs) = (f x ≡ i) × Consecutive (suc i) n xs

  pub consecutive_append : (i m n : ℕ) (xs ys : List A) → Consecutive i m xs → Consecutive m n ys → Consecutive i n (xs ++ ys)
  consecutive_append i m n [] ys c d = subst (λ k. Consecutive k n ys) (sym c) d
  consecutive_append i m n (x ∷ xs) ys c d = (c.0, consecutive_append (suc i) m n xs ys c.1 d)

  pub consecutive_from : (i n : ℕ) (xs : List A) → Consecutive i n xs → All (λ x. i ≤ f x) xs
  consecutive_from i n [] c = tt
  consecutive_from i n (x ∷ xs) c = (omega (arith, c.0), all_weaken (λ y. suc i ≤ f y) (λ y. i ≤ f y) (λ y h. omega arith) xs (consecutive_from (suc i) n xs c.1))

  pub consecutive_tabulate : {C : Type 0} (g : ℕ → C) (i n : ℕ) (xs : List A) → Consecutive i n xs → map (λ x. g (f x)) xs ≡ tabulate g i (length xs)
  unfolding tabulate
  consecutive_tabulate g i n [] c = refl
  consecutive_tabulate g i n (x ∷ xs) c = rw (c.0, consecutive_tabulate g (suc i) n xs c.1)
