-- `same_list`, and what it says of two lists.
--     unequal, same_pairs               lists of two lengths; and what `==` answers
--     same_refl, same_eq, same_sym      it is equality
use Prim.Native.Nat.{ℕ, suc}
use mathlib.Core.Path.{◌≡◌, refl, sym, ap, ◌∙◌}
use mathlib.Core.List.{List, [], ◌∷◌}
use mathlib.Core.Bool.{Bool, true, false, ◌&&◌, and-false}
use native.Mathlib.Omega.{arith}
use borrow.Author.Tests.{eq-eqb, eqb-true}
use lib.ListN.{length}
use lib.Dec.{eqb}
use lib.Pointwise.{pointwise}
use Rattle.laws.specs.Lists.{same_list}

-- lists of two lengths differ
pub unequal : (x y : List ℕ) → (length x ≡ length y → ⊥) → false ≡ same_list x y
unfolding same_list
unequal [] [] n = absurd (n refl)
unequal [] (y ∷ t) n = refl
unequal (x ∷ s) [] n = refl
unequal (x ∷ s) (y ∷ t) n = simp (← unequal s t (λ e. n (ap suc e)), and-false)

-- what `==` answers of two slices
pub same_pairs : (x y : List ℕ) → pointwise eqb x y ≡ same_list x y
unfolding same_list
same_pairs [] [] = refl
same_pairs [] (y ∷ t) = refl
same_pairs (x ∷ s) [] = refl
same_pairs (x ∷ s) (y ∷ t) = ap (λ (b : Bool). eqb x y && b) (same_pairs s t)

pub same_refl : (x : List ℕ) → same_list x x ≡ true
unfolding same_list
same_refl [] = refl
same_refl (x ∷ s) = simp (eq-eqb x x refl, same_refl s)

pub same_eq : (x y : List ℕ) → same_list x y ≡ true → x ≡ y
unfolding same_list
same_eq [] [] e = refl
same_eq [] (y ∷ t) e = absurd (let z : ◌≡◌ {A = ℕ} 0 1 = cc in omega arith)
same_eq (x ∷ s) [] e = absurd (let z : ◌≡◌ {A = ℕ} 0 1 = cc in omega arith)
same_eq (x ∷ s) (y ∷ t) e = cons (eqb x y) refl e (same_eq s t)
  where
    cons : (q : Bool) → q ≡ eqb x y → (q && same_list s t) ≡ true → (same_list s t ≡ true → s ≡ t) → x ∷ s ≡ y ∷ t
    cons true p h ih = let a : x ≡ y = eqb-true x y (sym p) in let b : s ≡ t = ih h in cc
    cons false p h ih = absurd (let z : ◌≡◌ {A = ℕ} 0 1 = cc in omega arith)

pub same_sym : (x y : List ℕ) → same_list x y ≡ same_list y x
same_sym x y = go (same_list x y) (same_list y x) refl refl
  where
    go : (p q : Bool) → p ≡ same_list x y → q ≡ same_list y x → same_list x y ≡ same_list y x
    go true q e f = let h : x ≡ y = same_eq x y (sym e) in simp h
    go false true e f = let h : y ≡ x = same_eq y x (sym f) in simp h
    go false false e f = sym e ∙ f
