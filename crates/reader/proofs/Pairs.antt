-- `any` and `any_pair` of two tests joined, and of those elements of a list that are kept.
use mathlib.Core.Path.{◌≡◌, refl, sym, ap, ◌∙◌}
use mathlib.Core.List.{List, [], ◌∷◌, ◌++◌}
use mathlib.Core.Bool.{Bool, true, false, cond, not, ◌&&◌, ◌||◌}
use Rattle.laws.specs.Lists.{any, any_pair}
use Rattle.laws.specs.Gather.{gather}

swap : (a b c d : Bool) → (a || b || (c || d)) ≡ (a || c || (b || d))
swap true b c d = refl
swap false true true d = refl
swap false true false d = refl
swap false false true d = refl
swap false false false d = refl

module _ {A : Type 0} where
  any_or : (p q : A → Bool) (l : List A) → any (λ (x : A). p x || q x) l ≡ (any p l || any q l)
  unfolding any
  any_or p q [] = refl
  any_or p q (x ∷ l) = ap (λ (t : Bool). p x || q x || t) (any_or p q l) ∙ swap (p x) (q x) (any p l) (any q l)

  pub pair_or : (p q : A → A → Bool) (l : List A) → any_pair (λ (x y : A). p x y || q x y) l ≡ (any_pair p l || any_pair q l)
  unfolding any_pair
  pair_or p q [] = refl
  pair_or p q (x ∷ l) =
      ap (λ (t : Bool). t || any_pair (λ (y z : A). p y z || q y z) l) (any_or (p x) (q x) l)
      ∙ ap (λ (t : Bool). any (p x) l || any (q x) l || t) (pair_or p q l)
      ∙ swap (any (p x) l) (any (q x) l) (any_pair p l) (any_pair q l)

  any_false : (l : List A) → any (λ (x : A). false) l ≡ false
  unfolding any
  any_false [] = refl
  any_false (x ∷ l) = any_false l

-- those that d leaves, as g makes them
module _ {A B : Type 0} (d : A → Bool) (g : A → B) where
  abbrev pub kept_of : A → List B
  kept_of x = cond (d x) [] (g x ∷ [])

  any_kept : (q : B → Bool) (l : List A) → any q (gather kept_of l) ≡ any (λ (x : A). not (d x) && q (g x)) l
  unfolding any gather
  any_kept q [] = refl
  any_kept q (x ∷ l) = cases (d x) (any_kept q l)
    where
      cases : (t : Bool) → any q (gather kept_of l) ≡ any (λ (y : A). not (d y) && q (g y)) l
          → any q (cond t [] (g x ∷ []) ++ gather kept_of l) ≡ (not t && q (g x) || any (λ (y : A). not (d y) && q (g y)) l)
      cases true h = h
      cases false h = ap (λ (t : Bool). q (g x) || t) h

  pub pair_kept : (q : B → B → Bool) (l : List A) → any_pair q (gather kept_of l) ≡ any_pair (λ (x y : A). not (d x) && (not (d y) && q (g x) (g y))) l
  unfolding any_pair gather
  pair_kept q [] = refl
  pair_kept q (x ∷ l) = cases (d x) (any_kept (q (g x)) l) (pair_kept q l)
    where
      rest : List A → Bool
      rest m = any_pair (λ (y z : A). not (d y) && (not (d z) && q (g y) (g z))) m

      cases : (t : Bool) → any (q (g x)) (gather kept_of l) ≡ any (λ (y : A). not (d y) && q (g x) (g y)) l → any_pair q (gather kept_of l) ≡ rest l
          → any_pair q (cond t [] (g x ∷ []) ++ gather kept_of l) ≡ (any (λ (y : A). not t && (not (d y) && q (g x) (g y))) l || rest l)
      cases true h k = k ∙ ap (λ (t : Bool). t || rest l) (sym (any_false l))
      cases false h k = ap (λ (t : Bool). t || any_pair q (gather kept_of l)) h ∙ ap (λ (t : Bool). any (λ (y : A). not (d y) && q (g x) (g y)) l || t) k
