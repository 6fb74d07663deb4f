-- More on answers that stay when more bytes come: C says of which answers that is not asked; and what was read before the place of a stop.
--     kept_open, kept_bind     from `Stable`, and where an answer is taken apart
--     stable_inside            `stable_peek` that tells that the byte is there
--     cut_short                the bytes before the place that an answer names do not settle it
use Prim.Native.Nat.{ℕ, ◌≤◌, ◌<◌}
use mathlib.Core.Path.{◌≡◌, sym, ap, subst, ◌∙◌}
use mathlib.Core.List.{List, ◌++◌}
use mathlib.Core.Logic.{◌⊎◌, ⊎_elim}
use native.Mathlib.Omega.{arith}
use borrow.Author.Tests.{le-ltb}
use lib.ListN.{length, take, drop, length-take, take-append-drop}
use Rattle.laws.specs.Reading.{Stable, stable_cut, stable_peek, peek, le_or_lt}

abbrev pub Kept : {A : Type 0} → (A → Type 0) → A → A → Type 0
Kept C a b = (C a → ⊥) → b ≡ a

pub kept_open : {A : Type 0} (C : A → Type 0) (cut : A) → C cut → (a b : A) → Stable cut a b → Kept C a b
kept_open C cut e a b k n = k (λ q. n (subst C (sym q) e))

-- f of `cut` is one of C, and f and g agree so far
pub kept_bind : {A B : Type 0} (cut : A) (C : B → Type 0) (f g : A → B) → C (f cut) → ((x : A) → Kept C (f x) (g x)) → (v w : A) → Stable cut v w → Kept C (f v) (g w)
kept_bind {A} cut C f g e h v w k n = ap g (k (λ q. n (subst (λ (x : A). C (f x)) (sym q) e))) ∙ h v n

pub stable_inside : {A : Type 0} (cut : A) (s t : List ℕ) (at : ℕ) (f g : ℕ → A) → (at < length s → (b : ℕ) → Stable cut (f b) (g b)) → Stable cut (peek cut s at f) (peek cut (s ++ t) at g)
stable_inside cut s t at f g h = ⊎_elim outside (λ lt. stable_peek cut s t at f g (h lt)) (le_or_lt (length s) at)
  where
    outside : length s ≤ at → Stable cut (peek cut s at f) (peek cut (s ++ t) at g)
    outside l = rw (le-ltb at (length s) l) (stable_cut cut (peek cut (s ++ t) at g))

-- an answer whose place p is inside each list that has it
pub cut_short : {A : Type 0} (C : A → Type 0) → ((a : A) → C a ⊎ (C a → ⊥)) → (f : List ℕ → A) → ((s t : List ℕ) → Kept C (f s) (f (s ++ t))) → (p : ℕ) (s : List ℕ) → ((l : List ℕ) → f l ≡ f s → p < length l) → C (f (take p s))
cut_short C decided f kept p s inside = ⊎_elim (λ c. c) (λ n. absurd (never n)) (decided (f (take p s)))
  where
    never : (C (f (take p s)) → ⊥) → ⊥
    never n =
        let e : f s ≡ f (take p s) = ap f (sym (take-append-drop p s)) ∙ kept (take p s) (drop p s) n in
        omega (arith, inside (take p s) (sym e), length-take p s)
