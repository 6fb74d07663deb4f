-- A tag's declarations, laid down one after the other.
--     Kept, keep_none, keep_one, as_kind      one attribute's
use Prim.Native.Nat.{ℕ, ◌+◌, ◌*◌}
use mathlib.Core.Path.{◌≡◌, refl, sym, ap, ◌∙◌, subst}
use mathlib.Core.List.{List, [], ◌∷◌, ◌++◌, append-nil}
use mathlib.Core.Bool.{Bool, true, false, cond, ◌||◌}
use native.Mathlib.Nat.{add-zero}
use native.Mathlib.Omega.{arith}
use lib.ListN.{length, drop}
use Rattle.std.specs.Prelude.{Result, Ok, Err}
use Rattle.laws.specs.Lists.{any}
use Rattle.laws.specs.Gather.{gather}
use Rattle.laws.specs.Over.{overwrite}
use Rattle.laws.proofs.Over.{over_none, over_over}
use Rattle.laws.proofs.Gather.{gather_none, gather_append}
use Rattle.lexer.specs.declared.Attr.{Attr}
use Rattle.reader.specs.Spans.{kind_of}
use Rattle.reader.specs.Namespaces.{declared_by, refused_binding}
use Rattle.reader.specs.Stored.{binding_numbers, laid_bindings, fitting}
use Rattle.reader.specs.declared.Binding.{Binding}
use Rattle.reader.specs.declared.Kind.{Kind}
use Rattle.reader.specs.declared.NamespaceError.{NamespaceError}
use Rattle.reader.specs.declared.NamespaceError.TheVariants.{BadPrefix}

module _ (s : List ℕ) (n : ℕ) (own : List ℕ) where
  -- what declaring these behind n others gives, and the array then
  abbrev pub Kept : List Binding → Result ℕ NamespaceError → List ℕ → Type 0
  Kept ds r l = (r ≡ cond (any (refused_binding s) ds) (Err BadPrefix) (Ok (n + length ds))) × (l ≡ overwrite own (4 * n) (gather binding_numbers (fitting s ds)))

  pub keep_none : Kept [] (Ok n) own
  unfolding any gather fitting
  keep_none = (ap Ok (sym (add-zero n)), sym (over_none own (4 * n)))

  pub keep_one : (b b' : Binding) (r : Result ℕ NamespaceError) (l : List ℕ) → b ≡ b'
      → r ≡ cond (refused_binding s b) (Err BadPrefix) (Ok (n + 1))
      → l ≡ cond (refused_binding s b) own (overwrite own (4 * n) (binding_numbers b))
      → Kept (b' ∷ []) r l
  unfolding any gather fitting
  keep_one b b' r l e p q = subst (λ (x : Binding). Kept (x ∷ []) r l) e (cases (refused_binding s b) p q)
    where
      cases : (t : Bool) → r ≡ cond t (Err BadPrefix) (Ok (n + 1)) → l ≡ cond t own (overwrite own (4 * n) (binding_numbers b))
          → (r ≡ cond (t || false) (Err BadPrefix) (Ok (n + 1))) × (l ≡ overwrite own (4 * n) (gather binding_numbers (cond t [] (b ∷ []))))
      cases true p q = (p, q ∙ sym (over_none own (4 * n)))
      cases false p q = (p, q)

  pub as_kind : (a : Attr) (k k' : Kind) (r : Result ℕ NamespaceError) (l : List ℕ) → k ≡ kind_of s a.name → k ≡ k'
      → Kept (declared_by k' a) r l → Kept (declared_by (kind_of s a.name) a) r l
  as_kind a k k' r l p q h = subst (λ (t : Kind). Kept (declared_by t a) r l) (sym q ∙ p) h

-- `fitting` of two lists
module _ (s : List ℕ) where
  pub fitting_all : (xs ys : List Binding) → any (refused_binding s) xs ≡ false → fitting s (xs ++ ys) ≡ xs ++ fitting s ys
  unfolding any fitting
  fitting_all [] ys h = refl
  fitting_all (x ∷ xs) ys h = cases (refused_binding s x) h (fitting_all xs ys)
    where
      cases : (t : Bool) → (t || any (refused_binding s) xs) ≡ false → (any (refused_binding s) xs ≡ false → fitting s (xs ++ ys) ≡ xs ++ fitting s ys)
          → cond t [] (x ∷ fitting s (xs ++ ys)) ≡ x ∷ (xs ++ fitting s ys)
      cases true h ih = absurd (let z : ◌≡◌ {A = ℕ} 0 1 = cc in omega arith)
      cases false h ih = ap (λ (l : List Binding). x ∷ l) (ih h)

  pub fitting_some : (xs ys : List Binding) → any (refused_binding s) xs ≡ true → fitting s (xs ++ ys) ≡ fitting s xs
  unfolding any fitting
  fitting_some [] ys h = absurd (let z : ◌≡◌ {A = ℕ} 0 1 = cc in omega arith)
  fitting_some (x ∷ xs) ys h = cases (refused_binding s x) h (fitting_some xs ys)
    where
      cases : (t : Bool) → (t || any (refused_binding s) xs) ≡ true → (any (refused_binding s) xs ≡ true → fitting s (xs ++ ys) ≡ fitting s xs)
          → cond t [] (x ∷ fitting s (xs ++ ys)) ≡ cond t [] (x ∷ fitting s xs)
      cases true h ih = refl
      cases false h ih = ap (λ (l : List Binding). x ∷ l) (ih h)

  pub fitting_whole : (xs : List Binding) → any (refused_binding s) xs ≡ false → fitting s xs ≡ xs
  unfolding fitting
  fitting_whole xs h = ap (fitting s) (sym (append-nil xs)) ∙ fitting_all xs [] h ∙ append-nil xs

pub four_long : (bs : List Binding) → length (gather binding_numbers bs) ≡ 4 * length bs
unfolding gather
four_long [] = refl
four_long (b ∷ bs) = omega (arith, four_long bs)

-- an array with bindings in front is one that is overwritten there
module _ (l : List ℕ) where
  pub laid_over : (bs : List Binding) → laid_bindings bs l ≡ overwrite l 0 (gather binding_numbers bs)
  unfolding laid_bindings overwrite
  laid_over bs =
      let e : 4 * length bs ≡ 0 + length (gather binding_numbers bs) = omega (arith, four_long bs) in
      ap (λ (k : ℕ). gather binding_numbers bs ++ drop k l) e

  pub laid_none : laid_bindings [] l ≡ l
  laid_none = laid_over [] ∙ ap (overwrite l 0) (gather_none binding_numbers) ∙ over_none l 0

  pub laid_more : (xs ys : List Binding) → overwrite (laid_bindings xs l) (4 * length xs) (gather binding_numbers ys) ≡ laid_bindings (xs ++ ys) l
  laid_more xs ys =
      let e : 4 * length xs ≡ 0 + length (gather binding_numbers xs) = omega (arith, four_long xs) in
      ap (λ (k : ℕ). overwrite (laid_bindings xs l) k (gather binding_numbers ys)) e
      ∙ ap (λ (r : List ℕ). overwrite r (0 + length (gather binding_numbers xs)) (gather binding_numbers ys)) (laid_over xs)
      ∙ over_over l 0 (gather binding_numbers xs) (gather binding_numbers ys) (omega arith)
      ∙ ap (overwrite l 0) (sym (gather_append binding_numbers xs ys))
      ∙ sym (laid_over (xs ++ ys))
