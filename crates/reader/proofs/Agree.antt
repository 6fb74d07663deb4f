-- What the code finds in its arrays is what the definitions of Namespaces.antt say.
--     look_agrees                          the last binding with a prefix
--     element_agrees, attribute_agrees     the namespace of a name
use Prim.Native.Nat.{ℕ, zero, suc, ◌+◌, ◌-◌, min, ◌≤◌, ◌<◌}
use mathlib.Core.Path.{◌≡◌, refl, sym, ap, ◌∙◌}
use mathlib.Core.List.{List, [], ◌∷◌, ◌++◌}
use mathlib.Core.Bool.{Bool, true, false, cond}
use mathlib.Core.Option.{Option, none, some}
use native.Mathlib.Omega.{arith}
use borrow.Author.Tests.{ltb-true, ne_eqb, le-leb}
use lib.Dec.{eqb}
use lib.ListN.{length, drop, length-take, length-drop}
use Rattle.laws.specs.Lists.{same_list, tabulate}
use Rattle.lexer.specs.declared.Name.{Name}
use Rattle.reader.specs.Spans.{bytes_of, whole_span, prefix_span, has_prefix, xml_prefix, xmlns_prefix, kind_of}
use Rattle.reader.specs.Namespaces.{or_outer, look_up, Namespace, nothing, xml, of_binding, of_prefix, of_element}
use Rattle.reader.specs.Stored.{binding_in, bindings_in, look_from, found_open, found_of, found_element, found_by, found_attribute, stored_space, is_unbound}
use Rattle.reader.specs.declared.Binding.{Binding}
use Rattle.reader.specs.declared.Kind.{Kind}
use Rattle.reader.specs.declared.Kind.TheVariants.{Plain, Prefixed, Default, Declares}
use Rattle.reader.specs.declared.Found.{Found}
use Rattle.reader.specs.declared.Found.TheVariants as found
use Rattle.reader.proofs.Indexed.{tab_last}

-- ---- the last binding with a prefix
else_assoc : (a b c : Option Binding) → or_outer (or_outer a b) c ≡ or_outer a (or_outer b c)
else_assoc none b c = refl
else_assoc (some x) b c = refl

look_append : (s : List ℕ) (xs ys : List Binding) (p : List ℕ) → look_up s (xs ++ ys) p ≡ or_outer (look_up s ys p) (look_up s xs p)
unfolding look_up
look_append s [] ys p = cases (look_up s ys p)
  where
    cases : (o : Option Binding) → o ≡ or_outer o none
    cases none = refl
    cases (some b) = refl
look_append s (x ∷ xs) ys p =
    ap (λ (o : Option Binding). or_outer o (cond (same_list (bytes_of s x.prefix) p) (some x) none)) (look_append s xs ys p)
    ∙ else_assoc (look_up s ys p) (look_up s xs p) (cond (same_list (bytes_of s x.prefix) p) (some x) none)

-- a binding by its number, counted from 1
abbrev pub bound_at : List ℕ → ℕ → Option Binding
bound_at l zero = none
bound_at l (suc k) = some (binding_in l k)

pub look_agrees : (s l : List ℕ) (n : ℕ) (p : List ℕ) → look_up s (bindings_in l n) p ≡ bound_at l (look_from s l n p)
unfolding look_up look_from tabulate
look_agrees s l zero p = refl
look_agrees s l (suc n) p =
    ap (λ (bs : List Binding). look_up s bs p) (tab_last (binding_in l) n)
    ∙ look_append s (bindings_in l n) (binding_in l n ∷ []) p
    ∙ cases (same_list (bytes_of s (binding_in l n).prefix) p) (look_agrees s l n p)
  where
    cases : (t : Bool) → look_up s (bindings_in l n) p ≡ bound_at l (look_from s l n p)
        → or_outer (cond t (some (binding_in l n)) none) (look_up s (bindings_in l n) p) ≡ bound_at l (cond t (suc n) (look_from s l n p))
    cases true h = refl
    cases false h = h

-- ---- the namespace of a name
-- the namespace that was found; none where a prefix is unbound
abbrev pub namespace_in : List ℕ → List ℕ → Found → Option Namespace
namespace_in own open' f = cond (is_unbound f) none (some (stored_space own open' f))

-- the namespace of an attribute; a declaration's does not count
abbrev pub of_kind : List ℕ → List Binding → Kind → Name → Option Namespace
of_kind s bs Plain n = some nothing
of_kind s bs Prefixed n = of_prefix s bs (bytes_of s (prefix_span n))
of_kind s bs Default n = some nothing
of_kind s bs Declares n = some nothing

-- a prefix that stands in a name has bytes
abbrev pub Named : List ℕ → Name → Type 0
Named s n = has_prefix n ≡ true → length (bytes_of s (prefix_span n)) ≡ 0 → ⊥

-- it has where it stands in the scene and is not empty
pub named_in : (s : List ℕ) (n : Name) → (n.at < n.part → (n.at + 1 < n.part) × (n.at < length s)) → Named s n
named_in s n h e z =
    let q : (n.at + 1 < n.part) × (n.at < length s) = h (ltb-true n.at n.part e) in
    let l : length (bytes_of s (prefix_span n)) ≡ min (n.part - 1 - n.at) (length (drop n.at s)) = length-take (n.part - 1 - n.at) (drop n.at s) in
    omega (arith, q.0, q.1, length-drop n.at s)

prefixed_has : (s : List ℕ) (n : Name) → kind_of s n ≡ Prefixed → has_prefix n ≡ true
unfolding kind_of
prefixed_has s n = cases (has_prefix n) (same_list (bytes_of s (whole_span n)) xmlns_prefix)
  where
    cases : (t u : Bool) → cond t (cond (same_list (bytes_of s (prefix_span n)) xmlns_prefix) Declares Prefixed) (cond u Default Plain) ≡ Prefixed → t ≡ true
    cases true u e = refl
    cases false true e = absurd (let z : ◌≡◌ {A = ℕ} 0 1 = cc in omega arith)
    cases false false e = absurd (let z : ◌≡◌ {A = ℕ} 0 1 = cc in omega arith)

module _ (s own open' : List ℕ) (ds : List Binding) (bound : ℕ) (read : bindings_in own (length ds) ≡ ds) (few : length ds ≤ 16) (room : bound ≤ 64) where
  abbrev all_of : List Binding
  all_of = bindings_in open' bound ++ ds

  -- the tag's own first, then those that are open
  look_both : (p : List ℕ) → look_up s all_of p ≡ or_outer (bound_at own (look_from s own (length ds) p)) (bound_at open' (look_from s open' bound p))
  look_both p =
      look_append s (bindings_in open' bound) ds p
      ∙ ap (λ (o : Option Binding). or_outer (look_up s ds p) o) (look_agrees s open' bound p)
      ∙ ap (λ (o : Option Binding). or_outer o (bound_at open' (look_from s open' bound p)))
      (ap (λ (bs : List Binding). look_up s bs p) (sym read) ∙ look_agrees s own (length ds) p)

  -- o: where nothing is found
  as_found : (o : Option Namespace) (p : List ℕ) → o ≡ cond (eqb (length p) 0) (some nothing) none → (a b : ℕ)
      → of_binding o (or_outer (bound_at own a) (bound_at open' b)) ≡ namespace_in own open' (cond (eqb a 0) (found_open p b) (found.Own (a - 1)))
  as_found o p e zero zero = e ∙ cases (eqb (length p) 0)
    where
      cases : (t : Bool) → cond t (some nothing) none ≡ namespace_in own open' (cond t found.Nothing found.Unbound)
      cases true = refl
      cases false = refl
  as_found o p e zero (suc b) = let q : suc b - 1 ≡ b = omega arith in rw (ne_eqb (suc b) 0 (λ z. omega arith), q)
  as_found o p e (suc a) b = let q : suc a - 1 ≡ a = omega arith in rw (ne_eqb (suc a) 0 (λ z. omega arith), q)

  -- what found_of says of a prefix, but for xml's
  found_as : (o : Option Namespace) (p : List ℕ) → o ≡ cond (eqb (length p) 0) (some nothing) none
      → cond (same_list p xml_prefix) (some xml) (of_binding o (look_up s all_of p)) ≡ namespace_in own open' (found_of s own (length ds) open' bound p)
  unfolding found_of
  found_as o p e =
      rw (le-leb (length ds) 16 few, le-leb bound 64 room)
      (cases (same_list p xml_prefix) _ (cond (eqb (look_from s own (length ds) p) 0) (found_open p (look_from s open' bound p)) (found.Own (look_from s own (length ds) p - 1)))
      (ap (of_binding o) (look_both p) ∙ as_found o p e (look_from s own (length ds) p) (look_from s open' bound p)))
    where
      cases : (t : Bool) (x : Option Namespace) (f : Found) → x ≡ namespace_in own open' f → cond t (some xml) x ≡ namespace_in own open' (cond t found.Xml f)
      cases true x f h = refl
      cases false x f h = h

  prefix_agrees : (p : List ℕ) → (length p ≡ 0 → ⊥) → of_prefix s all_of p ≡ namespace_in own open' (found_of s own (length ds) open' bound p)
  unfolding of_prefix
  prefix_agrees p h = found_as none p (rw (ne_eqb (length p) 0 h))

  default_agrees : of_binding (some nothing) (look_up s all_of []) ≡ namespace_in own open' (found_of s own (length ds) open' bound [])
  unfolding same_list
  default_agrees = found_as (some nothing) [] refl

  pub element_agrees : (n : Name) → Named s n → of_element s all_of n ≡ namespace_in own open' (found_element s own (length ds) open' bound n)
  unfolding of_element found_element
  element_agrees n h =
      cases (has_prefix n) (same_list (bytes_of s (prefix_span n)) xmlns_prefix) _ _
      (found_of s own (length ds) open' bound (bytes_of s (prefix_span n)))
      (found_of s own (length ds) open' bound [])
      (λ e. prefix_agrees (bytes_of s (prefix_span n)) (h e))
      default_agrees
    where
      cases : (t u : Bool) (x y : Option Namespace) (f g : Found) → (t ≡ true → x ≡ namespace_in own open' f) → y ≡ namespace_in own open' g
          → cond t (cond u none x) y ≡ namespace_in own open' (cond t (cond u found.Unbound f) g)
      cases true true x y f g p q = refl
      cases true false x y f g p q = p refl
      cases false u x y f g p q = q

  pub attribute_agrees : (n : Name) → Named s n → of_kind s all_of (kind_of s n) n ≡ namespace_in own open' (found_attribute s own (length ds) open' bound n)
  unfolding found_attribute
  attribute_agrees n h = cases (kind_of s n) refl
    where
      cases : (k : Kind) → k ≡ kind_of s n → of_kind s all_of k n ≡ namespace_in own open' (found_by s own (length ds) open' bound k n)
      cases Plain e = refl
      cases Prefixed e = prefix_agrees (bytes_of s (prefix_span n)) (h (prefixed_has s n (sym e)))
      cases Default e = refl
      cases Declares e = refl
