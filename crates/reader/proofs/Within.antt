-- What is found is one of the declarations that are there: of a prefix, of an element, of an attribute.
use Prim.Native.Nat.{ℕ, ◌-◌, ◌≤◌}
use mathlib.Core.List.{List, []}
use mathlib.Core.Bool.{Bool, true, false, cond}
use mathlib.Core.Path.{◌≡◌, refl, sym}
use native.Mathlib.Omega.{arith}
use borrow.Author.Tests.{eqb-false}
use lib.Dec.{eqb}
use lib.ListN.{length}
use Rattle.laws.specs.Lists.{same_list}
use Rattle.lexer.specs.declared.Name.{Name}
use Rattle.reader.specs.Spans.{bytes_of, prefix_span, has_prefix, xml_prefix, xmlns_prefix, kind_of}
use Rattle.reader.specs.Stored.{at_most, look_from, found_of, found_element, found_by, found_attribute}
use Rattle.reader.specs.Known.{Within}
use Rattle.reader.specs.declared.Kind.{Kind}
use Rattle.reader.specs.declared.Kind.TheVariants.{Plain, Prefixed, Default, Declares}
use Rattle.reader.specs.declared.Found.TheVariants as found
use Rattle.reader.proofs.Seek.{look_le}

module _ (s own : List ℕ) (owned : ℕ) (open' : List ℕ) (bound : ℕ) where
  found_within : (p : List ℕ) → Within (at_most 16 owned) (at_most 64 bound) (found_of s own owned open' bound p)
  unfolding found_of
  found_within p =
      let a : ℕ = look_from s own (at_most 16 owned) p in
      let b : ℕ = look_from s open' (at_most 64 bound) p in
      cases (at_most 16 owned) (at_most 64 bound) (same_list p xml_prefix) (eqb a 0) (eqb b 0) (eqb (length p) 0) a b refl refl (look_le s own (at_most 16 owned) p) (look_le s open' (at_most 64 bound) p)
    where
      cases : (m n : ℕ) (t u v w : Bool) (a b : ℕ) → u ≡ eqb a 0 → v ≡ eqb b 0 → a ≤ m → b ≤ n
          → Within m n (cond t found.Xml (cond u (cond v (cond w found.Nothing found.Unbound) (found.Open (b - 1))) (found.Own (a - 1))))
      cases m n true u v w a b eu ev h k = tt
      cases m n false false v w a b eu ev h k = omega (arith, eqb-false a 0 (sym eu))
      cases m n false true false w a b eu ev h k = omega (arith, eqb-false b 0 (sym ev))
      cases m n false true true true a b eu ev h k = tt
      cases m n false true true false a b eu ev h k = tt

  pub element_within : (n : Name) → Within (at_most 16 owned) (at_most 64 bound) (found_element s own owned open' bound n)
  unfolding found_element
  element_within n = cases (has_prefix n) (same_list (bytes_of s (prefix_span n)) xmlns_prefix)
    where
      cases : (t u : Bool)
          → Within (at_most 16 owned) (at_most 64 bound) (cond t (cond u found.Unbound (found_of s own owned open' bound (bytes_of s (prefix_span n)))) (found_of s own owned open' bound []))
      cases true true = tt
      cases true false = found_within (bytes_of s (prefix_span n))
      cases false u = found_within []

  pub attribute_within : (n : Name) → Within (at_most 16 owned) (at_most 64 bound) (found_attribute s own owned open' bound n)
  unfolding found_attribute
  attribute_within n = cases (kind_of s n)
    where
      cases : (k : Kind) → Within (at_most 16 owned) (at_most 64 bound) (found_by s own owned open' bound k n)
      cases Plain = tt
      cases Prefixed = found_within (bytes_of s (prefix_span n))
      cases Default = tt
      cases Declares = tt
