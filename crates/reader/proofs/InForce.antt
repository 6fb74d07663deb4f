-- The declaration in force of a name, and its number.
--     element_with, element_without, attribute_as    by the tests that the code makes
--     code_is                                        a number, by the cases of what was found
use Prim.Native.Nat.{ℕ, ◌≤◌, ◌<◌}
use mathlib.Core.Path.{◌≡◌, sym, ap, ◌∙◌}
use mathlib.Core.List.{List, []}
use mathlib.Core.Bool.{Bool, cond}
use borrow.Author.Tests.{lt-ltb, le-ltb}
use Rattle.laws.specs.Lists.{same_list}
use Rattle.lexer.specs.declared.Name.{Name}
use Rattle.reader.specs.Spans.{bytes_of, prefix_span, xmlns_prefix, kind_of}
use Rattle.reader.specs.Stored.{found_of, found_element, found_by, found_attribute, code_of}
use Rattle.reader.specs.declared.Kind.{Kind}
use Rattle.reader.specs.declared.Found.{Found}
use Rattle.reader.specs.declared.Found.TheVariants as found

module _ (s own : List ℕ) (owned : ℕ) (open' : List ℕ) (bound : ℕ) (n : Name) (f : Found) where
  pub element_with : (p : List ℕ) (x : Bool) → n.at < n.part → p ≡ bytes_of s (prefix_span n) → x ≡ same_list p xmlns_prefix
      → f ≡ cond x found.Unbound (found_of s own owned open' bound p) → f ≡ found_element s own owned open' bound n
  unfolding found_element
  element_with p x h e g q = rw (lt-ltb n.at n.part h, ← e, ← g) q

  pub element_without : n.part ≤ n.at → f ≡ found_of s own owned open' bound [] → f ≡ found_element s own owned open' bound n
  unfolding found_element
  element_without h q = rw (le-ltb n.at n.part h) q

  pub attribute_as : (k k' : Kind) → k ≡ kind_of s n → k ≡ k' → f ≡ found_by s own owned open' bound k' n → f ≡ found_attribute s own owned open' bound n
  unfolding found_attribute
  attribute_as k k' e g q = q ∙ ap (λ (t : Kind). found_by s own owned open' bound t n) (sym g ∙ e)

pub code_is : (f g : Found) → f ≡ g → code_of f ≡ code_of g
code_is f g e = ap code_of e
