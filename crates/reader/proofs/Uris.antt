-- The URI of what was found, by its case, compared.
use Prim.Native.Nat.{ℕ}
use mathlib.Core.Path.{◌≡◌, sym, ap, ◌∙◌}
use mathlib.Core.List.{List}
use mathlib.Core.Bool.{Bool}
use Rattle.laws.specs.Lists.{same_list}
use Rattle.reader.specs.Spans.{bytes_of}
use Rattle.reader.specs.Namespaces.{uri_of, same_namespace}
use Rattle.reader.specs.Stored.{stored_space}
use Rattle.reader.specs.declared.Binding.{Binding}
use Rattle.reader.specs.declared.Found.{Found}

pub uri_in_lem : (s u : List ℕ) (b b' : Binding) → u ≡ bytes_of s b.uri → b ≡ b' → u ≡ bytes_of s b'.uri
uri_in_lem s u b b' e q = e ∙ ap (λ (x : Binding). bytes_of s x.uri) q

module _ (s own open' : List ℕ) (g v : Found) (u : List ℕ) (r : Bool) (e : g ≡ v) (p : u ≡ uri_of s (stored_space own open' v)) where
  -- u is the URI of g
  is_uri : u ≡ uri_of s (stored_space own open' g)
  is_uri = p ∙ ap (λ (x : Found). uri_of s (stored_space own open' x)) (sym e)

  pub on_the_left : (uri : List ℕ) → r ≡ same_list u uri → r ≡ same_list (uri_of s (stored_space own open' g)) uri
  on_the_left uri q = q ∙ ap (λ (l : List ℕ). same_list l uri) is_uri

  pub on_the_right : (f : Found) → r ≡ same_list (uri_of s (stored_space own open' f)) u → r ≡ same_namespace s (stored_space own open' f) (stored_space own open' g)
  unfolding same_namespace
  on_the_right f q = q ∙ ap (same_list (uri_of s (stored_space own open' f))) is_uri
