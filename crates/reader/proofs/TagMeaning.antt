-- What a tag means lies inside the scene: its declarations, its namespaces and its attributes.
--     declarations_in                        what the attributes declare
--     look_held, prefix_held, element_held   what is found of a prefix is one of the bindings
--     resolved_held, meaning_held            the attributes, and the whole
use Prim.Native.Nat.{ℕ}
use mathlib.Core.Path.{◌≡◌, refl}
use mathlib.Core.List.{List, [], ◌∷◌, ◌++◌}
use mathlib.Core.Bool.{false, cond, ◌||◌}
use mathlib.Core.Option.{Option, none, some}
use mathlib.Core.Logic.{◌⊎◌, inl, inr}
use native.Mathlib.Omega.{arith}
use Rattle.laws.specs.Lists.{same_list, any, any_pair}
use Rattle.laws.specs.Members.{All}
use Rattle.laws.proofs.Holds.{holds_cond}
use Rattle.laws.proofs.Elementwise.{each_map, each_append, each_gather, each_any}
use Rattle.lexer.specs.declared.Name.{Name}
use Rattle.lexer.specs.declared.Attr.{Attr}
use Rattle.lexer.proofs.Inside.{AttrBehind}
use Rattle.lexer.proofs.WholeNames.{whole_part}
use Rattle.reader.specs.Spans.{bytes_of, prefix_span, has_prefix, xml_prefix, xmlns_prefix, kind_of}
use Rattle.reader.specs.Namespaces.{declared_by, declarations_of, refused_binding, or_outer, look_up, Namespace, nothing, xml, declared, of_binding, of_prefix, of_element, ReadAttribute, before, resolved_by, resolved, same_name, same_expanded, Meaning, refused, meant, meant_by, meaning_of}
use Rattle.reader.specs.Held.{SpanHeld, BindingIn, BindingHeld}
use Rattle.reader.specs.declared.Binding.{Binding}
use Rattle.reader.specs.declared.Kind.{Kind}
use Rattle.reader.specs.declared.Kind.TheVariants.{Plain, Prefixed, Default, Declares}

abbrev pub OnSome : {A : Type 0} → (A → Type 0) → Option A → Type 0
OnSome P none = Unit
OnSome P (some x) = P x

abbrev pub NamespaceHeld : List ℕ → Namespace → Type 0
NamespaceHeld s nothing = Unit
NamespaceHeld s xml = Unit
NamespaceHeld s (declared w) = SpanHeld s w

pub record AttributeHeld (s : List ℕ) (a : ReadAttribute) : Type 0 where
  pub part : SpanHeld s a.part
  pub value : SpanHeld s a.value
  pub namespace : NamespaceHeld s a.namespace

-- a tag's number is 5 or 6
abbrev pub MeaningHeld : List ℕ → Meaning → Type 0
MeaningHeld s (refused n) = (n ≡ 5) ⊎ (n ≡ 6)
MeaningHeld s (meant n as' own) = NamespaceHeld s n × All (AttributeHeld s) as' × All (BindingHeld s) own

module _ (s : List ℕ) where
  declared_in : (at : ℕ) (a : Attr) → AttrBehind s at a → (k : Kind) → All (BindingIn s) (declared_by k a)
  declared_in at a h Plain = tt
  declared_in at a h Prefixed = tt
  declared_in at a h Default =
      let i = h.1 in
      (record { prefix = omega arith; uri = omega arith; part = inl refl }, tt)
  declared_in at a h Declares =
      let i = h.1 in
      let n = i.name in
      (record { prefix = omega arith; uri = omega arith; part = inr (whole_part s a.name.part a.name.end n.last) }, tt)

  pub declarations_in : (at : ℕ) (attrs : List Attr) → All (AttrBehind s at) attrs → All (BindingIn s) (declarations_of s attrs)
  declarations_in at attrs = each_gather (AttrBehind s at) (BindingIn s) _ (λ a h. declared_in at a h (kind_of s a.name)) attrs

  pub look_held : (P : Binding → Type 0) (bs : List Binding) (prefix : List ℕ) → All P bs → OnSome P (look_up s bs prefix)
  unfolding look_up
  look_held P [] prefix h = tt
  look_held P (b ∷ bs) prefix h = either (look_up s bs prefix) (look_held P bs prefix h.1)
    where
      either : (o : Option Binding) → OnSome P o → OnSome P (or_outer o (cond (same_list (bytes_of s b.prefix) prefix) (some b) none))
      either none k = holds_cond (OnSome P) (same_list (bytes_of s b.prefix) prefix) (λ e. h.0) (λ e. tt)
      either (some c) k = k

  bound_held : (other : Option Namespace) → OnSome (NamespaceHeld s) other → (o : Option Binding) → OnSome (BindingIn s) o → OnSome (NamespaceHeld s) (of_binding other o)
  bound_held other k none h = k
  bound_held other k (some b) h = h.uri

  module _ (bs : List Binding) (in-s : All (BindingIn s) bs) where
    pub prefix_held : (prefix : List ℕ) → OnSome (NamespaceHeld s) (of_prefix s bs prefix)
    unfolding of_prefix
    prefix_held prefix =
        holds_cond (OnSome (NamespaceHeld s)) (same_list prefix xml_prefix) (λ e. tt) (λ e.
        bound_held none tt (look_up s bs prefix) (look_held (BindingIn s) bs prefix in-s))

    pub element_held : (n : Name) → OnSome (NamespaceHeld s) (of_element s bs n)
    unfolding of_element
    element_held n =
        holds_cond (OnSome (NamespaceHeld s)) (has_prefix n)
        (λ e. holds_cond (OnSome (NamespaceHeld s)) (same_list (bytes_of s (prefix_span n)) xmlns_prefix) (λ q. tt) (λ q. prefix_held (bytes_of s (prefix_span n))))
        (λ e. bound_held (some nothing) tt (look_up s bs []) (look_held (BindingIn s) bs [] in-s))

    before_held : (at : ℕ) (a : Attr) → AttrBehind s at a → (n : Option Namespace) → OnSome (NamespaceHeld s) n → (rest : Option (List ReadAttribute)) → OnSome (All (AttributeHeld s)) rest → OnSome (All (AttributeHeld s)) (before a n rest)
    before_held at a h none k rest r = tt
    before_held at a h (some n) k none r = tt
    before_held at a h (some n) k (some as') r =
        let i = h.1 in
        let m = i.name in
        (record { part = omega arith; value = omega arith; namespace = k }, r)

    pub resolved_held : (at : ℕ) (attrs : List Attr) → All (AttrBehind s at) attrs → OnSome (All (AttributeHeld s)) (resolved s bs attrs)
    unfolding resolved
    resolved_held at [] h = tt
    resolved_held at (a ∷ as') h = by (kind_of s a.name) (resolved_held at as' h.1)
      where
        by : (k : Kind) → OnSome (All (AttributeHeld s)) (resolved s bs as') → OnSome (All (AttributeHeld s)) (resolved_by s bs k a (resolved s bs as'))
        by Plain r = before_held at a h.0 (some nothing) tt (resolved s bs as') r
        by Prefixed r = before_held at a h.0 (of_prefix s bs (bytes_of s (prefix_span a.name))) (prefix_held (bytes_of s (prefix_span a.name))) (resolved s bs as') r
        by Default r = r
        by Declares r = r

  pub meaning_held : (bs : List Binding) → All (BindingIn s) bs → (n : Name) (at : ℕ) (attrs : List Attr) → All (AttrBehind s at) attrs → MeaningHeld s (meaning_of s bs n attrs)
  unfolding meaning_of
  meaning_held bs in-s n at attrs h =
      holds_cond (MeaningHeld s) (any (refused_binding s) own) (λ e. inl refl) (λ e.
      meant_held e (of_element s (bs ++ own) n) (element_held (bs ++ own) all n) (resolved s (bs ++ own) attrs) (resolved_held (bs ++ own) all at attrs h))
    where
      own : List Binding
      own = declarations_of s attrs

      all : All (BindingIn s) (bs ++ own)
      all = each_append (BindingIn s) bs own in-s (declarations_in at attrs h)

      meant_held : any (refused_binding s) own ≡ false → (o : Option Namespace) → OnSome (NamespaceHeld s) o → (r : Option (List ReadAttribute)) → OnSome (All (AttributeHeld s)) r → MeaningHeld s (meant_by s attrs own o r)
      meant_held e none k r j = inl refl
      meant_held e (some m) k none j = inl refl
      meant_held e (some m) k (some as') j =
          holds_cond (MeaningHeld s) (any_pair (same_name s) attrs || any_pair (same_expanded s) as') {a = refused 6} {b = meant m as' own} (λ q. inr refl) (λ q.
          (k, j, each_map _ (BindingHeld s) (λ b x. record { inside = x.0; fits = x.1 }) own (each_any (BindingIn s) (refused_binding s) own (declarations_in at attrs h) e)))
