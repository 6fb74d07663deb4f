-- More bytes behind a scene change nothing of what is said of spans inside it: bytes, kinds, declarations, namespaces, what a tag means, `Held`.
use Prim.Native.Nat.{ℕ}
use mathlib.Core.Path.{◌≡◌, refl, ap, ap₂, ◌∙◌}
use mathlib.Core.List.{List, [], ◌∷◌, ◌++◌}
use mathlib.Core.Bool.{cond, ◌&&◌}
use mathlib.Core.Option.{Option, none, some}
use native.Mathlib.Omega.{arith}
use lib.ListN.{drop, length-append, length-drop}
use lib.Seq.{take-append-le, drop-append-le}
use Rattle.laws.specs.Lists.{same_list, any}
use Rattle.laws.specs.Members.{All}
use Rattle.laws.proofs.Elementwise.{each_map, each_append, any_same, any_pair_same, gather_same}
use Rattle.lexer.specs.declared.Name.{Name}
use Rattle.lexer.specs.declared.Attr.{Attr}
use Rattle.lexer.proofs.Inside.{NameInside, AttrBehind}
use Rattle.reader.specs.Spans.{bytes_of, whole_span, prefix_span, kind_of}
use Rattle.reader.specs.Namespaces.{declared_by, declarations_of, refused_binding, look_up, Namespace, nothing, xml, declared, uri_of, same_namespace, of_prefix, of_element, ReadAttribute, resolved_by, resolved, same_name, same_expanded, refused, meant_by, meaning_of}
use Rattle.reader.specs.Events.{Open, ReaderState, part_of}
use Rattle.reader.specs.Held.{SpanHeld, BindingIn, BindingHeld, OpenHeld, Held}
use Rattle.reader.specs.declared.Span.{Span}
use Rattle.reader.specs.declared.Binding.{Binding}
use Rattle.reader.specs.declared.Kind.{Kind}
use Rattle.reader.specs.declared.Kind.TheVariants.{Plain, Prefixed, Default, Declares}
use Rattle.reader.proofs.TagMeaning.{OnSome, NamespaceHeld, AttributeHeld, declarations_in, resolved_held}

module _ (s t : List ℕ) where
  pub bytes_more : (w : Span) → SpanHeld s w → bytes_of (s ++ t) w ≡ bytes_of s w
  bytes_more w h = rw (drop-append-le w.at s t (omega arith)) (take-append-le w.len (drop w.at s) t (omega (arith, length-drop w.at s)))

  pub kind_more : (at : ℕ) (n : Name) → NameInside s at n → kind_of (s ++ t) n ≡ kind_of s n
  unfolding kind_of
  kind_more at n h = rw (bytes_more (prefix_span n) (omega arith), bytes_more (whole_span n) (omega arith))

  pub refused_more : (b : Binding) → BindingIn s b → refused_binding (s ++ t) b ≡ refused_binding s b
  unfolding refused_binding
  refused_more b h = rw (bytes_more b.prefix h.prefix, bytes_more b.uri h.uri)

  pub part_more : (w : Span) → SpanHeld s w → part_of (s ++ t) w ≡ part_of s w
  unfolding part_of
  part_more w h = rw (bytes_more w h)

  pub look_more : (bs : List Binding) (prefix : List ℕ) → All (BindingIn s) bs → look_up (s ++ t) bs prefix ≡ look_up s bs prefix
  unfolding look_up
  look_more [] prefix h = refl
  look_more (b ∷ bs) prefix h = rw (bytes_more b.prefix h.0.prefix, look_more bs prefix h.1)

  namespace_more : (n : Namespace) → NamespaceHeld s n → uri_of (s ++ t) n ≡ uri_of s n
  namespace_more nothing h = refl
  namespace_more xml h = refl
  namespace_more (declared w) h = bytes_more w h

  pub same_namespace_more : (m n : Namespace) → NamespaceHeld s m → NamespaceHeld s n → same_namespace (s ++ t) m n ≡ same_namespace s m n
  unfolding same_namespace
  same_namespace_more m n h k = ap₂ same_list (namespace_more m h) (namespace_more n k)

  -- ---- attributes, two compared
  pub same_name_more : (at : ℕ) (a b : Attr) → AttrBehind s at a → AttrBehind s at b → same_name (s ++ t) a b ≡ same_name s a b
  same_name_more at a b h k =
      let i = h.1.name in
      let j = k.1.name in
      ap₂ same_list (bytes_more (whole_span a.name) (omega arith)) (bytes_more (whole_span b.name) (omega arith))

  pub same_expanded_more : (a b : ReadAttribute) → AttributeHeld s a → AttributeHeld s b → same_expanded (s ++ t) a b ≡ same_expanded s a b
  same_expanded_more a b h k =
      ap₂ ◌&&◌ (same_namespace_more a.namespace b.namespace h.namespace k.namespace) (ap₂ same_list (bytes_more a.part h.part) (bytes_more b.part k.part))

  pub declarations_more : (at : ℕ) (attrs : List Attr) → All (AttrBehind s at) attrs → declarations_of (s ++ t) attrs ≡ declarations_of s attrs
  declarations_more at attrs =
      gather_same (AttrBehind s at) _ _ (λ a h. ap (λ (k : Kind). declared_by k a) (kind_more a.name.at a.name h.1.name)) attrs

  module _ (bs : List Binding) (in-s : All (BindingIn s) bs) where
    pub prefix_more : (prefix : List ℕ) → of_prefix (s ++ t) bs prefix ≡ of_prefix s bs prefix
    unfolding of_prefix
    prefix_more prefix = rw (look_more bs prefix in-s)

    pub element_more : (at : ℕ) (n : Name) → NameInside s at n → of_element (s ++ t) bs n ≡ of_element s bs n
    unfolding of_element
    element_more at n h =
        rw (bytes_more (prefix_span n) (omega arith), prefix_more (bytes_of s (prefix_span n)), look_more bs [] in-s)

    pub resolved_more : (at : ℕ) (attrs : List Attr) → All (AttrBehind s at) attrs → resolved (s ++ t) bs attrs ≡ resolved s bs attrs
    unfolding resolved
    resolved_more at [] h = refl
    resolved_more at (a ∷ as') h =
        ap₂ (λ (k : Kind) (r : Option (List ReadAttribute)). resolved_by (s ++ t) bs k a r) (kind_more a.name.at a.name h.0.1.name) (resolved_more at as' h.1)
        ∙ by (kind_of s a.name)
      where
        by : (k : Kind) → resolved_by (s ++ t) bs k a (resolved s bs as') ≡ resolved_by s bs k a (resolved s bs as')
        by Plain = refl
        by Prefixed =
            let i = h.0.1.name in
            rw (bytes_more (prefix_span a.name) (omega arith), prefix_more (bytes_of s (prefix_span a.name)))
        by Default = refl
        by Declares = refl

  pub meaning_more : (bs : List Binding) → All (BindingIn s) bs → (at : ℕ) (n : Name) → NameInside s at n → (attrs : List Attr) → All (AttrBehind s at) attrs → meaning_of (s ++ t) bs n attrs ≡ meaning_of s bs n attrs
  unfolding meaning_of
  meaning_more bs in-s at n i attrs h =
      rw (declarations_more at attrs h, any_same (BindingIn s) (refused_binding (s ++ t)) (refused_binding s) refused_more own (declarations_in s at attrs h), element_more (bs ++ own) all at n i, resolved_more (bs ++ own) all at attrs h)
      (ap (cond (any (refused_binding s) own) (refused 5)) (same (of_element s (bs ++ own) n) (resolved s (bs ++ own) attrs) (resolved_held s (bs ++ own) all at attrs h)))
    where
      own : List Binding
      own = declarations_of s attrs

      all : All (BindingIn s) (bs ++ own)
      all = each_append (BindingIn s) bs own in-s (declarations_in s at attrs h)

      same : (o : Option Namespace) (r : Option (List ReadAttribute)) → OnSome (All (AttributeHeld s)) r → meant_by (s ++ t) attrs own o r ≡ meant_by s attrs own o r
      same none r k = refl
      same (some m) none k = refl
      same (some m) (some as') k =
          rw (any_pair_same (AttrBehind s at) (same_name (s ++ t)) (same_name s) (same_name_more at) attrs h, any_pair_same (AttributeHeld s) (same_expanded (s ++ t)) (same_expanded s) same_expanded_more as' k)

  -- ---- `Held`
  span_more : (w : Span) → SpanHeld s w → SpanHeld (s ++ t) w
  span_more w h = simp length-append (omega arith)

  binding_more : (b : Binding) → BindingIn s b → BindingIn (s ++ t) b
  binding_more b h =
      record {
        prefix = span_more b.prefix h.prefix;
        uri = span_more b.uri h.uri;
        part = rw (bytes_more b.prefix h.prefix) h.part;
      }

  open_more : (o : Open) → OpenHeld s o → OpenHeld (s ++ t) o
  open_more o h =
      record {
        behind = h.behind;
        inside = span_more o.name h.inside;
        named = rw (bytes_more o.name h.inside) h.named;
        declarations =
            each_map (BindingHeld s) (BindingHeld (s ++ t)) (λ b k. record { inside = binding_more b k.inside; fits = refused_more b k.inside ∙ k.fits }) o.declarations h.declarations;
      }

  pub held_more : (z : ReaderState) → Held s z → Held (s ++ t) z
  held_more z h =
      record {
        place = simp length-append (omega arith);
        opened = each_map (OpenHeld s) (OpenHeld (s ++ t)) open_more z.opened h.opened;
        awaited = h.awaited;
        closed = h.closed;
      }
