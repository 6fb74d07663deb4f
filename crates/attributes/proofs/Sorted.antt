-- The attributes and sections that the arrays hold are those of the model's element.
--     class_few, givens_small         what the arrays' numbers hold
--     uri_within, uri_held            the span that is kept of a namespace's URI lies inside the scene
--     codes_small                     codes are small
--     element_in, element_is           the model's element
--     sections_are, sections_few      its sections
--     sorted_are                      its attributes with their sections
use Prim.Native.Nat.{ℕ, zero, suc, ◌≤◌, ◌<◌, ◌^◌}
use mathlib.Core.Path.{◌≡◌, refl, sym, ap, ◌∙◌, subst}
use mathlib.Core.List.{List, [], ◌∷◌, ◌++◌, map}
use mathlib.Core.Bool.{Bool, true, false, cond, not, ◌||◌}
use mathlib.Core.Logic.{⊎_elim}
use native.Mathlib.Omega.{arith}
use lib.Dec.{eqb}
use lib.ListN.{length, get_or, drop}
use Rattle.laws.specs.Lists.{any, keep, tabulate}
use Rattle.laws.specs.Gather.{gather}
use Rattle.laws.specs.Members.{All}
use Rattle.laws.specs.Over.{overwrite}
use Rattle.laws.proofs.Holds.{holds_cond}
use Rattle.table.specs.Table.{Table, decode, class_of}
use Rattle.table.specs.Judge.{Accepted}
use Rattle.table.proofs.Accepted.{header_in}
use Rattle.table.proofs.Namespaces.{class_in_lem}
use Rattle.lexer.specs.declared.Attr.{Attr}
use Rattle.reader.specs.declared.Span.{Span}
use Rattle.reader.specs.declared.Found.{Found}
use Rattle.reader.specs.declared.Found.TheVariants as found
use Rattle.reader.specs.Spans.{kind_of}
use Rattle.reader.specs.Namespaces as scene
use Rattle.reader.specs.Namespaces.{Namespace, nothing, xml, declared, uri_of, same_namespace, attribute}
use Rattle.reader.specs.Stored.{is_declaration, Coded, coded, code_then, codes_of, found_attribute}
use Rattle.reader.specs.Events.{Start}
use Rattle.reader.specs.Held.{SpanHeld}
use Rattle.reader.proofs.TagMeaning.{NamespaceHeld, AttributeHeld}
use Rattle.reader.proofs.Pairs.{kept_of}
use Rattle.reader.proofs.Numbers.{InRange, attribute_in_range}
use Rattle.reader.proofs.AgreeWhole.{attributes_in}
use Rattle.model.specs.Elements.{Space, Attribute, uri_span, space_of, Element, element_of, attribute_of, same_space}
use Rattle.model.specs.Groups.{AttributeGroup, grouped, groups_from, groups_of}
use Rattle.attributes.specs.Attributes.{Given, namespace_of, given_of, delivered, givens_of, laid_givens, given_in, place_among, sections_with, stays_with, numbers_from, sections_after, code_namespaces, Sorted, sorted_in, all_sorted, section_place, sorted_of}
use Rattle.attributes.proofs.Giving.{GivenSmall, givens_back}
use Rattle.attributes.proofs.Numbering as numbering
use Rattle.attributes.proofs.Numbering.{number_in, numbers_final, numbers_long, numbers_back}

-- ---- lists
map_map : {A B C : Type 0} (f : B → C) (g : A → B) (l : List A) → map f (map g l) ≡ map (λ (x : A). f (g x)) l
map_map f g [] = refl
map_map f g (x ∷ l) = ap (λ (r : List _). f (g x) ∷ r) (map_map f g l)

map_same : {A B : Type 0} (f g : A → B) → ((x : A) → f x ≡ g x) → (l : List A) → map f l ≡ map g l
map_same f g h [] = refl
map_same f g h (x ∷ l) = ap (λ (y : _). y ∷ map f l) (h x) ∙ ap (λ (r : List _). g x ∷ r) (map_same f g h l)

map_long : {A B : Type 0} (f : A → B) (l : List A) → length (map f l) ≡ length l
map_long f [] = refl
map_long f (x ∷ l) = ap suc (map_long f l)

kept_map : {A B : Type 0} (d : A → Bool) (g : A → B) (l : List A) → gather (kept_of d g) l ≡ map g (keep (λ (x : A). not (d x)) l)
unfolding gather keep
kept_map d g [] = refl
kept_map d g (x ∷ l) = by (d x) (kept_map d g l)
  where
    by : (b : Bool) → gather (kept_of d g) l ≡ map g (keep (λ (y : _). not (d y)) l)
        → cond b [] (g x ∷ []) ++ gather (kept_of d g) l ≡ map g (cond (not b) (x ∷ keep (λ (y : _). not (d y)) l) (keep (λ (y : _). not (d y)) l))
    by true ih = ih
    by false ih = ap (λ (r : List _). g x ∷ r) ih

-- what two lists of functions give, the second told by the first
tab_both : {A C : Type 0} (F : A → ℕ → C) (f : ℕ → A) (g : ℕ → ℕ) (h : A → ℕ) (k n : ℕ) → tabulate g k n ≡ map h (tabulate f k n)
    → tabulate (λ (j : ℕ). F (f j) (g j)) k n ≡ map (λ (x : A). F x (h x)) (tabulate f k n)
unfolding tabulate
tab_both F f g h k zero e = refl
tab_both F f g h k (suc n) e =
    let z : g k ≡ h (f k) = ap (λ (l : List ℕ). get_or l 0 0) e in
    ap (λ (c : ℕ). F (f k) c ∷ tabulate (λ (j : ℕ). F (f j) (g j)) (suc k) n) z
    ∙ ap (λ (l : List _). F (f k) (h (f k)) ∷ l) (tab_both F f g h (suc k) n (ap (λ (l : List ℕ). drop 1 l) e))

-- ---- what the arrays' numbers hold
module _ (table : List ℕ) (a : Accepted table ≡ true) (s : List ℕ) where
  pub class_few : (n : Namespace) → (space_of (decode table) s n).class < 256
  unfolding space_of
  class_few n = ⊎_elim (λ l. omega (arith, (header_in table a).few_namespaces)) (λ r. ⊎_elim (λ e. omega arith) (λ e. omega arith) r) (class_in_lem table a (uri_of s n))

pub uri_within : (t : Table) (s : List ℕ) (n : Namespace) → SpanHeld s (uri_span n) → SpanHeld s (space_of t s n).uri
unfolding space_of
uri_within t s n h = holds_cond (SpanHeld s) (eqb (class_of t (uri_of s n)) 255) (λ e. h) (λ e. omega arith)

pub uri_held : (t : Table) (s : List ℕ) (n : Namespace) → NamespaceHeld s n → SpanHeld s (space_of t s n).uri
uri_held t s n h = uri_within t s n (by n h)
  where
    by : (m : Namespace) → NamespaceHeld s m → SpanHeld s (uri_span m)
    by nothing k = omega arith
    by xml k = omega arith
    by (declared w) k = k

-- an attribute's code
abbrev pub CodeSmall : Coded → Type 0
CodeSmall c = c.code < 82

abbrev made : List ℕ → List ℕ → List ℕ → Coded → scene.ReadAttribute
made s own open' c = attribute c.attr (namespace_of own open' c.code)

pub kept_are : (s own open' : List ℕ) (cs : List Coded) → attributes_in s own open' cs ≡ map (made s own open') (keep (delivered s) cs)
kept_are s own open' cs = kept_map (λ (c : Coded). is_declaration (kind_of s c.attr.name)) (made s own open') cs

module _ (table : List ℕ) (a : Accepted table ≡ true) (s own open' : List ℕ) (few : length s < 2 ^ 32) where
  given_small : (c : Coded) → AttributeHeld s (made s own open' c) → CodeSmall c → GivenSmall (given_of (decode table) s own open' c)
  given_small c h k =
      let u : SpanHeld s (space_of (decode table) s (namespace_of own open' c.code)).uri = uri_held (decode table) s (namespace_of own open' c.code) h.namespace in
      record {
        part_at = omega (arith, h.part);
        part_len = omega (arith, h.part);
        value_at = omega (arith, h.value);
        value_len = omega (arith, h.value);
        class_in_lem = class_few table a s (namespace_of own open' c.code);
        uri_at_lem = omega (arith, u);
        uri_len_lem = omega (arith, u);
        code_in = omega arith;
      }

  pub givens_small : (cs : List Coded) → All (AttributeHeld s) (attributes_in s own open' cs) → All CodeSmall cs → All GivenSmall (givens_of (decode table) s own open' cs)
  unfolding givens_of keep
  givens_small cs h k = each cs (subst (All (AttributeHeld s)) (kept_are s own open' cs) h) k
    where
      each : (l : List Coded) → All (AttributeHeld s) (map (made s own open') (keep (delivered s) l)) → All CodeSmall l → All GivenSmall (map (given_of (decode table) s own open') (keep (delivered s) l))
      each [] p q = tt
      each (c ∷ l) p q = by (delivered s c) p (λ r. each l r q.1)
        where
          by : (b : Bool) → All (AttributeHeld s) (map (made s own open') (cond b (c ∷ keep (delivered s) l) (keep (delivered s) l)))
              → (All (AttributeHeld s) (map (made s own open') (keep (delivered s) l)) → All GivenSmall (map (given_of (decode table) s own open') (keep (delivered s) l)))
              → All GivenSmall (map (given_of (decode table) s own open') (cond b (c ∷ keep (delivered s) l) (keep (delivered s) l)))
          by true r ih = (given_small c r.0 q.0, ih r.1)
          by false r ih = ih r

-- codes that `resolve` gives are small
module _ (s own : List ℕ) (owned : ℕ) (open' : List ℕ) (bound : ℕ) where
  no_codes : (l : List Attr) → All CodeSmall (coded l [])
  no_codes [] = tt
  no_codes (a ∷ l) = (omega arith, no_codes l)

  pub codes_small : (l : List Attr) → All CodeSmall (coded l (codes_of s own owned open' bound l))
  unfolding codes_of
  codes_small [] = tt
  codes_small (a ∷ l) = by (found_attribute s own owned open' bound a.name) (attribute_in_range s own owned open' bound a.name) (codes_small l)
    where
      by : (f : Found) → InRange f → All CodeSmall (coded l (codes_of s own owned open' bound l))
          → All CodeSmall (coded (a ∷ l) (code_then f (codes_of s own owned open' bound l)))
      by found.Nothing h ih = (omega arith, ih)
      by found.Xml h ih = (omega arith, ih)
      by (found.Own k) h ih = (omega arith, ih)
      by (found.Open k) h ih = (omega arith, ih)
      by found.Unbound h ih = (omega arith, no_codes l)

-- ---- the model's sections and the namespaces of ours
module _ (t : Table) (s : List ℕ) where
  abbrev Spaces : List AttributeGroup → List Namespace → Type 0
  Spaces [] [] = Unit {0}
  Spaces [] (m ∷ ms) = ⊥
  Spaces (c ∷ cs) [] = ⊥
  Spaces (c ∷ cs) (m ∷ ms) = (c.space ≡ space_of t s m) × Spaces cs ms

  same_spaces : (v w : Space) (m n : Namespace) → v ≡ space_of t s m → w ≡ space_of t s n → same_space v w ≡ same_namespace s m n
  unfolding space_of same_namespace
  same_spaces v w m n p q = ap (λ (x : Space). same_space x w) p ∙ ap (same_space (space_of t s m)) q

  with_cons : (k : Namespace) (ms : List Namespace) (m : Namespace) → sections_with s (k ∷ ms) m ≡ cond (same_namespace s k m) (k ∷ ms) (k ∷ sections_with s ms m)
  unfolding any
  with_cons k ms m = by (same_namespace s k m) (any (λ (x : Namespace). same_namespace s x m) ms)
    where
      by : (b d : Bool) → cond (b || d) (k ∷ ms) (k ∷ (ms ++ (m ∷ []))) ≡ cond b (k ∷ ms) (k ∷ cond d ms (ms ++ (m ∷ [])))
      by true d = refl
      by false true = refl
      by false false = refl

  placed_with : (a : Attribute) (m : Namespace) → a.space ≡ space_of t s m → (cs : List AttributeGroup) (ms : List Namespace) → Spaces cs ms → Spaces (grouped cs a) (sections_with s ms m)
  unfolding any grouped
  placed_with a m e [] [] h = (e, tt)
  placed_with a m e [] (x ∷ ms) h = absurd h
  placed_with a m e (c ∷ cs) [] h = absurd h
  placed_with a m e (c ∷ cs) (x ∷ ms) h =
      subst (Spaces (grouped (c ∷ cs) a)) (sym (with_cons x ms m)) (by (same_space c.space a.space) (same_namespace s x m) (same_spaces c.space a.space x m h.0 e) (placed_with a m e cs ms h.1))
    where
      by : (b d : Bool) → b ≡ d → Spaces (grouped cs a) (sections_with s ms m)
          → Spaces (cond b (record { space = c.space; members = c.members ++ (a ∷ []) } ∷ cs) (c ∷ grouped cs a)) (cond d (x ∷ ms) (x ∷ sections_with s ms m))
      by true true q ih = h
      by false false q ih = (h.0, ih)
      by true false q ih = absurd (let z : ◌≡◌ {A = ℕ} 0 1 = cc in omega arith)
      by false true q ih = absurd (let z : ◌≡◌ {A = ℕ} 0 1 = cc in omega arith)

  place_are : (a : Attribute) (m : Namespace) → a.space ≡ space_of t s m → (cs : List AttributeGroup) (ms : List Namespace) → Spaces cs ms → (k : ℕ)
      → section_place (suc k) cs a ≡ suc (place_among s m k ms)
  unfolding section_place place_among
  place_are a m e [] [] h k = refl
  place_are a m e [] (x ∷ ms) h k = absurd h
  place_are a m e (c ∷ cs) [] h k = absurd h
  place_are a m e (c ∷ cs) (x ∷ ms) h k = rw (same_spaces c.space a.space x m h.0 e) (by (same_namespace s x m) (place_are a m e cs ms h.1 (suc k)))
    where
      by : (b : Bool) → section_place (suc (suc k)) cs a ≡ suc (place_among s m (suc k) ms) → cond b (suc k) (section_place (suc (suc k)) cs a) ≡ suc (cond b k (place_among s m (suc k) ms))
      by true ih = refl
      by false ih = ih

  spaces_long : (cs : List AttributeGroup) (ms : List Namespace) → Spaces cs ms → length ms ≡ length cs
  spaces_long [] [] h = refl
  spaces_long [] (x ∷ ms) h = absurd h
  spaces_long (c ∷ cs) [] h = absurd h
  spaces_long (c ∷ cs) (x ∷ ms) h = ap suc (spaces_long cs ms h.1)

  -- the element whose attributes these are
  abbrev pub element_in : Namespace → ℕ → Span → List scene.ReadAttribute → Element
  element_in n at part as' = record { at = at; part = part; space = space_of t s n; attributes = map (attribute_of t s) as' }

  pub element_is : (e : Start) → element_of t s e ≡ element_in e.namespace e.at e.part e.attributes
  unfolding element_of
  element_is e = refl

  module _ (n : Namespace) where
    abbrev apart : Attribute → Bool
    apart a = not (not a.prefixed || same_space (space_of t s n) a.space)

    matching : (as' : List scene.ReadAttribute) (cs : List AttributeGroup) (ms : List Namespace) → Spaces cs ms
        → Spaces (groups_from cs (keep apart (map (attribute_of t s) as'))) (sections_after s n ms (map (λ (x : scene.ReadAttribute). x.namespace) as'))
    unfolding groups_from sections_after keep attribute_of space_of same_namespace
    matching [] cs ms h = h
    matching (x ∷ as') cs ms h =
        by (stays_with s n x.namespace) (matching as' cs ms h)
        (matching as' (grouped cs (attribute_of t s x)) (sections_with s ms x.namespace) (placed_with (attribute_of t s x) x.namespace refl cs ms h))
      where
        rest : List Attribute
        rest = keep apart (map (attribute_of t s) as')

        ns : List Namespace
        ns = map (λ (y : scene.ReadAttribute). y.namespace) as'

        by : (b : Bool) → Spaces (groups_from cs rest) (sections_after s n ms ns)
            → Spaces (groups_from (grouped cs (attribute_of t s x)) rest) (sections_after s n (sections_with s ms x.namespace) ns)
            → Spaces (groups_from cs (cond (not b) (attribute_of t s x ∷ rest) rest)) (cond b (sections_after s n ms ns) (sections_after s n (sections_with s ms x.namespace) ns))
        by true p q = p
        by false p q = q

    module _ (own open' : List ℕ) (at : ℕ) (part : Span) (cs : List Coded) where
      abbrev as' : List scene.ReadAttribute
      as' = attributes_in s own open' cs

      abbrev σ : Element
      σ = element_in n at part as'

      abbrev gs : List Given
      gs = givens_of t s own open' cs

      abbrev ns : List Namespace
      ns = code_namespaces own open' gs

      spaces_are : map (λ (x : scene.ReadAttribute). x.namespace) as' ≡ ns
      unfolding givens_of
      spaces_are =
          ap (map (λ (x : scene.ReadAttribute). x.namespace)) (kept_are s own open' cs)
          ∙ map_map (λ (x : scene.ReadAttribute). x.namespace) (made s own open') (keep (delivered s) cs)
          ∙ sym (map_map (λ (g : Given). namespace_of own open' g.code) (given_of t s own open') (keep (delivered s) cs))

      sections_match : Spaces (groups_of σ) (sections_after s n [] ns)
      unfolding groups_of
      sections_match = subst (λ (l : List Namespace). Spaces (groups_of σ) (sections_after s n [] l)) spaces_are (matching as' [] [] tt)

      pub sections_are : length (sections_after s n [] ns) ≡ length (groups_of σ)
      sections_are = spaces_long (groups_of σ) (sections_after s n [] ns) sections_match

      pub sections_few : length gs ≤ 16 → length (sections_after s n [] ns) ≤ 16
      sections_few h = omega (arith, numbering.sections_few s n [] ns, map_long (λ (g : Given). namespace_of own open' g.code) gs)

      -- an attribute with its section
      abbrev number_of : Given → ℕ
      number_of g = number_in s n (sections_after s n [] ns) (namespace_of own open' g.code)

      abbrev sorted : Given → ℕ → Sorted
      sorted g c = record { part = g.part; value = g.value; class = g.class; uri = g.uri; section = c }

      sorted_one : (c : Coded) → sorted (given_of t s own open' c) (number_of (given_of t s own open' c)) ≡ sorted_of σ (attribute_of t s (made s own open' c))
      unfolding attribute_of space_of same_namespace
      sorted_one c =
          let m : Namespace = namespace_of own open' c.code in
          let e : suc (place_among s m 0 (sections_after s n [] ns)) ≡ section_place 1 (groups_of σ) (attribute_of t s (made s own open' c)) =
          sym (place_are (attribute_of t s (made s own open' c)) m refl (groups_of σ) (sections_after s n [] ns) sections_match 0) in
          ap (λ (k : ℕ). sorted (given_of t s own open' c) (cond (stays_with s n m) 0 k)) e

      numbers_are : numbers_from s n [] ns ≡ map number_of gs
      numbers_are = numbers_final s n [] ns ∙ map_map (number_in s n (sections_after s n [] ns)) (λ (g : Given). namespace_of own open' g.code) gs

      numbers_count : length (numbers_from s n [] ns) ≡ length gs
      numbers_count = numbers_long s n [] ns ∙ map_long (λ (g : Given). namespace_of own open' g.code) gs

      pub sorted_are : (attributes sections : List ℕ) → All GivenSmall gs
          → all_sorted (laid_givens gs attributes) (overwrite sections 0 (numbers_from s n [] ns)) (length gs) ≡ map (sorted_of σ) σ.attributes
      unfolding sorted_in givens_of
      sorted_are attributes sections small =
          let l : List ℕ = laid_givens gs attributes in
          let r : List ℕ = overwrite sections 0 (numbers_from s n [] ns) in
          let back : tabulate (given_in l) 0 (length gs) ≡ gs = givens_back gs attributes small in
          let counts : tabulate (λ (k : ℕ). get_or r k 0) 0 (length gs) ≡ map number_of (tabulate (given_in l) 0 (length gs)) =
          ap (tabulate (λ (k : ℕ). get_or r k 0) 0) (sym numbers_count) ∙ numbers_back sections (numbers_from s n [] ns) ∙ numbers_are ∙ ap (map number_of) (sym back) in
          tab_both sorted (given_in l) (λ (k : ℕ). get_or r k 0) number_of 0 (length gs) counts
          ∙ ap (map (λ (g : Given). sorted g (number_of g))) back
          ∙ map_map (λ (g : Given). sorted g (number_of g)) (given_of t s own open') (keep (delivered s) cs)
          ∙ map_same (λ (c : Coded). sorted (given_of t s own open' c) (number_of (given_of t s own open' c))) (λ (c : Coded). sorted_of σ (attribute_of t s (made s own open' c))) sorted_one (keep (delivered s) cs)
          ∙ sym (map_map (sorted_of σ) (λ (c : Coded). attribute_of t s (made s own open' c)) (keep (delivered s) cs))
          ∙ ap (map (sorted_of σ)) (sym (map_map (attribute_of t s) (made s own open') (keep (delivered s) cs)))
          ∙ ap (λ (x : List scene.ReadAttribute). map (sorted_of σ) (map (attribute_of t s) x)) (sym (kept_are s own open' cs))
