-- A start tag as the code reads it, into arrays of numbers, is what the reader's rules say of it.
--     TagTold, tag_told                 a tag that was read: its names have prefixes with bytes, its places are small, its attributes are few
--     attrs_back                        the attributes in the array are those that were read
--     bindings_open                     the open bindings are those that the scope's array holds
--     next_begun                        the reader's next event
--     Given, element_given              what `meaning` gives, and gives of an element
--     own_few, own_laid                 its declarations, and their numbers in the array
use Prim.Native.Nat.{ℕ, ◌+◌, ◌*◌, ◌≤◌, ◌<◌}
use mathlib.Core.Path.{◌≡◌, refl, ap, subst, ◌∙◌}
use mathlib.Core.List.{List, ◌++◌}
use mathlib.Core.Bool.{Bool, true, false, cond, not}
use mathlib.Core.Logic.{⊎_elim}
use native.Mathlib.Omega.{arith}
use borrow.Author.Tests.{ltb-false}
use lib.Dec.{ltb}
use lib.ListN.{length, take, drop}
use lib.Seq.{take_all, take-append-le}
use Rattle.std.specs.Prelude.{Result, Ok, Err}
use Rattle.laws.specs.Lists.{any}
use Rattle.laws.specs.Gather.{gather}
use Rattle.laws.specs.Members.{All}
use Rattle.laws.specs.Over.{overwrite}
use Rattle.laws.proofs.Elementwise.{each_map}
use Rattle.lexer.specs.Attrs.{laid, attrs_in}
use Rattle.lexer.specs.Tags.{tag_at}
use Rattle.lexer.specs.Begins.{begin_at}
use Rattle.lexer.specs.declared.Name.{Name}
use Rattle.lexer.specs.declared.Attr.{Attr}
use Rattle.lexer.specs.declared.Tag.{Tag}
use Rattle.lexer.proofs.Arrays.{laid_there}
use Rattle.lexer.proofs.Inside.{PrefixTo, NameInside, AttrBehind, TagInside, TaggedInside, TagReadInside, tag_inside}
use Rattle.reader.specs.declared.Binding.{Binding}
use Rattle.reader.specs.declared.Scope.{Scope}
use Rattle.reader.specs.declared.Found.{Found}
use Rattle.reader.specs.declared.Element.{Element}
use Rattle.reader.specs.declared.NamespaceError.{NamespaceError}
use Rattle.reader.specs.declared.NamespaceError.TheVariants.{BadPrefix, Duplicate}
use Rattle.reader.specs.Namespaces.{declarations_of, refused_binding}
use Rattle.reader.specs.Stored.{bindings_in, binding_numbers, laid_bindings, fitting, found_element, codes_of, coded, twice_in, is_unbound, element_with, meant_of, codes_after}
use Rattle.reader.specs.Known.{keys_in}
use Rattle.reader.specs.Events.{ReaderState, bindings_of, is_nil, read_at, next_by, next}
use Rattle.reader.specs.Scope.{opens_of}
use Rattle.reader.proofs.Laying.{fitting_whole, four_long}
use Rattle.reader.proofs.Declaring.{declared_few}
use Rattle.reader.proofs.LaidBack.{SmallAttr}
use Rattle.reader.proofs.Agree.{Named, named_in}
use Rattle.reader.proofs.Whole.{coded_more}
use Rattle.reader.proofs.Opens.{CountedScope, opens_bindings}

-- ---- a tag that was read
pub record TagTold (s : List ℕ) (t : Tag) (attrs : List Attr) : Type 0 where
  pub name : Named s t.name
  pub names : All (λ (a : Attr). Named s a.name) attrs
  pub small : All SmallAttr attrs
  pub few : length attrs ≤ 16
  pub counted : t.count ≡ length attrs

-- a prefix that was read has bytes
pub name_told : (s : List ℕ) (at : ℕ) (n : Name) → NameInside s at n → Named s n
name_told s at n h = named_in s n (λ lt. ⊎_elim (λ e. absurd (omega arith)) (λ f. behind f) h.first)
  where
    behind : PrefixTo s at n.part → (n.at + 1 < n.part) × (n.at < length s)
    behind f = (omega arith, omega arith)

pub attr_small : (s : List ℕ) (at : ℕ) → length s ≤ 16777215 → (a : Attr) → AttrBehind s at a → SmallAttr a
attr_small s at short a h =
    let i = h.1 in
    let n = i.name in
    record { part = omega arith; end = omega arith; value = omega arith; stop = omega arith }

module _ (s : List ℕ) (short : length s ≤ 16777215) (at : ℕ) (t : Tag) (e : (tag_at s at).answer ≡ Ok t) where
  pub tag_told : TagTold s t (tag_at s at).attrs
  tag_told =
      let i : TagReadInside s at (tag_at s at) = tag_inside s at in
      let tag : TagInside s at (tag_at s at).attrs t = subst (TaggedInside s at (tag_at s at).attrs) e i.answer in
      record {
        name = name_told s at t.name tag.name;
        names = each_map (AttrBehind s at) (λ (a : Attr). Named s a.name) (λ a h. name_told s a.name.at a.name h.1.name) (tag_at s at).attrs i.each;
        small = each_map (AttrBehind s at) SmallAttr (attr_small s at short) (tag_at s at).attrs i.each;
        few = i.few;
        counted = tag.counted;
      }

  pub attrs_back : (array : List ℕ) → attrs_in (laid (tag_at s at).attrs array) t.count ≡ (tag_at s at).attrs
  attrs_back array =
      ap (attrs_in (laid (tag_at s at).attrs array)) tag_told.counted ∙ laid_there (tag_at s at).attrs array tag_told.few

pub bindings_open : (sc : Scope) → CountedScope sc → bindings_of (opens_of sc) ≡ bindings_in sc.bindings sc.bound
bindings_open sc c = opens_bindings sc c

-- ---- the reader's next event, where no end is awaited
pub next_begun : (s : List ℕ) (z : ReaderState) → z.awaited ≡ false → next s z ≡ read_at s z (begin_at s z.place (not (is_nil z.opened)) z.closed)
unfolding next
next_begun s z e = ap (λ (b : Bool). next_by s z b z.opened) e

-- ---- what it means
-- what `meaning` gives and leaves in its arrays, of a name and attributes
abbrev pub Given : List ℕ → Name → List Attr → List ℕ → List ℕ → ℕ → List ℕ → List ℕ → Result Element NamespaceError → List ℕ → List ℕ → List ℕ → Type 0
Given s n attrs own open' bound codes known m own' codes' known' =
    let ds = declarations_of s attrs in
    let down = laid_bindings (fitting s ds) own in
    let refused = any (refused_binding s) ds in
    (m ≡ cond refused (Err BadPrefix) (meant_of s down (length ds) open' bound n attrs))
    × (own' ≡ down)
    × (codes' ≡ cond refused codes (codes_after s down (length ds) open' bound n attrs codes))
    × (known' ≡ cond refused known (overwrite known bound (keys_in s down (length ds))))

-- an element: none of its declarations is refused, all are counted, and each attribute has a code
pub record ElementGiven (s : List ℕ) (n : Name) (attrs : List Attr) (open' : List ℕ) (bound : ℕ) (known : List ℕ) (f : Found) (owned : ℕ) (own' codes' known' : List ℕ) : Type 0 where
  pub none_refused : any (refused_binding s) (declarations_of s attrs) ≡ false
  pub owned_is : owned ≡ length (declarations_of s attrs)
  pub found_is : f ≡ found_element s own' owned open' bound n
  pub each_coded : length attrs ≤ length (codes_of s own' owned open' bound attrs)
  pub codes_are : coded attrs codes' ≡ coded attrs (codes_of s own' owned open' bound attrs)
  pub known_is : known' ≡ overwrite known bound (keys_in s own' owned)

pub element_given : (s : List ℕ) (n : Name) (attrs : List Attr) (own open' : List ℕ) (bound : ℕ) (codes known : List ℕ) (f : Found) (owned : ℕ) (own' codes' known' : List ℕ)
    → Given s n attrs own open' bound codes known (Ok (element_with f owned)) own' codes' known'
    → ElementGiven s n attrs open' bound known f owned own' codes' known'
unfolding meant_of codes_after
element_given s n attrs own open' bound codes known f owned own' codes' known' g =
    let ds : List Binding = declarations_of s attrs in
    let down : List ℕ = laid_bindings (fitting s ds) own in
    let cs : List ℕ = codes_of s down (length ds) open' bound attrs in
    let h = cases (any (refused_binding s) ds) (is_unbound (found_element s down (length ds) open' bound n)) (ltb (length cs) (length attrs)) (twice_in s down open' attrs cs) (found_element s down (length ds) open' bound n) (length ds) g.0 in
    let whole : length attrs ≤ length cs = ltb-false (length cs) (length attrs) h.2 in
    let after : codes' ≡ cs ++ drop (length cs) codes = g.2 ∙ rw (h.0, h.1) in
    record {
      none_refused = h.0;
      owned_is = h.3;
      found_is = rw (h.3, g.1) h.4;
      each_coded = rw (h.3, g.1) whole;
      codes_are = rw (h.3, g.1) (ap (coded attrs) after ∙ coded_more attrs cs (drop (length cs) codes) whole);
      known_is = rw (h.3, g.1) (g.3 ∙ rw h.0);
    }
  where
    cases : (r u t w : Bool) (x : Found) (k : ℕ)
        → Ok (element_with f owned) ≡ cond r (Err BadPrefix) (cond u (Err BadPrefix) (cond t (Err BadPrefix) (cond w (Err Duplicate) (Ok (element_with x k)))))
        → (r ≡ false) × (u ≡ false) × (t ≡ false) × (owned ≡ k) × (f ≡ x)
    cases true u t w x k e = absurd (let z : ◌≡◌ {A = ℕ} 0 1 = cc in omega arith)
    cases false true t w x k e = absurd (let z : ◌≡◌ {A = ℕ} 0 1 = cc in omega arith)
    cases false false true w x k e = absurd (let z : ◌≡◌ {A = ℕ} 0 1 = cc in omega arith)
    cases false false false true x k e = absurd (let z : ◌≡◌ {A = ℕ} 0 1 = cc in omega arith)
    cases false false false false x k e =
        let p : element_with f owned ≡ element_with x k = cc in
        (refl, refl, refl, ap (λ (y : Element). y.owned) p, ap (λ (y : Element). y.found) p)

-- ---- its declarations
pub own_few : (s : List ℕ) (t : Tag) (attrs : List Attr) → TagTold s t attrs → length (declarations_of s attrs) ≤ 16
own_few s t attrs k = omega (arith, declared_few s attrs, k.few)

-- where none is refused
module _ (s : List ℕ) (ds : List Binding) (own : List ℕ) (fit : any (refused_binding s) ds ≡ false) where
  pub own_laid : take (4 * length ds) (laid_bindings (fitting s ds) own) ≡ gather binding_numbers ds
  unfolding laid_bindings
  own_laid =
      rw (fitting_whole s ds fit)
      (take-append-le (4 * length ds) (gather binding_numbers ds) (drop (4 * length ds) own) (omega (arith, four_long ds)) ∙ take_all (4 * length ds) (gather binding_numbers ds) (omega (arith, four_long ds)))
