-- What reading a start tag comes to.
--     known_beside                                the keys and classes of the open bindings stay where a tag's keys are laid down
--     start_read_lem, refused_read                    a tag that was read, by what it means
--     attrs_read, answer_read, stopped_read       a tag, by what reading it answers
use Prim.Native.Nat.{ℕ, ◌+◌, ◌-◌, ◌*◌, ◌≤◌, ◌<◌}
use mathlib.Core.Path.{◌≡◌, sym, ap, ap₂, subst, ◌∙◌}
use mathlib.Core.List.{List, [], ◌∷◌}
use mathlib.Core.Bool.{Bool, true, false, cond}
use mathlib.Core.Logic.{inl}
use native.Mathlib.Omega.{arith}
use borrow.Author.Tests.{leb-true, le-leb}
use lib.ListN.{length, get_or, take}
use Rattle.std.specs.Prelude.{Result, Ok, Err}
use Rattle.laws.specs.Lists.{any}
use Rattle.laws.specs.Lists as lists
use Rattle.laws.specs.Members.{All}
use Rattle.laws.specs.Over.{overwrite}
use Rattle.laws.proofs.Over.{length_over, get_d_over_after}
use Rattle.laws.proofs.Elementwise.{each_map}
use Rattle.table.specs.Table.{Table, decode}
use Rattle.table.specs.declared.Header.{Header}
use Rattle.lexer.specs.Attrs.{attrs_in, laid}
use Rattle.lexer.specs.Tags.{tag_at}
use Rattle.lexer.specs.declared.Attr.{Attr}
use Rattle.lexer.specs.declared.Stop.{Stop}
use Rattle.lexer.specs.declared.Tag.{Tag}
use Rattle.lexer.specs.Reads.{Tagged}
use Rattle.lexer.proofs.Inside.{TagInside, TaggedInside, TagReadInside, tag_inside}
use Rattle.reader.specs.declared.Binding.{Binding}
use Rattle.reader.specs.declared.Found.{Found}
use Rattle.reader.specs.declared.Found.TheVariants as found
use Rattle.reader.specs.declared.Element.{Element}
use Rattle.reader.specs.declared.NamespaceError.{NamespaceError}
use Rattle.reader.specs.declared.NamespaceError.TheVariants.{BadPrefix, Duplicate}
use Rattle.reader.specs.Spans.{whole_span, part_span}
use Rattle.reader.specs.Namespaces.{Namespace, nothing, xml, declared, ReadAttribute, declarations_of, refused_binding, meant, meaning_of}
use Rattle.reader.specs.Stored.{at_most, Coded, coded, codes_of, code_then, found_attribute, found_in, element_with, meant_number, stored_space, laid_bindings, fitting}
use Rattle.reader.specs.Known.{Within, keys_in, plain_attr}
use Rattle.reader.specs.Events.{bindings_of, start_read, start_meant}
use Rattle.reader.specs.Scope.{opens_of}
use Rattle.reader.specs.Held.{SpanHeld}
use Rattle.reader.proofs.Numbers.{InRange, attribute_in_range, codes_within}
use Rattle.reader.proofs.LaidBack.{small_declared}
use Rattle.reader.proofs.AgreeWhole.{attributes_in, as_meaning, meaning_agrees}
use Rattle.reader.proofs.TagMeaning.{NamespaceHeld, AttributeHeld, MeaningHeld, meaning_held}
use Rattle.reader.proofs.Held.{bindings_in_lem}
use Rattle.model.specs.Elements.{uri_span}
use Rattle.attributes.proofs.Sorted.{kept_are}
use Rattle.sessions.specs.Sessions.{session_of}
use Rattle.sessions.specs.Stepping as plan
use Rattle.sessions.specs.Stepping.{plan_by, start_plan}
use Rattle.sessions.specs.Turns.{refusal_of, TurnReady, Beside, start_of, Told, Met, ReadAs}
use Rattle.sessions.specs.Session.{Session}
use Rattle.sessions.specs.declared.Head.{Head}
use Rattle.sessions.specs.declared.Refusal.{Refusal}
use Rattle.sessions.specs.declared.Started.{Started}
use Rattle.sessions.proofs.Clauses.{Clauses, clauses}
use Rattle.sessions.proofs.CoherentSound.{counted, opened}
use Rattle.sessions.proofs.EventTurns.{stop_nonzero}
use Rattle.starts.proofs.TagMeant.{TagTold, tag_told, attrs_back, bindings_open, Given, ElementGiven, element_given, own_few, own_laid}
use Rattle.reader.proofs.Within.{element_within}
use Rattle.reader.proofs.Plain.{plain_zeros}
use Rattle.reader.proofs.Known.{keys_many, keys_laid, keys_kept}

-- ---- codes
-- each attribute has one of these
coded_each : (P : ℕ → Type 0) (l : List Attr) (cs : List ℕ) → length l ≤ length cs → All P cs → All (λ (c : Coded). P c.code) (coded l cs)
coded_each P [] cs h k = tt
coded_each P (a ∷ l) [] h k = absurd (omega arith)
coded_each P (a ∷ l) (c ∷ cs) h k = (k.0, coded_each P l cs (omega arith) k.1)

-- they are small
then_small : (f : Found) (l : List ℕ) → InRange f → All (λ (c : ℕ). c < 82) l → All (λ (c : ℕ). c < 82) (code_then f l)
then_small found.Nothing l r h = (omega arith, h)
then_small found.Xml l r h = (omega arith, h)
then_small (found.Own k) l r h = (omega arith, h)
then_small (found.Open k) l r h = (omega arith, h)
then_small found.Unbound l r h = tt

codes_small : (s own : List ℕ) (owned : ℕ) (outer : List ℕ) (bound : ℕ) (l : List Attr) → All (λ (c : ℕ). c < 82) (codes_of s own owned outer bound l)
unfolding codes_of
codes_small s own owned outer bound [] = tt
codes_small s own owned outer bound (a ∷ l) =
    then_small (found_attribute s own owned outer bound a.name) (codes_of s own owned outer bound l) (attribute_in_range s own owned outer bound a.name) (codes_small s own owned outer bound l)

-- a limit that is not reached
below_most : (most n : ℕ) → n ≤ most → at_most most n ≡ n
below_most most n h = rw (le-leb n most h)

within_all : (owned bound : ℕ) → owned ≤ 16 → bound ≤ 64 → (f : Found) → Within (at_most 16 owned) (at_most 64 bound) f → Within owned bound f
within_all owned bound few room f h =
    subst (λ (b : ℕ). Within owned b f) (below_most 64 bound room) (subst (λ (a : ℕ). Within a (at_most 64 bound) f) (below_most 16 owned few) h)

space_inside : (s : List ℕ) (n : Namespace) → NamespaceHeld s n → SpanHeld s (uri_span n)
space_inside s nothing h = omega arith
space_inside s xml h = omega arith
space_inside s (declared w) h = h

-- ---- what is kept beside the open bindings
over_behind : (l : List ℕ) (at : ℕ) (ys : List ℕ) (k : ℕ) → at ≤ length l → at + length ys ≤ k → get_or (overwrite l at ys) k 0 ≡ get_or l k 0
over_behind l at ys k h le =
    let e : at + length ys + (k - (at + length ys)) ≡ k = omega arith in
    subst (λ (i : ℕ). get_or (overwrite l at ys) i 0 ≡ get_or l i 0) e (get_d_over_after l at ys (k - (at + length ys)) 0 h)

-- keys of at most sixteen more
pub known_beside : (table s : List ℕ) (z : Session) (known known' own : List ℕ) (n : ℕ) (refused : Bool) → z.scope.bound ≤ 64 → n ≤ 16
    → known' ≡ cond refused known (overwrite known z.scope.bound (keys_in s own n)) → Beside table s known z → Beside table s known' z
known_beside table s z known known' own n true room few e b = subst (λ (l : List ℕ). Beside table s l z) (sym e) b
known_beside table s z known known' own n false room few e b =
    let bound : ℕ = z.scope.bound in
    let inside : bound + length (keys_in s own n) ≤ 80 = omega (arith, keys_many s own n) in
    record {
      bindings_long = b.bindings_long;
      known_long = ap length e ∙ length_over known bound (keys_in s own n) (omega (arith, b.known_long)) ∙ b.known_long;
      keys = keys_kept s z.scope.bindings bound 0 known known' bound (keys_in s own n) (omega (arith, b.known_long)) (inl (omega arith)) e b.keys;
      classes = λ k l. ap (λ (x : List ℕ). get_or x (80 + 0 + k) 0) e ∙ over_behind known bound (keys_in s own n) (80 + 0 + k) (omega (arith, b.known_long)) (omega arith) ∙ b.classes k l;
    }

-- ---- a tag that was read
-- what `meaning` answers and leaves in its arrays, of the tag whose < stands at a place
module _ (table : List ℕ) (header : Header) (index s : List ℕ) (head : Head) (levels bindings spaces strands : List ℕ)
    (r : TurnReady table header index s (session_of head levels bindings spaces strands))
    (at : ℕ) (tag : Tag) (attrs : List ℕ) (lt : at + 1 ≤ length s) (e : (tag_at s (at + 1)).answer ≡ Ok tag) (back : attrs_in attrs tag.count ≡ (tag_at s (at + 1)).attrs)
    (own₀ codes₀ known₀ : List ℕ) (b : Beside table s known₀ (session_of head levels bindings spaces strands))
    (m : Result Element NamespaceError) (own codes known : List ℕ) (g : Given s tag.name (attrs_in attrs tag.count) own₀ bindings head.bound codes₀ known₀ m own codes known) where
  abbrev t : Table
  t = decode table

  abbrev z : Session
  z = session_of head levels bindings spaces strands

  abbrev all : List Attr
  all = attrs_in attrs tag.count

  abbrev ds : List Binding
  ds = declarations_of s all

  clear : Clauses t s z
  clear = clauses t s z r.coherent'

  bound_few : head.bound ≤ 64
  bound_few = leb-true head.bound 64 clear.bound

  tag_is : TagTold s tag all
  tag_is = subst (TagTold s tag) (sym back) (tag_told s r.short (at + 1) tag e)

  few_own : length ds ≤ 16
  few_own = own_few s tag all tag_is

  still_beside : Beside table s known z
  still_beside = known_beside table s z known₀ known (laid_bindings (fitting s ds) own₀) (length ds) (any (refused_binding s) ds) bound_few few_own g.3 b

  means : meaning_of s (bindings_of (opens_of z.scope)) tag.name (tag_at s (at + 1)).attrs ≡ as_meaning own bindings (attributes_in s own bindings (coded all codes)) ds m
  means =
      ap₂ (λ (bs : List Binding) (l : List Attr). meaning_of s bs tag.name l) (bindings_open z.scope (counted t s z clear)) (sym back)
      ∙ meaning_agrees s own₀ bindings codes₀ head.bound tag.name all tag_is.few bound_few (small_declared s all tag_is.small) tag_is.name tag_is.names
      ∙ rw (g.0, g.1, g.2)

  inside : TagReadInside s (at + 1) (tag_at s (at + 1))
  inside = tag_inside s (at + 1)

  tag_in : TagInside s (at + 1) (tag_at s (at + 1)).attrs tag
  tag_in = subst (TaggedInside s (at + 1) (tag_at s (at + 1)).attrs) e inside.answer

  meaning_in : MeaningHeld s (as_meaning own bindings (attributes_in s own bindings (coded all codes)) ds m)
  meaning_in =
      subst (MeaningHeld s) means
      (meaning_held s (bindings_of (opens_of z.scope)) (bindings_in_lem s (opens_of z.scope) (opened t s z clear)) tag.name (at + 1) (tag_at s (at + 1)).attrs inside.each)

  read_as : start_read s at (opens_of z.scope) (tag_at s (at + 1)) (Ok tag) ≡ start_meant at (opens_of z.scope) tag (as_meaning own bindings (attributes_in s own bindings (coded all codes)) ds m)
  read_as = ap (start_meant at (opens_of z.scope) tag) means

  -- an element
  module _ (f : Found) (owned : ℕ) (q : m ≡ Ok (element_with f owned)) where
    given : ElementGiven s tag.name all bindings head.bound known₀ f owned own codes known
    given = element_given s tag.name all own₀ bindings head.bound codes₀ known₀ f owned own codes known (sym q ∙ g.0, g.1, g.2, g.3)

    owned_few : owned ≤ 16
    owned_few = omega (arith, given.owned_is, few_own)

    -- what the codes have, the attributes have
    coded_all : (P : ℕ → Type 0) → All P (codes_of s own owned bindings head.bound all) → All (λ (c : Coded). P c.code) (coded all codes)
    coded_all P h =
        subst (All (λ (c : Coded). P c.code)) (sym given.codes_are) (coded_each P all (codes_of s own owned bindings head.bound all) given.each_coded h)

    element_in_lem : NamespaceHeld s (stored_space own bindings f) × All (AttributeHeld s) (attributes_in s own bindings (coded all codes))
    element_in_lem =
        let k : MeaningHeld s (meant (stored_space own bindings f) (attributes_in s own bindings (coded all codes)) ds) = subst (λ (x : Result Element NamespaceError). MeaningHeld s (as_meaning own bindings (attributes_in s own bindings (coded all codes)) ds x)) q meaning_in in
        (k.0, k.1)

    tag_gives : Told s bindings own attrs codes at tag f owned ds
    tag_gives =
        let n = tag_in.name in
        record {
          owned_is = given.owned_is;
          few_own = few_own;
          own_laid = ap (take (4 * length ds)) g.1 ∙ own_laid s ds own₀ given.none_refused;
          at_inside = omega arith;
          name_inside = omega (arith, n.inside, n.some, n.onward, n.begins);
          part_inside = omega (arith, n.inside, n.some);
          uri_inside = space_inside s (stored_space own bindings f) element_in_lem.0;
          attributes_inside = subst (All (λ (a : ReadAttribute). SpanHeld s a.part × SpanHeld s a.value × SpanHeld s (uri_span a.namespace))) (kept_are s own bindings (coded all codes)) (each_map (AttributeHeld s) _ (λ a x. (x.part, x.value, space_inside s a.namespace x.namespace)) (attributes_in s own bindings (coded all codes)) element_in_lem.1);
          few_codes = coded_all (λ (c : ℕ). c < 82) (codes_small s own owned bindings head.bound all);
        }

    tag_plan : plan_by t s z (start_read s at (opens_of z.scope) (tag_at s (at + 1)) (Ok tag)) ≡ start_plan t s z (start_of s bindings own attrs codes at tag f) ds tag.next
    tag_plan =
        ap (plan_by t s z) (read_as ∙ ap (λ (x : Result Element NamespaceError). start_meant at (opens_of z.scope) tag (as_meaning own bindings (attributes_in s own bindings (coded all codes)) ds x)) q)
        ∙ ap (λ (as' : List ReadAttribute). start_plan t s z (record { at = at; name = whole_span tag.name; part = part_span tag.name; namespace = stored_space own bindings f; attributes = as'; empty = tag.empty }) ds tag.next)
        (kept_are s own bindings (coded all codes))

    module _ (plain : Bool) (p : plain ≡ lists.all (plain_attr s) all) where
      tag_met : Met s bindings own attrs codes known head.bound (record { at = at; tag = tag; found = f; owned = owned; plain = plain })
      tag_met =
          record {
            told = tag_gives;
            own_keys = keys_laid s own owned head.bound known₀ known (omega (arith, bound_few, owned_few, b.known_long)) given.known_is;
            found_within = within_all owned head.bound owned_few bound_few f (subst (Within (at_most 16 owned) (at_most 64 head.bound)) (sym given.found_is) (element_within s own owned bindings head.bound tag.name));
            codes_within =
                coded_all (λ (c : ℕ). Within owned head.bound (found_in c))
                (each_map (λ (c : ℕ). Within (at_most 16 owned) (at_most 64 head.bound) (found_in c)) (λ (c : ℕ). Within owned head.bound (found_in c)) (λ c. within_all owned head.bound owned_few bound_few (found_in c)) (codes_of s own owned bindings head.bound all) (codes_within s own owned bindings head.bound all));
            plain_names = λ h. sym p ∙ h;
            plain_codes = λ h. coded_all (λ (c : ℕ). c ≡ 0) (plain_zeros s own owned bindings head.bound all (sym p ∙ h));
          }

      pub start_read_lem : ReadAs table s z at (Ok tag) own attrs codes known (Ok (record { at = at; tag = tag; found = f; owned = owned; plain = plain }))
      start_read_lem = record { plan_is = tag_plan; beside = still_beside; met = tag_met }

  -- 5 and 6
  undeclared_read : m ≡ Err BadPrefix → ReadAs table s z at (Ok tag) own attrs codes known (Err (record { number = 5; place = at }))
  undeclared_read q =
      record {
        plan_is = ap (plan_by t s z) (read_as ∙ ap (λ (x : Result Element NamespaceError). start_meant at (opens_of z.scope) tag (as_meaning own bindings (attributes_in s own bindings (coded all codes)) ds x)) q);
        beside = still_beside;
        met = λ e. omega arith;
      }

  twice_read : m ≡ Err Duplicate → ReadAs table s z at (Ok tag) own attrs codes known (Err (record { number = 6; place = at }))
  twice_read q =
      record {
        plan_is = ap (plan_by t s z) (read_as ∙ ap (λ (x : Result Element NamespaceError). start_meant at (opens_of z.scope) tag (as_meaning own bindings (attributes_in s own bindings (coded all codes)) ds x)) q);
        beside = still_beside;
        met = λ e. omega arith;
      }

  pub refused_read : (x : NamespaceError) (n : ℕ) → m ≡ Err x → n ≡ meant_number (Err x) → ReadAs table s z at (Ok tag) own attrs codes known (Err (record { number = n; place = at }))
  refused_read BadPrefix n q e = subst (λ (k : ℕ). ReadAs table s z at (Ok tag) own attrs codes known (Err (record { number = k; place = at }))) (sym e) (undeclared_read q)
  refused_read Duplicate n q e = subst (λ (k : ℕ). ReadAs table s z at (Ok tag) own attrs codes known (Err (record { number = k; place = at }))) (sym e) (twice_read q)

-- ---- by what reading the tag answers
-- the array that was written has the attributes that were read
pub attrs_read : (s : List ℕ) (at : ℕ) (tag : Tag) (array attrs : List ℕ) → length s ≤ 16777215 → (tag_at s (at + 1)).answer ≡ Ok tag → attrs ≡ laid (tag_at s (at + 1)).attrs array
    → attrs_in attrs tag.count ≡ (tag_at s (at + 1)).attrs
attrs_read s at tag array attrs short e p = ap (λ (a : List ℕ). attrs_in a tag.count) p ∙ attrs_back s short (at + 1) tag e array

pub answer_read : (table s : List ℕ) (z : Session) (at : ℕ) (x : Tagged) (own attrs codes known : List ℕ) (r : Result Started Refusal) → (tag_at s (at + 1)).answer ≡ x
    → ReadAs table s z at x own attrs codes known r → ReadAs table s z at (tag_at s (at + 1)).answer own attrs codes known r
answer_read table s z at x own attrs codes known r e h = subst (λ (a : Tagged). ReadAs table s z at a own attrs codes known r) (sym e) h

pub stopped_read : (table s : List ℕ) (z : Session) (at : ℕ) (x : Stop) (r : Refusal) (own attrs codes known : List ℕ) → r ≡ refusal_of s x → Beside table s known z
    → ReadAs table s z at (Err x) own attrs codes known (Err r)
stopped_read table s z at x r own attrs codes known e b = record {
  plan_is = ap (λ (y : Refusal). plan.refused y.number y.place) (sym e);
  beside = b;
  met = λ q. stop_nonzero x (sym (ap (λ (y : Refusal). y.number) e) ∙ q);
}
