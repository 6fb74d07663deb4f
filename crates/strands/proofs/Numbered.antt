-- The number of an attribute's section, from 1: the attributes of a number are those of its section.
--     place_is, place_some     an attribute's place among the sections names its section
--     section_members          the attributes with the number of a section, and their class
--     Classed                  one class to a namespace, in eight bits: so in what the reader gives
use Prim.Native.Nat.{ℕ, zero, suc, ◌+◌, ◌≤◌, ◌<◌}
use mathlib.Core.Path.{◌≡◌, refl, sym, ap, ◌∙◌, subst}
use mathlib.Core.List.{List, [], ◌∷◌, map}
use mathlib.Core.Bool.{Bool, true, false, cond, not, ◌&&◌}
use mathlib.Core.Logic.{inl, ⊎_elim}
use native.Mathlib.Omega.{arith}
use borrow.Author.Tests.{eq-eqb, ne_eqb}
use lib.ListN.{length, get_or}
use lib.Dec.{eqb}
use Rattle.laws.specs.Lists.{any, any_pair, keep}
use Rattle.laws.specs.Members.{In}
use Rattle.laws.proofs.Flags.{or_left, or_right}
use Rattle.laws.proofs.Lists.{keep_same, keep_map}
use Rattle.laws.proofs.Holds.{each_at}
use Rattle.laws.proofs.Members.{in_at, none_in, kept_in, map_in}
use Rattle.compare.proofs.Equal.{same_eq}
use Rattle.table.specs.Table.{Table, decode, class_of}
use Rattle.table.specs.Judge.{Accepted}
use Rattle.table.proofs.Accepted.{header_in}
use Rattle.table.proofs.Namespaces.{class_in_lem}
use Rattle.reader.specs.Namespaces as scene
use Rattle.reader.specs.Events.{Start}
use Rattle.model.specs.Elements.{Space, Attribute, Element, same_space, stays, space_of, attribute_of, element_of}
use Rattle.model.specs.Groups.{AttributeGroup, groups_of}
use Rattle.attributes.specs.Attributes.{Sorted, section_place, sorted_of}
use Rattle.strands.specs.Writing.{members, head_class}
use Rattle.strands.proofs.ListLaws.{keep_both}
use Rattle.strands.proofs.Grouped.{has, alike, Formed, others, leaving, sections_of}

-- ---- the place of an attribute among the sections, the first being k
place_from : (k : ℕ) (cs : List AttributeGroup) (a : Attribute) → k ≤ section_place k cs a
unfolding section_place
place_from k [] a = omega arith
place_from k (c ∷ cs) a = by (has c a) (place_from (suc k) cs a)
  where
    by : (z : Bool) → suc k ≤ section_place (suc k) cs a → k ≤ cond z k (section_place (suc k) cs a)
    by true h = omega arith
    by false h = omega arith

pub place_is : (cs : List AttributeGroup) (a : Attribute) (d : AttributeGroup) → any_pair alike cs ≡ false → (k i : ℕ) → i < length cs
    → eqb (section_place k cs a) (k + i) ≡ has (get_or cs i d) a
unfolding section_place any_pair
place_is [] a d e k i h = absurd (omega arith)
place_is (c ∷ cs) a d e k i h = by (has c a) refl i h (place_is cs a d (or_right (any (alike c) cs) (any_pair alike cs) e) (suc k)) (place_from (suc k) cs a)
  where
    by : (z : Bool) → z ≡ has c a → (j : ℕ) → j < suc (length cs) → ((n : ℕ) → n < length cs → eqb (section_place (suc k) cs a) (suc k + n) ≡ has (get_or cs n d) a) → suc k ≤ section_place (suc k) cs a
        → eqb (cond z k (section_place (suc k) cs a)) (k + j) ≡ has (get_or (c ∷ cs) j d) a
    by true q zero m ih f = eq-eqb k (k + 0) (omega arith) ∙ q
    by true q (suc j) m ih f =
        ne_eqb k (k + suc j) (λ s. omega arith)
        ∙ sym (none_in (λ (x : AttributeGroup). has x a) (get_or cs j d) cs (others c a cs (or_left (any (alike c) cs) (any_pair alike cs) e) (sym q)) (in_at cs j d (omega arith)))
    by false q zero m ih f = ne_eqb (section_place (suc k) cs a) (k + 0) (λ s. omega arith) ∙ q
    by false q (suc j) m ih f = let s : k + suc j ≡ suc k + j = omega arith in ap (eqb (section_place (suc k) cs a)) s ∙ ih j (omega arith)

-- a section's number is none of an attribute that stays
pub place_some : (cs : List AttributeGroup) (a : Attribute) → eqb (section_place 1 cs a) 0 ≡ false
place_some cs a = ne_eqb (section_place 1 cs a) 0 (λ e. omega (arith, place_from 1 cs a))

-- ---- the attributes of a section
abbrev pub all_of : Element → List Sorted
all_of σ = map (sorted_of σ) σ.attributes

module _ (σ : Element) where
  -- its first attribute is one of the tag's
  pub first_in : (c : AttributeGroup) (f : Formed (leaving σ) c) → In f.first σ.attributes
  first_in c f = (kept_in (λ (a : Attribute). not (stays σ a)) f.first σ.attributes away).0
    where
      there : In f.first (keep (has c) (leaving σ))
      there = subst (In f.first) (sym f.begins ∙ f.members_are) (inl refl)

      away : In f.first (leaving σ)
      away = (kept_in (has c) f.first (leaving σ) there).0

  module _ (d : AttributeGroup) (i : ℕ) (h : i < length (groups_of σ)) where
    abbrev c : AttributeGroup
    c = get_or (groups_of σ) i d

    pub formed_at : Formed (leaving σ) (get_or (groups_of σ) i d)
    formed_at = each_at (Formed (leaving σ)) (groups_of σ) i d (sections_of σ).formed h

    numbered : (a : Attribute) → eqb (sorted_of σ a).section (1 + i) ≡ (not (stays σ a) && has c a)
    numbered a = by (stays σ a)
      where
        by : (z : Bool) → eqb (cond z 0 (section_place 1 (groups_of σ) a)) (1 + i) ≡ (not z && has c a)
        by true = ne_eqb 0 (1 + i) (λ e. omega arith)
        by false = place_is (groups_of σ) a d (sections_of σ).apart 1 i h

    pub section_members : members (all_of σ) (1 + i) ≡ map (sorted_of σ) (get_or (groups_of σ) i d).members
    section_members =
        keep_map (sorted_of σ) (λ (a : Sorted). eqb a.section (1 + i)) σ.attributes
        ∙ ap (map (sorted_of σ))
        (keep_same (λ (a : Attribute). eqb (sorted_of σ a).section (1 + i)) (λ (a : Attribute). not (stays σ a) && has c a) numbered σ.attributes
        ∙ keep_both (λ (a : Attribute). not (stays σ a)) (has c) σ.attributes
        ∙ sym formed_at.members_are)

    pub section_class : head_class (members (all_of σ) (1 + i)) ≡ (get_or (groups_of σ) i d).space.class
    section_class = ap head_class (section_members ∙ ap (map (sorted_of σ)) formed_at.begins) ∙ sym (ap (λ (w : Space). w.class) formed_at.space_is)

-- ---- one class to a namespace
pub record Classed (σ : Element) : Type 0 where
  pub few_classes : (a : Attribute) → In a σ.attributes → a.space.class < 256
  pub one_class : (a b : Attribute) → In a σ.attributes → In b σ.attributes → same_space a.space b.space ≡ true → a.space.class ≡ b.space.class

space_class : (t : Table) (s : List ℕ) (n : scene.Namespace) → (space_of t s n).class ≡ class_of t (space_of t s n).bytes
unfolding space_of
space_class t s n = refl

by_bytes : (t : Table) (s : List ℕ) (e : Start) (a : Attribute) → In a (element_of t s e).attributes → a.space.class ≡ class_of t a.space.bytes
unfolding element_of attribute_of
by_bytes t s e a m =
    let r : (x : scene.ReadAttribute) × In x e.attributes × (a ≡ attribute_of t s x) = map_in (attribute_of t s) a e.attributes m in
    rw r.2 (space_class t s r.0.namespace)

pub element_classed : (table : List ℕ) → Accepted table ≡ true → (s : List ℕ) (e : Start) → Classed (element_of (decode table) s e)
element_classed table ok s e =
    record {
      few_classes = λ a m. rw (by_bytes (decode table) s e a m) (few a.space.bytes);
      one_class = λ a b m n q. by_bytes (decode table) s e a m ∙ ap (class_of (decode table)) (same_eq a.space.bytes b.space.bytes q) ∙ sym (by_bytes (decode table) s e b n);
    }
  where
    few : (u : List ℕ) → class_of (decode table) u < 256
    few u = ⊎_elim (λ l. omega (arith, (header_in table ok).few_namespaces)) (⊎_elim (λ q. omega arith) (λ q. omega arith)) (class_in_lem table ok u)
