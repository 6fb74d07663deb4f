-- The attribute sections of an element, `sections_of`: each holds the attributes of its namespace, in tag order; no two are of one namespace; each
-- attribute that does not stay is in one.
use Prim.Native.Nat.{ℕ}
use mathlib.Core.Path.{◌≡◌, refl, sym, ap, ◌∙◌, subst}
use mathlib.Core.List.{List, [], ◌∷◌, ◌++◌, append-nil}
use mathlib.Core.Bool.{Bool, true, false, cond, not, ◌||◌}
use mathlib.Core.Logic.{⊎_elim}
use lib.Seq.{append_snoc}
use Rattle.laws.specs.Lists.{same_list, any, any_pair, keep}
use Rattle.laws.specs.Members.{In, All}
use Rattle.laws.specs.Tests.{right}
use Rattle.laws.proofs.Flags.{differ, or_left, or_right}
use Rattle.laws.proofs.Lists.{any_same, keep_none}
use Rattle.compare.proofs.Equal.{same_refl, same_eq, same_sym}
use Rattle.model.specs.Elements.{Space, Attribute, Element, same_space, stays}
use Rattle.model.specs.Groups.{AttributeGroup, grouped, groups_from, groups_of}
use Rattle.strands.proofs.ListLaws.{or_rest, in_more, keep_miss, keep_hit, none_passes}

abbrev pub has : AttributeGroup → Attribute → Bool
has c a = same_space c.space a.space

abbrev pub alike : AttributeGroup → AttributeGroup → Bool
alike c d = same_space c.space d.space

-- a section of some attributes: those of its namespace, which is its first attribute's
pub record Formed (done : List Attribute) (c : AttributeGroup) : Type 0 where
  pub members_are : c.members ≡ keep (has c) done
  pub first : Attribute
  pub rest : List Attribute
  pub begins : c.members ≡ first ∷ rest
  pub space_is : c.space ≡ first.space

pub record Sections (done : List Attribute) (cs : List AttributeGroup) : Type 0 where
  pub formed : All (Formed done) cs
  pub apart : any_pair alike cs ≡ false
  pub each : (a : Attribute) → In a done → any (λ (c : AttributeGroup). has c a) cs ≡ true

-- the other sections have no attribute of this one's namespace
pub others : (c : AttributeGroup) (a : Attribute) (cs : List AttributeGroup) → any (alike c) cs ≡ false → has c a ≡ true → any (λ (d : AttributeGroup). has d a) cs ≡ false
others c a cs e h = any_same (λ (d : AttributeGroup). has d a) (alike c) same cs ∙ e
  where
    same : (d : AttributeGroup) → has d a ≡ alike c d
    same d = same_sym d.space.bytes a.space.bytes ∙ ap (λ (l : List ℕ). same_list l d.space.bytes) (sym (same_eq c.space.bytes a.space.bytes h))

-- ---- one more attribute
module _ (done : List Attribute) (a : Attribute) where
  formed_miss : (c : AttributeGroup) → has c a ≡ false → Formed done c → Formed (done ++ (a ∷ [])) c
  formed_miss c e f =
      record {
        members_are = f.members_are ∙ sym (keep_miss (has c) done a e);
        first = f.first;
        rest = f.rest;
        begins = f.begins;
        space_is = f.space_is;
      }

  formed_misses : (cs : List AttributeGroup) → any (λ (c : AttributeGroup). has c a) cs ≡ false → All (Formed done) cs → All (Formed (done ++ (a ∷ []))) cs
  unfolding any
  formed_misses [] e h = tt
  formed_misses (c ∷ cs) e h =
      let r : Bool = any (λ (d : AttributeGroup). has d a) cs in
      (formed_miss c (or_left (has c a) r e) h.0, formed_misses cs (or_right (has c a) r e) h.1)

  formed_hit : (c : AttributeGroup) → has c a ≡ true → Formed done c → Formed (done ++ (a ∷ [])) (record { space = c.space; members = c.members ++ (a ∷ []) })
  formed_hit c e f =
      record {
        members_are = ap (λ (l : List Attribute). l ++ (a ∷ [])) f.members_are ∙ sym (keep_hit (has c) done a e);
        first = f.first;
        rest = f.rest ++ (a ∷ []);
        begins = ap (λ (l : List Attribute). l ++ (a ∷ [])) f.begins;
        space_is = f.space_is;
      }

  abbrev own : AttributeGroup
  own = record { space = a.space; members = a ∷ [] }

  formed_own : ((b : Attribute) → In b done → has own b ≡ true → ⊥) → Formed (done ++ (a ∷ [])) own
  formed_own n =
      record {
        members_are =
            sym (keep_hit (has own) done a (same_refl a.space.bytes)
            ∙ ap (λ (l : List Attribute). l ++ (a ∷ [])) (keep_none (has own) done (none_passes (has own) done n)));
        first = a;
        rest = [];
        begins = refl;
        space_is = refl;
      }

  formed_placed : (cs : List AttributeGroup) → All (Formed done) cs → any_pair alike cs ≡ false
      → ((b : Attribute) → In b done → has own b ≡ true → any (λ (c : AttributeGroup). has c a) cs ≡ true) → All (Formed (done ++ (a ∷ []))) (grouped cs a)
  unfolding grouped any any_pair
  formed_placed [] h e n = (formed_own (λ b i q. differ (sym (n b i q))), tt)
  formed_placed (c ∷ cs) h e n =
      by (has c a) refl
      (λ q. formed_placed cs h.1 (or_right (any (alike c) cs) (any_pair alike cs) e) (λ b i s. or_rest (has c a) (any (λ (d : AttributeGroup). has d a) cs) q (n b i s)))
    where
      by : (z : Bool) → z ≡ has c a → (has c a ≡ false → All (Formed (done ++ (a ∷ []))) (grouped cs a))
          → All (Formed (done ++ (a ∷ []))) (cond z (record { space = c.space; members = c.members ++ (a ∷ []) } ∷ cs) (c ∷ grouped cs a))
      by true q ih = (formed_hit c (sym q) h.0, formed_misses cs (others c a cs (or_left (any (alike c) cs) (any_pair alike cs) e) (sym q)) h.1)
      by false q ih = (formed_miss c (sym q) h.0, ih (sym q))

-- a test of the spaces: what none of the sections nor the attribute passes, what one of them passes
module _ (p : Space → Bool) (a : Attribute) where
  abbrev q : AttributeGroup → Bool
  q c = p c.space

  placed_none : (cs : List AttributeGroup) → any q cs ≡ false → p a.space ≡ false → any q (grouped cs a) ≡ false
  unfolding grouped any
  placed_none [] e h = simp h
  placed_none (c ∷ cs) e h = by (has c a) (placed_none cs (or_right (q c) (any q cs) e) h)
    where
      by : (z : Bool) → any q (grouped cs a) ≡ false → any q (cond z (record { space = c.space; members = c.members ++ (a ∷ []) } ∷ cs) (c ∷ grouped cs a)) ≡ false
      by true ih = e
      by false ih = simp (or_left (q c) (any q cs) e, ih)

  placed_one : (cs : List AttributeGroup) → any q cs ≡ true → any q (grouped cs a) ≡ true
  unfolding grouped any
  placed_one [] e = absurd (differ (sym e))
  placed_one (c ∷ cs) e = by (has c a) (q c) refl e (placed_one cs)
    where
      by : (z y : Bool) → y ≡ q c → (y || any q cs) ≡ true → (any q cs ≡ true → any q (grouped cs a) ≡ true)
          → any q (cond z (record { space = c.space; members = c.members ++ (a ∷ []) } ∷ cs) (c ∷ grouped cs a)) ≡ true
      by true y d f ih = ap (λ (b : Bool). b || any q cs) (sym d) ∙ f
      by false true d f ih = simp (← d)
      by false false d f ih = simp (← d, ih f)

apart_placed : (a : Attribute) (cs : List AttributeGroup) → any_pair alike cs ≡ false → any_pair alike (grouped cs a) ≡ false
unfolding grouped any any_pair
apart_placed a [] e = refl
apart_placed a (c ∷ cs) e = by (has c a) refl (apart_placed a cs (or_right (any (alike c) cs) (any_pair alike cs) e))
  where
    by : (z : Bool) → z ≡ has c a → any_pair alike (grouped cs a) ≡ false
        → any_pair alike (cond z (record { space = c.space; members = c.members ++ (a ∷ []) } ∷ cs) (c ∷ grouped cs a)) ≡ false
    by true q ih = e
    by false q ih = simp (placed_none (same_space c.space) a cs (or_left (any (alike c) cs) (any_pair alike cs) e) (sym q), ih)

-- the attribute itself has a section
placed_own : (a : Attribute) (cs : List AttributeGroup) → any (λ (c : AttributeGroup). has c a) (grouped cs a) ≡ true
unfolding grouped any
placed_own a [] = simp (same_refl a.space.bytes)
placed_own a (c ∷ cs) = by (has c a) refl (placed_own a cs)
  where
    by : (z : Bool) → z ≡ has c a → any (λ (d : AttributeGroup). has d a) (grouped cs a) ≡ true
        → any (λ (d : AttributeGroup). has d a) (cond z (record { space = c.space; members = c.members ++ (a ∷ []) } ∷ cs) (c ∷ grouped cs a)) ≡ true
    by true q ih = simp (← q)
    by false q ih = right (has c a) (any (λ (d : AttributeGroup). has d a) (grouped cs a)) ih

sections_more : (done : List Attribute) (a : Attribute) (cs : List AttributeGroup) → Sections done cs → Sections (done ++ (a ∷ [])) (grouped cs a)
sections_more done a cs v =
    record {
      formed = formed_placed done a cs v.formed v.apart some;
      apart = apart_placed a cs v.apart;
      each = λ b m. ⊎_elim (λ i. placed_one (λ (w : Space). same_space w b.space) a cs (v.each b i)) (λ d. subst (λ (x : Attribute). any (λ (c : AttributeGroup). has c x) (grouped cs a) ≡ true) (sym d) (placed_own a cs)) (in_more b a done m);
    }
  where
    some : (b : Attribute) → In b done → same_space a.space b.space ≡ true → any (λ (c : AttributeGroup). has c a) cs ≡ true
    some b i s = ap (λ (l : List ℕ). any (λ (c : AttributeGroup). same_list c.space.bytes l) cs) (same_eq a.space.bytes b.space.bytes s) ∙ v.each b i

sections_from : (more done : List Attribute) (cs : List AttributeGroup) → Sections done cs → Sections (done ++ more) (groups_from cs more)
unfolding groups_from
sections_from [] done cs v = rw (append-nil done) v
sections_from (a ∷ more) done cs v = rw (← append_snoc done a more) (sections_from more (done ++ (a ∷ [])) (grouped cs a) (sections_more done a cs v))

sections_none : Sections [] []
unfolding any_pair
sections_none = record { formed = tt; apart = refl; each = λ a m. absurd m }

-- the attributes that do not stay with the element
abbrev pub leaving : Element → List Attribute
leaving σ = keep (λ (a : Attribute). not (stays σ a)) σ.attributes

pub sections_of : (σ : Element) → Sections (leaving σ) (groups_of σ)
unfolding groups_of
sections_of σ = sections_from (leaving σ) [] [] sections_none
