-- The records of an event's attribute units are few: at most 36 of each.
use Prim.Native.Nat.{ℕ, ◌+◌, ◌*◌, ◌≤◌}
use mathlib.Core.Path.{◌≡◌, subst}
use mathlib.Core.List.{List, [], ◌∷◌}
use mathlib.Core.Bool.{not}
use native.Mathlib.Omega.{arith}
use lib.ListN.{length, length-append}
use Rattle.laws.specs.Lists.{keep}
use Rattle.laws.specs.Gather.{gather, total}
use Rattle.laws.specs.Members.{All}
use Rattle.laws.proofs.Holds.{holds_cond}
use Rattle.laws.proofs.Elementwise.{each_map, each_gather}
use Rattle.table.specs.Table.{Table}
use Rattle.table.specs.declared.Action.{Action}
use Rattle.table.specs.declared.Action.TheVariants.{Attach, Unwrap, Validate}
use Rattle.table.specs.declared.Rule.{Rule}
use Rattle.reader.specs.Events as scene
use Rattle.model.specs.Theory.{AttributeUnit}
use Rattle.model.specs.Elements.{Attribute, Element, element_of, same_space, stays}
use Rattle.model.specs.Records.{Body, attribute_bodies, virtual_end}
use Rattle.model.specs.Groups.{AttributeGroup, grouped, groups_from, groups_of, group_rules, unit_by, attribute_units}
use Rattle.model.specs.Stream.{State, Entry, entries_at, units_of, after}
use Rattle.model.specs.Dispatch.{dispatch, told}
use Rattle.model.proofs.Lists.{all_gather, every}
use Rattle.model.proofs.Assigned.{attributes_at}
use Rattle.model.proofs.Count.{attribute_count}
use Rattle.sessions.proofs.Followed.{EventFew}
use Rattle.forecast.proofs.WrittenFew.{keep_few, pairs_length, element_few}

total_few : {A : Type 0} (f : A → ℕ) (l : List A) → All (λ (x : A). f x ≤ 36) l → total f l ≤ 36 * length l
unfolding total
total_few f [] h = omega arith
total_few f (x ∷ l) h = omega (arith, h.0, total_few f l h.1)

-- ---- attribute sections
abbrev FewMembers : ℕ → AttributeGroup → Type 0
FewMembers n c = length c.members ≤ n

grouped_few : (n : ℕ) (cs : List AttributeGroup) (a : Attribute) → All (FewMembers n) cs → All (FewMembers (n + 1)) (grouped cs a)
unfolding grouped
grouped_few n [] a h = (omega arith, tt)
grouped_few n (c ∷ cs) a h =
    holds_cond (All (FewMembers (n + 1))) (same_space c.space a.space)
    (λ e. (omega (arith, length-append c.members (a ∷ []), h.0), each_map (FewMembers n) (FewMembers (n + 1)) (λ x k. omega arith) cs h.1))
    (λ e. (omega (arith, h.0), grouped_few n cs a h.1))

from_few : (as' : List Attribute) (n : ℕ) (cs : List AttributeGroup) → All (FewMembers n) cs → All (FewMembers (n + length as')) (groups_from cs as')
unfolding groups_from
from_few [] n cs h = each_map (FewMembers n) (FewMembers (n + 0)) (λ x k. omega arith) cs h
from_few (a ∷ as') n cs h =
    let e : n + 1 + length as' ≡ n + length (a ∷ as') = omega arith in
    subst (λ (m : ℕ). All (FewMembers m) (groups_from (grouped cs a) as')) e (from_few as' (n + 1) (grouped cs a) (grouped_few n cs a h))

abbrev FewHeld : AttributeUnit Body → Type 0
FewHeld u = attribute_count u ≤ 36

module _ (t : Table) (σ : Element) (few : length σ.attributes ≤ 16) where
  groups_few : All (FewMembers 16) (groups_of σ)
  unfolding groups_of
  groups_few =
      let as' = keep (λ (a : Attribute). not (stays σ a)) σ.attributes in
      each_map (FewMembers (0 + length as')) (FewMembers 16) (λ x k. omega (arith, keep_few (λ (a : Attribute). not (stays σ a)) σ.attributes)) (groups_from [] as') (from_few as' 0 [] tt)

  unit_few : (c : AttributeGroup) → FewMembers 16 c → (a : Action) (schema : ℕ) → All FewHeld (unit_by σ c a schema)
  unit_few c h Attach schema = tt
  unit_few c h Unwrap schema = tt
  unit_few c h Validate schema = (omega (arith, pairs_length c.members, length-append (gather attribute_bodies c.members) (virtual_end ∷ [])), tt)

  units_few : (mode : ℕ) → All FewHeld (attribute_units t mode σ)
  unfolding attribute_units
  units_few mode =
      each_gather (FewMembers 16) FewHeld (λ (c : AttributeGroup). gather (λ (r : Rule). unit_by σ c r.action r.schema) (group_rules t mode c))
      (λ c h. all_gather FewHeld (λ (r : Rule). unit_by σ c r.action r.schema) (group_rules t mode c) (every (λ (r : Rule). unit_few c h r.action r.schema) (group_rules t mode c)))
      (groups_of σ) groups_few

pub attributes_few : (t : Table) (s : List ℕ) (z : State (dispatch t)) (e : scene.Event) → EventFew e → (after (dispatch t) z (told t s e)).units ≤ 65536 → total attribute_count (attributes_at (dispatch t) z (told t s e)) ≤ 2359296
unfolding after total
attributes_few t s z (scene.start e) few units =
    let σ = element_of t s e in
    let es = entries_at (dispatch t) z.levels σ in
    let us = units_of (dispatch t) σ es in
    let each = all_gather FewHeld (λ (x : Entry). attribute_units t x.strand.mode σ) es (every (λ (x : Entry). units_few t σ (element_few t s e few) x.strand.mode) es) in
    omega (arith, total_few attribute_count us each, units)
attributes_few t s z (scene.text w) few units = omega arith
attributes_few t s z (scene.end part at) few units = omega arith
