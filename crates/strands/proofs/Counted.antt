-- What is counted before a record is written is what is written.
--     section_length, strand_length, tag_length         how many attribute units there are
--     section_records, strand_records_lem, tag_records      how many records they have
--     element_length, elements_length                   how many records an element has along its strands
use Prim.Native.Nat.{ℕ, ◌+◌, ◌*◌}
use mathlib.Core.Path.{◌≡◌, refl, sym, ap, ◌∙◌}
use mathlib.Core.List.{List, [], ◌∷◌, ◌++◌, map}
use mathlib.Core.Bool.{Bool, true, false, cond}
use mathlib.Core.Option.{Option, none, some}
use native.Mathlib.Nat.{zero-mul, add-mul}
use native.Mathlib.Omega.{arith}
use lib.ListN.{length, length-append, length-map}
use Rattle.laws.specs.Lists.{tabulate, keep}
use Rattle.laws.specs.Gather.{gather, total}
use Rattle.laws.proofs.Gather.{total_gathered}
use Rattle.table.specs.declared.Action.{Action}
use Rattle.table.specs.declared.Action.TheVariants.{Attach, Unwrap, Validate}
use Rattle.table.specs.declared.Rule.{Rule}
use Rattle.model.specs.Theory.{AttributeUnit, holds}
use Rattle.model.specs.Stream.{Entry, give, attributes_from}
use Rattle.model.specs.Records.{Body, virtual_end}
use Rattle.model.proofs.Count.{attribute_count, length_gathered, length_give, length_attributes}
use Rattle.strands.specs.Packed.{strand_in, receives, is_unit}
use Rattle.strands.specs.Rules.{rules_in, opened, units_for}
use Rattle.attributes.specs.Attributes.{Sorted}
use Rattle.strands.specs.Writing.{members, head_class, sorted_bodies, unit_for, section_units, strand_units, keeps, opens_with, element_records, section_count, element_count}

-- ---- sums
module _ {A : Type 0} where
  total_times : (g : A → ℕ) (k : ℕ) (xs : List A) → total (λ (x : A). g x * k) xs ≡ total g xs * k
  unfolding total
  total_times g k [] = sym (zero-mul k)
  total_times g k (x ∷ xs) = ap (λ (n : ℕ). g x * k + n) (total_times g k xs) ∙ sym (add-mul (g x) (total g xs) k)

-- ---- the records of attribute units
-- two records to an attribute
pub bodies_length : (l : List Sorted) → length (gather sorted_bodies l) ≡ 2 * length l
unfolding gather
bodies_length [] = refl
bodies_length (a ∷ l) = omega (arith, bodies_length l)

-- the unit that a rule opens
module _ (at : ℕ) (l : List Sorted) where
  unit_length : (a : Action) (schema : ℕ) → length (unit_for at l a schema) ≡ opened a
  unit_length Attach schema = refl
  unit_length Unwrap schema = refl
  unit_length Validate schema = refl

  unit_records_lem : (a : Action) (schema : ℕ) → total attribute_count (unit_for at l a schema) ≡ opened a * (4 + 2 * length l)
  unfolding total
  unit_records_lem Attach schema = sym (zero-mul (4 + 2 * length l))
  unit_records_lem Unwrap schema = sym (zero-mul (4 + 2 * length l))
  unit_records_lem Validate schema = omega (arith, length-append (gather sorted_bodies l) (virtual_end ∷ []), bodies_length l)

-- ---- units and records of a section, of a strand, of all strands
module _ (index : List ℕ) (at : ℕ) (l : List Sorted) where
  module _ (mode j : ℕ) where
    abbrev rules : List Rule
    rules = rules_in index mode 1 (head_class (members l j))

    abbrev units : Rule → List (AttributeUnit Body)
    units r = unit_for at (members l j) r.action r.schema

    pub section_length : length (section_units index mode at l j) ≡ units_for index mode (head_class (members l j))
    unfolding section_units
    section_length = length_gathered units (λ (r : Rule). opened r.action) (λ (r : Rule). unit_length at (members l j) r.action r.schema) rules

    pub section_records : total attribute_count (section_units index mode at l j) ≡ section_count index mode l j
    unfolding section_units
    section_records =
        total_gathered attribute_count units (λ (r : Rule). opened r.action * (4 + 2 * length (members l j))) (λ (r : Rule). unit_records_lem at (members l j) r.action r.schema) rules
        ∙ total_times (λ (r : Rule). opened r.action) (4 + 2 * length (members l j)) rules

  module _ (m : ℕ) where
    abbrev js : List ℕ
    js = tabulate (λ (j : ℕ). j) 1 m

    pub strand_length : (mode : ℕ) → length (strand_units index at l m mode) ≡ total (λ (j : ℕ). units_for index mode (head_class (members l j))) (tabulate (λ (j : ℕ). j) 1 m)
    unfolding strand_units
    strand_length mode = length_gathered (section_units index mode at l) (λ (j : ℕ). units_for index mode (head_class (members l j))) (section_length mode) js

    pub strand_records_lem : (mode : ℕ) → total attribute_count (strand_units index at l m mode) ≡ total (section_count index mode l) (tabulate (λ (j : ℕ). j) 1 m)
    unfolding strand_units
    strand_records_lem mode = total_gathered attribute_count (section_units index mode at l) (section_count index mode l) (section_records mode) js

    -- the strands packed in numbers
    module _ (ws : List ℕ) where
      pub tag_length : length (gather (λ (w : ℕ). strand_units index at l m (strand_in w).mode) ws)
          ≡ total (λ (w : ℕ). total (λ (j : ℕ). units_for index (strand_in w).mode (head_class (members l j))) (tabulate (λ (j : ℕ). j) 1 m)) ws
      tag_length =
          length_gathered (λ (w : ℕ). strand_units index at l m (strand_in w).mode) (λ (w : ℕ). total (λ (j : ℕ). units_for index (strand_in w).mode (head_class (members l j))) js)
          (λ (w : ℕ). strand_length (strand_in w).mode) ws

      pub tag_records : (u : ℕ) → length (attributes_from (λ (n : ℕ). n) u (gather (λ (w : ℕ). strand_units index at l m (strand_in w).mode) ws))
          ≡ total (λ (w : ℕ). total (section_count index (strand_in w).mode l) (tabulate (λ (j : ℕ). j) 1 m)) ws
      tag_records u =
          length_attributes (λ (n : ℕ). n) u (gather (λ (w : ℕ). strand_units index at l m (strand_in w).mode) ws)
          ∙ total_gathered attribute_count (λ (w : ℕ). strand_units index at l m (strand_in w).mode) (λ (w : ℕ). total (section_count index (strand_in w).mode l) js)
          (λ (w : ℕ). strand_records_lem (strand_in w).mode) ws

-- ---- the element along its strands
module _ (index : List ℕ) (at : ℕ) (b : Body) (l : List Sorted) where
  pub element_length : (e : Entry) → length (element_records index at b l e) ≡ element_count index l e
  unfolding element_records
  element_length e = by (receives e.strand) e.strand.here
    where
      kept : List Sorted
      kept = keep (keeps index e.strand.mode) l

      bodies : List Body
      bodies = gather sorted_bodies kept

      by : (t : Option ℕ) (here : Bool) → length (give t (opens_with at e.schema here ++ map holds (b ∷ bodies))) ≡ cond (is_unit t) (cond here 1 0 + (1 + 2 * length kept)) 0
      by none here = refl
      by (some u) true =
          omega (arith, bodies_length kept, length-map bodies holds, length_give (some u) (map holds bodies))
      by (some u) false =
          omega (arith, bodies_length kept, length-map bodies holds, length_give (some u) (map holds bodies))

  pub elements_length : (es : List Entry) → length (gather (element_records index at b l) es) ≡ total (element_count index l) es
  elements_length = length_gathered (element_records index at b l) (element_count index l) element_length
