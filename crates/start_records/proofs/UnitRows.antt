-- Rows and attribute units written one after the other.
--     rows_on, rows_done                 a loop that lays rows: those that are left, laid from here on, give the answer
--     two_rows, attribute_rows           the two rows of an attribute
--     kept_holds, kept_on, kept_done     a loop that lays the rows of the attributes that pass a test; member-on: of those of a section
--     unit_laid                          the rows of a unit
--     Going, going-*                     a loop that writes units: the next one's number, and those that are left
--     rules_all, rule-*                  by rule
--     all_units, part-*, strand-*        by section, by strand
use Prim.Native.Nat.{ℕ, ◌+◌, ◌*◌, ◌-◌, ◌%◌, ◌≤◌, ◌<◌}
use mathlib.Core.Path.{◌≡◌, refl, sym, ap, ◌∙◌}
use mathlib.Core.List.{List, [], ◌∷◌, ◌++◌, map, map-append, append-nil, append_assoc}
use mathlib.Core.Bool.{Bool, true, false, cond}
use native.Mathlib.Omega.{arith}
use lib.ListN.{length, get_or, length-append}
use lib.Dec.{eqb}
use Rattle.laws.specs.Lists.{tabulate, keep}
use Rattle.laws.specs.Gather.{gather}
use Rattle.laws.proofs.Lists.{tabulate_here, tabulate_done}
use Rattle.table.specs.declared.Action.{Action}
use Rattle.table.specs.declared.Action.TheVariants.{Attach, Unwrap, Validate}
use Rattle.table.specs.declared.Rule.{Rule}
use Rattle.reader.specs.Spans.{span}
use Rattle.model.specs.Theory.{AttributeUnit, Piece, opens, holds}
use Rattle.model.specs.Stream.{attributes_from}
use Rattle.model.specs.Records.{Body, plain, close_body, virtual_start, virtual_end}
use Rattle.model.proofs.Simulation.{attributes_append}
use Rattle.records.specs.declared.Row.{Row}
use Rattle.records.specs.Rows.{Laid, laid_row, laid_if, laid_rows}
use Rattle.records.proofs.Laid.{rows_none, rows_append}
use Rattle.strands.specs.Packed.{strand_in}
use Rattle.strands.specs.Rules.{rules_in}
use Rattle.attributes.specs.Attributes.{Sorted, given_in, sorted_in}
use Rattle.strands.specs.Writing.{row_for, row_of, members, head_class, sorted_bodies, unit_for, section_units, strand_units}

-- ---- rows
module _ (v : Laid) where
  pub rows_on : (w w' : Laid) (all rs ss : List Row) → laid_rows w all ≡ v → all ≡ rs ++ ss → w' ≡ laid_rows w rs → laid_rows w' ss ≡ v
  rows_on w w' all rs ss e f g = ap (λ (x : Laid). laid_rows x ss) g ∙ sym (rows_append w rs ss) ∙ ap (laid_rows w) (sym f) ∙ e

  pub rows_done : (w : Laid) (all : List Row) → laid_rows w all ≡ v → all ≡ [] → w ≡ v
  rows_done w all e f = sym (rows_none w) ∙ ap (laid_rows w) (sym f) ∙ e

pub rows_cons : (w : Laid) (r : Row) (rs : List Row) → laid_rows w (r ∷ rs) ≡ laid_rows (laid_row w r) rs
unfolding laid_rows
rows_cons w r rs = refl

-- a row at a place of its own
abbrev pub placed : ℕ → ℕ → Row → Row
placed at len r = record { unit = r.unit; kind = r.kind; class = r.class; at = at; len = len; uri_at = r.uri_at; uri_len = r.uri_len }

-- an attribute's rows
pub two_rows : (w v : Laid) (due : Bool) (r s : Row) → v ≡ laid_if due w r → laid_if due v s ≡ laid_rows w (cond due (r ∷ s ∷ []) [])
unfolding laid_if laid_rows
two_rows w v true r s e = ap (λ (x : Laid). laid_row x s) e
two_rows w v false r s e = e

module _ (attributes : List ℕ) (k unit : ℕ) where
  abbrev pub name_row : Row
  name_row =
      record {
        unit = unit;
        kind = 2;
        class = get_or attributes (8 * k + 4) 0 % 256;
        at = get_or attributes (8 * k) 0;
        len = get_or attributes (8 * k + 1) 0;
        uri_at = get_or attributes (8 * k + 5) 0;
        uri_len = get_or attributes (8 * k + 6) 0;
      }

  abbrev pub value_row : Row
  value_row = record { unit = unit; kind = 3; class = 0; at = get_or attributes (8 * k + 2) 0; len = get_or attributes (8 * k + 3) 0; uri_at = 0; uri_len = 0 }

  pub attribute_rows : (sections : List ℕ) (due : Bool) → cond due (name_row ∷ value_row ∷ []) [] ≡ map (row_for unit) (cond due (sorted_bodies (sorted_in attributes sections k)) [])
  unfolding sorted_in given_in
  attribute_rows sections true = refl
  attribute_rows sections false = refl

-- ---- the attributes that pass a test
module _ (unit : ℕ) (f : ℕ → Sorted) (p : Sorted → Bool) (n : ℕ) where
  -- the rows of those from the i-th on
  abbrev pub kept_rows : ℕ → List Row
  kept_rows i = map (row_for unit) (gather sorted_bodies (keep p (tabulate f i (n - i))))

  kept_here : (i : ℕ) → i < n → kept_rows i ≡ map (row_for unit) (cond (p (f i)) (sorted_bodies (f i)) []) ++ kept_rows (i + 1)
  unfolding gather keep
  kept_here i h = ap (λ (l : List Sorted). map (row_for unit) (gather sorted_bodies (keep p l))) (tabulate_here f i n h) ∙ by (p (f i))
    where
      by : (b : Bool) → map (row_for unit) (gather sorted_bodies (cond b (f i ∷ keep p (tabulate f (i + 1) (n - (i + 1)))) (keep p (tabulate f (i + 1) (n - (i + 1)))))) ≡ map (row_for unit) (cond b (sorted_bodies (f i)) []) ++ kept_rows (i + 1)
      by true = refl
      by false = refl

  kept_none : (i : ℕ) → n ≤ i → kept_rows i ≡ []
  unfolding gather keep
  kept_none i h = ap (λ (l : List Sorted). map (row_for unit) (gather sorted_bodies (keep p l))) (tabulate_done f i n h)

  kept_all : kept_rows 0 ≡ map (row_for unit) (gather sorted_bodies (keep p (tabulate f 0 n)))
  kept_all = let e : n - 0 ≡ n = omega arith in ap (λ (k : ℕ). map (row_for unit) (gather sorted_bodies (keep p (tabulate f 0 k)))) e

  -- a loop that lays them
  pub kept_holds : (w : Laid) → laid_rows w (kept_rows 0) ≡ laid_rows w (map (row_for unit) (gather sorted_bodies (keep p (tabulate f 0 n))))
  kept_holds w = ap (laid_rows w) kept_all

  pub kept_on : (v w w' : Laid) (i : ℕ) (b : Bool) → laid_rows w (kept_rows i) ≡ v → i < n → b ≡ p (f i)
      → w' ≡ laid_rows w (map (row_for unit) (cond b (sorted_bodies (f i)) [])) → laid_rows w' (kept_rows (i + 1)) ≡ v
  kept_on v w w' i b e h q g =
      rows_on v w w' (kept_rows i) (map (row_for unit) (cond b (sorted_bodies (f i)) [])) (kept_rows (i + 1)) e
      (kept_here i h ∙ ap (λ (z : Bool). map (row_for unit) (cond z (sorted_bodies (f i)) []) ++ kept_rows (i + 1)) (sym q)) g

  pub kept_done : (v w : Laid) (i : ℕ) → laid_rows w (kept_rows i) ≡ v → n ≤ i → w ≡ v
  kept_done v w i e h = rows_done v w (kept_rows i) e (kept_none i h)

-- the attributes of a section
section_in : (attributes sections : List ℕ) (k : ℕ) → get_or sections k 0 ≡ (sorted_in attributes sections k).section
unfolding sorted_in
section_in attributes sections k = refl

pub member_on : (attributes sections : List ℕ) (n j unit : ℕ) (v w w' : Laid) (k : ℕ)
    → laid_rows w (kept_rows unit (sorted_in attributes sections) (λ (a : Sorted). eqb a.section j) n k) ≡ v → k < n
    → w' ≡ laid_rows w (map (row_for unit) (cond (eqb (get_or sections k 0) j) (sorted_bodies (sorted_in attributes sections k)) []))
    → laid_rows w' (kept_rows unit (sorted_in attributes sections) (λ (a : Sorted). eqb a.section j) n (k + 1)) ≡ v
member_on attributes sections n j unit v w w' k e h g =
    kept_on unit (sorted_in attributes sections) (λ (a : Sorted). eqb a.section j) n v w w' k (eqb (get_or sections k 0) j) e h
    (ap (λ (z : ℕ). eqb z j) (section_in attributes sections k)) g

-- ---- a unit
pub held_rows : (unit : ℕ) (bs : List Body) → map row_of (map (λ (p : Piece Body). record { unit = unit; piece = p }) (map holds bs)) ≡ map (row_for unit) bs
held_rows unit [] = refl
held_rows unit (b ∷ bs) = ap (λ (l : List Row). row_for unit b ∷ l) (held_rows unit bs)

module _ (unit schema at : ℕ) (l : List Sorted) where
  abbrev pub open_row : Row
  open_row = row_for unit (plain 0 schema (span at 1))

  abbrev bodies : List Body
  bodies = gather sorted_bodies l

  unit_rows_lem : map row_of (attributes_from (λ (u : ℕ). u) unit (unit_for at l Validate schema))
      ≡ open_row ∷ row_for unit virtual_start ∷ (map (row_for unit) bodies ++ (row_for unit virtual_end ∷ row_for unit close_body ∷ []))
  unit_rows_lem =
      ap (map row_of) (append-nil (map (λ (p : Piece Body). record { unit = unit; piece = p }) (opens (plain 0 schema (span at 1)) ∷ map holds ((virtual_start ∷ bodies ++ (virtual_end ∷ [])) ++ (close_body ∷ [])))))
      ∙ ap (λ (r : List Row). open_row ∷ row_for unit virtual_start ∷ r)
      (held_rows unit ((bodies ++ (virtual_end ∷ [])) ++ (close_body ∷ []))
      ∙ ap (map (row_for unit)) (append_assoc bodies (virtual_end ∷ []) (close_body ∷ []))
      ∙ map-append (row_for unit) bodies (virtual_end ∷ close_body ∷ []))

  -- `write_unit`: open, virtual start, attributes, virtual end, close
  pub unit_laid : (w₀ w₁ w₂ w₃ w₄ w₅ : Laid) (r s t : Row)
      → w₁ ≡ laid_row w₀ open_row
      → r ≡ row_for unit virtual_start → w₂ ≡ laid_row w₁ r
      → w₃ ≡ laid_rows w₂ (map (row_for unit) (gather sorted_bodies l))
      → s ≡ row_for unit virtual_end → w₄ ≡ laid_row w₃ s
      → t ≡ row_for unit close_body → w₅ ≡ laid_row w₄ t
      → w₅ ≡ laid_rows w₀ (map row_of (attributes_from (λ (u : ℕ). u) unit (unit_for at l Validate schema)))
  unfolding laid_rows
  unit_laid w₀ w₁ w₂ w₃ w₄ w₅ r s t e₁ f e₂ e₃ g e₄ h e₅ =
      e₅
      ∙ ap (laid_row w₄) h
      ∙ ap (λ (x : Laid). laid_row x (row_for unit close_body)) (e₄ ∙ ap (laid_row w₃) g)
      ∙ ap (λ (x : Laid). laid_rows x (row_for unit virtual_end ∷ row_for unit close_body ∷ [])) e₃
      ∙ sym (rows_append w₂ (map (row_for unit) bodies) (row_for unit virtual_end ∷ row_for unit close_body ∷ []))
      ∙ ap (λ (x : Laid). laid_rows x (map (row_for unit) bodies ++ (row_for unit virtual_end ∷ row_for unit close_body ∷ []))) (e₂ ∙ ap (laid_row w₁) f ∙ ap (λ (x : Laid). laid_row x (row_for unit virtual_start)) e₁)
      ∙ ap (laid_rows w₀) (sym unit_rows_lem)

-- ---- units
abbrev pub unit_rows : ℕ → List (AttributeUnit Body) → List Row
unit_rows unit us = map row_of (attributes_from (λ (u : ℕ). u) unit us)

-- From w₀ on units are written, the first with this number; now writing is at w, and those left have numbers from `unit` on
pub record Going (w₀ : Laid) (first : ℕ) (all : List (AttributeUnit Body)) (w : Laid) (unit : ℕ) (left : List (AttributeUnit Body)) : Type 0 where
  pub rows : laid_rows w (unit_rows unit left) ≡ laid_rows w₀ (unit_rows first all)
  pub number : unit + length left ≡ first + length all

module _ (w₀ : Laid) (first : ℕ) (all : List (AttributeUnit Body)) where
  pub going_holds : (left : List (AttributeUnit Body)) → left ≡ all → Going w₀ first all w₀ first left
  going_holds left e = record { rows = ap (λ (us : List (AttributeUnit Body)). laid_rows w₀ (unit_rows first us)) e; number = ap (λ (us : List (AttributeUnit Body)). first + length us) e }

  module _ (w : Laid) (unit : ℕ) (left : List (AttributeUnit Body)) (g : Going w₀ first all w unit left) where
    module _ (us rest : List (AttributeUnit Body)) (e : left ≡ us ++ rest) where
      going_length : length left ≡ length us + length rest
      going_length = ap length e ∙ length-append us rest

      -- the numbers of those written next are not larger than the last one's
      pub going_fits : (most : ℕ) → first + length all ≤ most → unit + length us ≤ most
      going_fits most h = omega (arith, g.number, going_length)

      pub going_on : (w' : Laid) (unit' : ℕ) → unit' ≡ unit + length us → w' ≡ laid_rows w (unit_rows unit us) → Going w₀ first all w' unit' rest
      going_on w' unit' n f =
          record {
            rows =
                rows_on (laid_rows w₀ (unit_rows first all)) w w' (unit_rows unit left) (unit_rows unit us) (unit_rows unit' rest) g.rows
                (ap (unit_rows unit) e
                ∙ ap (map row_of) (attributes_append unit us rest)
                ∙ map-append row_of (attributes_from (λ (u : ℕ). u) unit us) (attributes_from (λ (u : ℕ). u) (unit + length us) rest)
                ∙ ap (λ (k : ℕ). unit_rows unit us ++ unit_rows k rest) (sym n))
                f;
            number = omega (arith, g.number, going_length, n);
          }

    pub going_done : left ≡ [] → (unit ≡ first + length all) × (w ≡ laid_rows w₀ (unit_rows first all))
    going_done e =
        let n : length left ≡ 0 = ap length e in
        (omega (arith, g.number), rows_done (laid_rows w₀ (unit_rows first all)) w (unit_rows unit left) g.rows (ap (unit_rows unit) e))

-- what a rule makes of a section
module _ (at : ℕ) (l : List Sorted) (schema : ℕ) (action : Action) where
  abbrev made : List (AttributeUnit Body)
  made = unit_for at l action schema

  no_unit : made ≡ [] → (unit : ℕ) (w : Laid) → (unit ≡ unit + length made) × (w ≡ laid_rows w (unit_rows unit made))
  no_unit e unit w =
      let n : length made ≡ 0 = ap length e in
      (omega arith, sym (rows_none w) ∙ ap (λ (us : List (AttributeUnit Body)). laid_rows w (unit_rows unit us)) (sym e))

  pub by_attach : action ≡ Attach → (unit : ℕ) (w : Laid) → (unit ≡ unit + length (unit_for at l action schema)) × (w ≡ laid_rows w (unit_rows unit (unit_for at l action schema)))
  by_attach e = no_unit (ap (λ (a : Action). unit_for at l a schema) e)

  pub by_unwrap : action ≡ Unwrap → (unit : ℕ) (w : Laid) → (unit ≡ unit + length (unit_for at l action schema)) × (w ≡ laid_rows w (unit_rows unit (unit_for at l action schema)))
  by_unwrap e = no_unit (ap (λ (a : Action). unit_for at l a schema) e)

  pub one_unit : action ≡ Validate → length (unit_for at l action schema) ≡ 1
  one_unit e = ap (λ (a : Action). length (unit_for at l a schema)) e

  pub by_validate : action ≡ Validate → (unit : ℕ) (w w' : Laid) → w' ≡ laid_rows w (unit_rows unit (unit_for at l Validate schema))
      → (unit + 1 ≡ unit + length (unit_for at l action schema)) × (w' ≡ laid_rows w (unit_rows unit (unit_for at l action schema)))
  by_validate e unit w w' f = (omega (arith, one_unit e), f ∙ ap (λ (a : Action). laid_rows w (unit_rows unit (unit_for at l a schema))) (sym e))

-- ---- by rule
module _ (at : ℕ) (l : List Sorted) (j : ℕ) where
  abbrev pub by_rules : List Rule → List (AttributeUnit Body)
  by_rules rs = gather (λ (r : Rule). unit_for at (members l j) r.action r.schema) rs

  pub rules_all : (index : List ℕ) (mode class : ℕ) → class ≡ head_class (members l j) → by_rules (rules_in index mode 1 class) ≡ section_units index mode at l j
  unfolding section_units
  rules_all index mode class f = ap (λ (k : ℕ). by_rules (rules_in index mode 1 k)) f

  module _ (rs : List Rule) (w₀ : Laid) (first : ℕ) (all : List (AttributeUnit Body)) (w : Laid) (unit : ℕ) (g : Going w₀ first all w unit (by_rules rs)) where
    pub rule_done : rs ≡ [] → (unit ≡ first + length all) × (w ≡ laid_rows w₀ (unit_rows first all))
    unfolding gather
    rule_done e = going_done w₀ first all w unit (by_rules rs) g (ap by_rules e)

    module _ (rule : Rule) (rest : List Rule) (e : rs ≡ rule ∷ rest) where
      rule_here : by_rules rs ≡ unit_for at (members l j) rule.action rule.schema ++ by_rules rest
      unfolding gather
      rule_here = ap by_rules e

      pub rule_fits : (most : ℕ) → first + length all ≤ most → unit + length (unit_for at (members l j) rule.action rule.schema) ≤ most
      rule_fits = going_fits w₀ first all w unit (by_rules rs) g (unit_for at (members l j) rule.action rule.schema) (by_rules rest) rule_here

      pub rule_on : (w' : Laid) (unit' : ℕ)
          → unit' ≡ unit + length (unit_for at (members l j) rule.action rule.schema)
          → w' ≡ laid_rows w (unit_rows unit (unit_for at (members l j) rule.action rule.schema))
          → Going w₀ first all w' unit' (by_rules rest)
      rule_on = going_on w₀ first all w unit (by_rules rs) g (unit_for at (members l j) rule.action rule.schema) (by_rules rest) rule_here

-- ---- by section, by strand
module _ {A : Type 0} (f : ℕ → A) (made : A → List (AttributeUnit Body)) (n : ℕ) where
  -- those of f i, .., f (n - 1)
  abbrev pub units_from : ℕ → List (AttributeUnit Body)
  units_from i = gather made (tabulate f i (n - i))

  pub all_units : units_from 0 ≡ gather made (tabulate f 0 n)
  all_units = let e : n - 0 ≡ n = omega arith in ap (λ (k : ℕ). gather made (tabulate f 0 k)) e

  module _ (i : ℕ) (w₀ : Laid) (first : ℕ) (all : List (AttributeUnit Body)) (w : Laid) (unit : ℕ) (g : Going w₀ first all w unit (units_from i)) where
    pub part_done : n ≤ i → (unit ≡ first + length all) × (w ≡ laid_rows w₀ (unit_rows first all))
    unfolding gather
    part_done h = going_done w₀ first all w unit (units_from i) g (ap (gather made) (tabulate_done f i n h))

    module _ (h : i < n) where
      part_here : units_from i ≡ made (f i) ++ units_from (i + 1)
      unfolding gather
      part_here = ap (gather made) (tabulate_here f i n h)

      pub part_fits : (most : ℕ) → first + length all ≤ most → unit + length (made (f i)) ≤ most
      part_fits = going_fits w₀ first all w unit (units_from i) g (made (f i)) (units_from (i + 1)) part_here

      pub part_on : (w' : Laid) (unit' : ℕ) → unit' ≡ unit + length (made (f i)) → w' ≡ laid_rows w (unit_rows unit (made (f i))) → Going w₀ first all w' unit' (units_from (i + 1))
      part_on = going_on w₀ first all w unit (units_from i) g (made (f i)) (units_from (i + 1)) part_here

pub all_sections : (index : List ℕ) (at : ℕ) (l : List Sorted) (m mode : ℕ) → units_from (λ (j : ℕ). j) (section_units index mode at l) (m + 1) 1 ≡ strand_units index at l m mode
unfolding strand_units
all_sections index at l m mode = let e : m + 1 - 1 ≡ m = omega arith in ap (λ (k : ℕ). gather (section_units index mode at l) (tabulate (λ (j : ℕ). j) 1 k)) e

-- along the strand in a word
abbrev pub word_units : List ℕ → ℕ → List Sorted → ℕ → ℕ → List (AttributeUnit Body)
word_units index at l m w = strand_units index at l m (strand_in w).mode

abbrev pub word_in : List ℕ → ℕ → ℕ
word_in words i = get_or words i 0

module _ (index : List ℕ) (at : ℕ) (l : List Sorted) (m : ℕ) (words : List ℕ) (count k : ℕ) (w₀ : Laid) (first : ℕ) (all : List (AttributeUnit Body)) (w : Laid) (unit : ℕ)
    (g : Going w₀ first all w unit (units_from (word_in words) (word_units index at l m) count k)) (h : k < count) (mode : ℕ) (e : mode ≡ (strand_in (get_or words k 0)).mode) where
  pub strand_fits_lem : (most : ℕ) → first + length all ≤ most → unit + length (strand_units index at l m mode) ≤ most
  strand_fits_lem most f = rw e (part_fits (word_in words) (word_units index at l m) count k w₀ first all w unit g h most f)

  pub strand_on : (w' : Laid) (unit' : ℕ) → unit' ≡ unit + length (strand_units index at l m mode) → w' ≡ laid_rows w (unit_rows unit (strand_units index at l m mode))
      → Going w₀ first all w' unit' (units_from (word_in words) (word_units index at l m) count (k + 1))
  strand_on w' unit' n f =
      part_on (word_in words) (word_units index at l m) count k w₀ first all w unit g h w' unit'
      (n ∙ ap (λ (x : ℕ). unit + length (strand_units index at l m x)) e)
      (f ∙ ap (λ (x : ℕ). laid_rows w (unit_rows unit (strand_units index at l m x))) e)
