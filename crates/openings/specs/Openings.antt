-- An element that opens, as the arrays have it: what is decided, and what writing needs. A device. Definitions.
use Rattle.std.specs.Prelude.{ℕ, ◌+◌, ◌-◌, ◌≤◌, ◌<◌, ◌≡◌, List, length, get_or}
use Rattle.laws.specs.Lists.{tabulate}
use Rattle.laws.specs.Gather.{gather}
use Rattle.lexer.specs.declared.Tag.{Tag}
use Rattle.reader.specs.Stored.{narrowed}
use Rattle.model.specs.Theory.{AttributeUnit}
use Rattle.model.specs.Records.{Body}
use Rattle.attributes.specs.declared.Placing.{Placing}
use Rattle.strands.specs.declared.Begun.{Begun}
use Rattle.strands.specs.Packed.{strand_in}
use Rattle.strands.specs.Writing.{strand_units}
use Rattle.attributes.specs.Attributes.{all_sorted}
use Rattle.openings.specs.declared.Decided.{Decided}

-- the attribute units of a start, of the strands and attributes in the arrays
abbrev pub array_units : List ℕ → List ℕ → List ℕ → List ℕ → ℕ → Decided → List (AttributeUnit Body)
array_units index attributes sections words tag r =
    gather (λ (w : ℕ). strand_units index tag (all_sorted attributes sections r.attributes) r.sections (strand_in w).mode)
    (tabulate (λ (k : ℕ). get_or words k 0) 0 r.strands)

-- what writing a start needs of the arrays
pub record Openable (index attributes sections words schemas : List ℕ) (tag units : ℕ) (r : Decided) : Type 0 where
  pub few_strands : r.strands ≤ 16
  pub few_attributes : r.attributes ≤ 16
  pub few_sections : r.sections ≤ 16
  pub none_foreign : r.sections ≡ 0 → (k : ℕ) → k < r.attributes → get_or sections k 0 ≡ 0
  pub schemas_small : (k : ℕ) → k < r.strands → get_or schemas k 0 < 256
  pub few_units : units + length (array_units index attributes sections words tag r) ≤ 65536

-- what the starts of an element along its strands have in common
abbrev pub begun_of : ℕ → Tag → Placing → Begun
begun_of at tag placing =
    record {
      tag = narrowed at;
      class = placing.class;
      at = narrowed tag.name.part;
      len = narrowed (tag.name.end - tag.name.part);
      uri_at = narrowed placing.at;
      uri_len = narrowed placing.len;
    }
