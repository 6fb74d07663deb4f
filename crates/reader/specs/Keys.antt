-- Keys of a tag's attributes: where two differ, the names do, so that number 6 does not look at them. Definitions.
use Rattle.std.specs.Prelude.{ℕ, ◌-◌, ◌≤◌, ◌<◌, ◌≡◌, List, false, length, get_or}
use Rattle.laws.specs.Lists.{same_list}
use Rattle.lexer.specs.Attrs.{attr_in}
use Rattle.lexer.specs.declared.Name.{Name}
use Rattle.reader.specs.Spans.{bytes_of, whole_span, part_span}

-- a name that stands in the scene, its part not empty, and its last byte, which is the part's too
pub record EndsWith (s : List ℕ) (n : Name) (byte : ℕ) : Type 0 where
  pub whole : n.at < n.end
  pub part : n.part < n.end
  pub inside : n.end ≤ length s
  pub last : byte ≡ get_or s (n.end - 1) 0

-- two names that are not the same as written, nor behind their prefixes
pub record Unlike (s : List ℕ) (m n : Name) : Type 0 where
  pub wholes : same_list (bytes_of s (whole_span m)) (bytes_of s (whole_span n)) ≡ false
  pub parts : same_list (bytes_of s (part_span m)) (bytes_of s (part_span n)) ≡ false

-- of the first n attributes, those whose keys differ have names that are unlike
abbrev pub Keys : List ℕ → List ℕ → ℕ → List ℕ → Type 0
Keys s array n keys = (i j : ℕ) → i < n → j < n → (get_or keys i 0 ≡ get_or keys j 0 → ⊥) → Unlike s (attr_in array i).name (attr_in array j).name
