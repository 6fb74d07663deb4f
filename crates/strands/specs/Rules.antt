-- The rules of a mode, kind and class as the table's index holds them. A device: they are `rules_of`, by `chosen_rules`. Definitions.
use Rattle.std.specs.Prelude.{ℕ, List, [], ◌∷◌, map, Bool, eqb}
use Rattle.std.proofs.Math.Seq.{slice}
use Rattle.laws.specs.Lists.{keep, any}
use Rattle.laws.specs.Gather.{total}
use Rattle.table.specs.Table.{rule_of, or_else, standard, fallback}
use Rattle.table.specs.Index.{key_of, chosen_of}
use Rattle.table.specs.declared.Action.{Action}
use Rattle.table.specs.declared.Action.TheVariants.{Attach, Unwrap, Validate}
use Rattle.table.specs.declared.Rule.{Rule}
use Rattle.strands.specs.declared.rules.Rules.{Rules}
use Rattle.model.specs.Groups.{is_attach}

-- those of some words that have a key
abbrev pub rules_of_key : ℕ → List ℕ → List Rule
rules_of_key key words = map rule_of (keep (λ (w : ℕ). eqb (key_of w) key) words)

unfoldable pub rules_in : List ℕ → ℕ → ℕ → ℕ → List Rule
rules_in index mode kind class =
    let c = chosen_of index mode kind class in
    rules_of_key c.key (slice c.first c.end index)

-- those that are still to come from an iterator
unfoldable pub rules_left : Rules → List Rule
rules_left r = rules_of_key r.key r.words.now

-- "attach keeps them with the element": of a section of attributes of this class; with no rule "it is attached", N3
abbrev pub keeps_class : List ℕ → ℕ → ℕ → Bool
keeps_class index mode class = any (λ (r : Rule). is_attach r.action) (or_else (rules_in index mode 1 class) (fallback standard.attribute 1 mode ∷ []))

-- "each validate rule opens a unit": how many it opens
abbrev pub opened : Action → ℕ
opened Attach = 0
opened Unwrap = 0
opened Validate = 1

abbrev pub units_for : List ℕ → ℕ → ℕ → ℕ
units_for index mode class = total (λ (r : Rule). opened r.action) (rules_in index mode 1 class)
