-- Attributes in an array of numbers, five to an attribute: name, part, end of the name, value, end of the value. Definitions.
use Rattle.std.specs.Prelude.{ℕ, ◌+◌, ◌*◌, List, [], ◌∷◌, ◌++◌, cond, length, get_or, drop, leb}
use Rattle.laws.specs.Lists.{tabulate}
use Rattle.laws.specs.Gather.{gather}
use Rattle.lexer.specs.declared.Attr.{Attr}

abbrev pub attr_numbers : Attr → List ℕ
attr_numbers a = a.name.at ∷ a.name.part ∷ a.name.end ∷ a.value ∷ a.stop ∷ []

-- the array with these attributes from its first place on, and what it held behind them
unfoldable pub laid : List Attr → List ℕ → List ℕ
laid l array = gather attr_numbers l ++ drop (5 * length l) array

-- the k-th attribute of an array
unfoldable pub attr_in : List ℕ → ℕ → Attr
attr_in array k =
    record {
      name = record { at = get_or array (5 * k) 0; part = get_or array (5 * k + 1) 0; end = get_or array (5 * k + 2) 0 };
      value = get_or array (5 * k + 3) 0;
      stop = get_or array (5 * k + 4) 0;
    }

-- the first count attributes of an array, which holds 16
unfoldable pub attrs_in : List ℕ → ℕ → List Attr
attrs_in array count = tabulate (attr_in array) 0 (cond (leb count 16) count 16)
