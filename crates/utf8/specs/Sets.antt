-- Sets of characters, by ranges of code points: productions of XML 1.0, fifth edition. Definitions.
use Rattle.std.specs.Prelude.{ℕ, List, [], ◌∷◌, ◌++◌, Bool, ◌&&◌, leb}
use Rattle.laws.specs.Lists.{any}
use Rattle.utf8.specs.declared.Range.{Range}
use Rattle.utf8.specs.declared.Set.{Set}
use Rattle.utf8.specs.declared.Set.TheVariants as set

abbrev pub to : ℕ → ℕ → Range
to first last = record { first = first; last = last }

abbrev pub in_range : ℕ → Range → Bool
in_range c r = leb r.first c && leb c r.last

unfoldable pub member : List Range → ℕ → Bool
member ranges c = any (in_range c) ranges

-- [4] NameStartChar ::= ":" | [A-Z] | "_" | [a-z] | [#xC0-#xD6] | [#xD8-#xF6] | [#xF8-#x2FF] | [#x370-#x37D] | [#x37F-#x1FFF] | [#x200C-#x200D]
-- | [#x2070-#x218F] | [#x2C00-#x2FEF] | [#x3001-#xD7FF] | [#xF900-#xFDCF] | [#xFDF0-#xFFFD] | [#x10000-#xEFFFF], "without the colon"
abbrev pub name_start_char : List Range
name_start_char =
    to 0x41 0x5A
    ∷ to 0x5F 0x5F
    ∷ to 0x61 0x7A
    ∷ to 0xC0 0xD6
    ∷ to 0xD8 0xF6
    ∷ to 0xF8 0x2FF
    ∷ to 0x370 0x37D
    ∷ to 0x37F 0x1FFF
    ∷ to 0x200C 0x200D
    ∷ to 0x2070 0x218F
    ∷ to 0x2C00 0x2FEF
    ∷ to 0x3001 0xD7FF
    ∷ to 0xF900 0xFDCF
    ∷ to 0xFDF0 0xFFFD
    ∷ to 0x10000 0xEFFFF
    ∷ []

-- [4a] NameChar ::= NameStartChar | "-" | "." | [0-9] | #xB7 | [#x0300-#x036F] | [#x203F-#x2040]
abbrev pub name_char : List Range
name_char =
    name_start_char
    ++ (to 0x2D 0x2D
    ∷ to 0x2E 0x2E
    ∷ to 0x30 0x39
    ∷ to 0xB7 0xB7
    ∷ to 0x300 0x36F
    ∷ to 0x203F 0x2040
    ∷ [])

-- [2] Char ::= #x9 | #xA | #xD | [#x20-#xD7FF] | [#xE000-#xFFFD] | [#x10000-#x10FFFF]
abbrev pub char : List Range
char = to 0x9 0x9 ∷ to 0xA 0xA ∷ to 0xD 0xD ∷ to 0x20 0xD7FF ∷ to 0xE000 0xFFFD ∷ to 0x10000 0x10FFFF ∷ []

-- what may begin a name part, what may go on with one, and what text, values, comments and instructions hold
abbrev pub ranges_of : Set → List Range
ranges_of set.Start = name_start_char
ranges_of set.Name = name_char
ranges_of set.Char = char
