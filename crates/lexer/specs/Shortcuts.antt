-- Devices: which bytes below 80 may stand in a name and in text, as the code tests them.
use Rattle.std.specs.Prelude.{ℕ, Bool, ◌||◌, leb, eqb}
use Rattle.lexer.specs.Names.{within}

-- letters and _
abbrev pub is_start : ℕ → Bool
is_start b = within 0x41 0x5A b || within 0x61 0x7A b || eqb b 0x5F

-- letters, digits, - . _
abbrev pub is_name : ℕ → Bool
is_name b = within 0x41 0x5A b || within 0x61 0x7A b || within 0x30 0x39 b || eqb b 0x2D || eqb b 0x2E || eqb b 0x5F

-- of bytes below 80, those of text
abbrev pub is_char : ℕ → Bool
is_char b = leb 0x20 b || eqb b 0x0A || eqb b 0x09 || eqb b 0x0D
