-- UTF-8: the bytes of a code point, and the code point of such bytes. Definitions.
use Rattle.std.specs.Prelude.{ℕ, ◌+◌, ◌-◌, ◌*◌, ◌/◌, ◌%◌, List, [], ◌∷◌, Bool, cond, ltb}
use Rattle.laws.specs.Lists.{same_list}

-- "read from UTF-8": a code point's form, in as few bytes as it needs, six bits in each byte behind the first
unfoldable pub utf8 : ℕ → List ℕ
utf8 c =
    cond (ltb c 0x80) (c ∷ [])
    (cond (ltb c 0x800) ((0xC0 + c / 0x40) ∷ (0x80 + c % 0x40) ∷ [])
    (cond (ltb c 0x10000) ((0xE0 + c / 0x1000) ∷ (0x80 + c / 0x40 % 0x40) ∷ (0x80 + c % 0x40) ∷ [])
    ((0xF0 + c / 0x40000) ∷ (0x80 + c / 0x1000 % 0x40) ∷ (0x80 + c / 0x40 % 0x40) ∷ (0x80 + c % 0x40) ∷ [])))

-- the code point whose form these bytes are, if they are one
unfoldable pub code_point : List ℕ → ℕ
code_point [] = 0
code_point (a ∷ []) = a
code_point (a ∷ b ∷ []) = (a - 0xC0) * 0x40 + (b - 0x80)
code_point (a ∷ b ∷ c ∷ []) = ((a - 0xE0) * 0x40 + (b - 0x80)) * 0x40 + (c - 0x80)
code_point (a ∷ b ∷ c ∷ d ∷ rest) = (((a - 0xF0) * 0x40 + (b - 0x80)) * 0x40 + (c - 0x80)) * 0x40 + (d - 0x80)

-- these bytes are a code point's form
unfoldable pub is_form : List ℕ → Bool
is_form bytes = same_list (utf8 (code_point bytes)) bytes
