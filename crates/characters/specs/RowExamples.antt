-- Worked examples, by computation: the rows of request N5, "in the order of the production's own alternatives", with the code points before, at and behind the ends of each.
use Rattle.std.specs.Prelude.{ℕ, ◌+◌, ◌-◌, ◌≡◌, refl, List, [], ◌∷◌, ◌++◌, map, Bool, true, false, ◌&&◌}
use Rattle.laws.specs.Lists.{any}
use Rattle.utf8.specs.declared.Range.{Range}
use Rattle.utf8.specs.declared.Set.{Set}
use Rattle.utf8.specs.declared.Set.TheVariants as set
use Rattle.utf8.specs.Utf8.{utf8}
use Rattle.utf8.specs.Sets.{member, name_start_char, name_char}
use Rattle.utf8.specs.Forms.{first_form, next_form, form_from, form_of, least, most, form_begins}
use Rattle.utf8.proofs.Deciding.{by_test, decided}
use Rattle.characters.specs.CanBegin.{begins}

-- may it begin a part; may it go on in one
record Marks : Type 0 where
  begins_part : Bool
  goes_on : Bool

-- the page's SN, -N and --
abbrev SN : Marks
SN = record { begins_part = true; goes_on = true }

abbrev o_n : Marks
o_n = record { begins_part = false; goes_on = true }

abbrev oo : Marks
oo = record { begins_part = false; goes_on = false }

-- a code point, by the sets
abbrev in_sets : ℕ → Marks
in_sets c = record { begins_part = member name_start_char c; goes_on = member name_char c }

-- each of these bytes can stand behind those before it
unfoldable spelled : Set → List ℕ → List ℕ → Bool
spelled x begun [] = true
spelled x begun (b ∷ rest) = begins x begun b && spelled x (begun ++ (b ∷ [])) rest

-- a code point, by the bytes of its form
abbrev in_bytes : ℕ → Marks
in_bytes c = record { begins_part = spelled set.Start [] (utf8 c); goes_on = spelled set.Name [] (utf8 c) }

record Row : Type 0 where
  first : ℕ
  last : ℕ
  before : Marks
  at_first : Marks
  at_last : Marks
  behind : Marks

abbrev row : ℕ → ℕ → Marks → Marks → Marks → Marks → Row
row first last before at_first at_last behind =
    record { first = first; last = last; before = before; at_first = at_first; at_last = at_last; behind = behind }

abbrev with_marks : (ℕ → Marks) → Range → Row
with_marks marks r = row r.first r.last (marks (r.first - 1)) (marks r.first) (marks r.last) (marks (r.last + 1))

-- rows 1 to 15
abbrev start_rows : List Row
start_rows =
    row 0x41 0x5A oo SN SN oo
    ∷ row 0x5F 0x5F oo SN SN oo
    ∷ row 0x61 0x7A oo SN SN oo
    ∷ row 0xC0 0xD6 oo SN SN oo
    ∷ row 0xD8 0xF6 oo SN SN oo
    ∷ row 0xF8 0x2FF oo SN SN o_n
    ∷ row 0x370 0x37D o_n SN SN oo
    ∷ row 0x37F 0x1FFF oo SN SN oo
    ∷ row 0x200C 0x200D oo SN SN oo
    ∷ row 0x2070 0x218F oo SN SN oo
    ∷ row 0x2C00 0x2FEF oo SN SN oo
    ∷ row 0x3001 0xD7FF oo SN SN oo
    ∷ row 0xF900 0xFDCF oo SN SN oo
    ∷ row 0xFDF0 0xFFFD oo SN SN oo
    ∷ row 0x10000 0xEFFFF oo SN SN oo
    ∷ []

-- rows 16 to 21
abbrev name_rows : List Row
name_rows =
    row 0x2D 0x2D oo o_n o_n o_n
    ∷ row 0x2E 0x2E o_n o_n o_n oo
    ∷ row 0x30 0x39 oo o_n o_n oo
    ∷ row 0xB7 0xB7 oo o_n o_n oo
    ∷ row 0x300 0x36F SN o_n o_n SN
    ∷ row 0x203F 0x2040 oo o_n o_n oo
    ∷ []

by_sets : (map (with_marks in_sets) name_start_char ≡ start_rows) × (map (with_marks in_sets) name_char ≡ start_rows ++ name_rows)
unfolding member any
by_sets = (refl, refl)

by_bytes : (map (with_marks in_bytes) name_start_char ≡ start_rows) × (map (with_marks in_bytes) name_char ≡ start_rows ++ name_rows)
unfolding spelled begins decided by_test form_begins most least form_of form_from next_form first_form utf8 any
by_bytes = (refl, refl)
