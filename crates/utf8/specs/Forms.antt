-- Devices: the code points whose form begins with some bytes are a range. What is known of a form after its first bytes; least to most: the range.
use Rattle.std.specs.Prelude.{ℕ, zero, suc, ◌+◌, ◌-◌, ◌*◌, ◌≤◌, List, [], ◌∷◌, Bool, cond, ◌&&◌, leb, ltb, eqb}
use Rattle.laws.specs.Lists.{any}
use Rattle.utf8.specs.declared.Range.{Range}
use Rattle.utf8.specs.declared.Form.{Form}

abbrev pub form : ℕ → ℕ → ℕ → Form
form left value floor = record { left = left; value = value; floor = floor }

-- before the first byte; and where no form begins with the bytes
abbrev pub fresh : Form
fresh = form 4 0 0

abbrev pub no_form : Form
no_form = form 0 0 1

unfoldable pub first_form : ℕ → Form
first_form b =
    cond (ltb b 0x80) (form 0 b 0)
    (cond (ltb b 0xC0) no_form
    (cond (ltb b 0xE0) (form 1 (b - 0xC0) 0x80)
    (cond (ltb b 0xF0) (form 2 (b - 0xE0) 0x800) (form 3 (b - 0xF0) 0x10000))))

unfoldable pub next_form : Form → ℕ → Form
next_form f b =
    cond (eqb f.left 4) (first_form b)
    (cond (ltb 0 f.left && leb 0x80 b && leb b 0xBF) (form (f.left - 1) (f.value * 0x40 + (b - 0x80)) f.floor) no_form)

unfoldable pub form_from : Form → List ℕ → Form
form_from f [] = f
form_from f (b ∷ l) = form_from (next_form f b) l

unfoldable pub form_of : List ℕ → Form
form_of l = form_from fresh l

-- how many code points share the bytes so far
abbrev pub size : ℕ → ℕ
size zero = 1
size (suc zero) = 0x40
size (suc (suc zero)) = 0x1000
size (suc (suc (suc n))) = 0x40000

abbrev pub larger : ℕ → ℕ → ℕ
larger a b = cond (ltb a b) b a

unfoldable pub least : Form → ℕ
least f = larger (f.value * size f.left) f.floor

unfoldable pub most : Form → ℕ
most f = f.value * size f.left + size f.left - 1

-- a range and the code points from lo to hi have one in common
abbrev pub meets : ℕ → ℕ → Range → Bool
meets lo hi r = leb r.first hi && leb lo r.last

-- four bytes at most, and its code points are below 400000, so that its numbers are small
abbrev pub Bounded : Form → Type 0
Bounded f = (f.left ≤ 4) × ((f.value + 1) * size f.left ≤ 0x400000)

unfoldable pub form_begins : List Range → Form → Bool
form_begins ranges f = leb (least f) (most f) && any (meets (least f) (most f)) ranges
