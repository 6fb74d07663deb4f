-- Laws of UTF-8 and of forms.
--     code_point_utf8           the code point of a form is the one that was encoded
--     form_more                the form after a byte more
--     form_whole               a code point's bytes are a form
--     ascii_whole, ascii_form  a byte below 80: a character by itself, of the sets that have it
--     begun_left, low_next     behind its first byte a form has fewer than four bytes to come, and goes on with none below 80
use Prim.Native.Nat.{ℕ, ◌*◌, ◌≤◌, ◌<◌}
use mathlib.Core.Path.{◌≡◌, refl, sym, ap, ◌∙◌}
use mathlib.Core.List.{List, [], ◌∷◌, ◌++◌}
use mathlib.Core.Bool.{true, ◌&&◌, and-false}
use native.Mathlib.Omega.{arith}
use borrow.Author.Tests.{lt-ltb, le-leb, lt-leb, ltb-true, ne_eqb}
use lib.Dec.{leb, ltb}
use Rattle.laws.proofs.Holds.{holds_cond}
use Rattle.compare.proofs.Equal.{same_refl}
use Rattle.utf8.specs.declared.Range.{Range}
use Rattle.utf8.specs.declared.Form.{Form}
use Rattle.utf8.specs.Utf8.{utf8, code_point, is_form}
use Rattle.utf8.specs.Sets.{member}
use Rattle.utf8.specs.Forms.{form, fresh, no_form, first_form, next_form, form_from, form_of, least, most, form_begins}
use Rattle.utf8.proofs.Deciding.{bits2, bits3}

pub code_point_utf8 : (c : ℕ) → code_point (utf8 c) ≡ c
unfolding utf8 code_point
code_point_utf8 c =
    holds_cond (λ (l : List ℕ). code_point l ≡ c) (ltb c 0x80) (λ e. refl)
    (λ x. holds_cond (λ (l : List ℕ). code_point l ≡ c) (ltb c 0x800) (λ e. omega arith)
    (λ y. holds_cond (λ (l : List ℕ). code_point l ≡ c) (ltb c 0x10000) (λ e. omega (arith, bits2 c)) (λ e. omega (arith, bits3 c))))

pub form_more : (bytes : List ℕ) (b : ℕ) → form_of (bytes ++ (b ∷ [])) ≡ next_form (form_of bytes) b
unfolding form_of form_from
form_more bytes b = from fresh bytes
  where
    from : (f : Form) (l : List ℕ) → form_from f (l ++ (b ∷ [])) ≡ next_form (form_from f l) b
    from f [] = refl
    from f (x ∷ l) = from (next_form f x) l

pub form_whole : (c : ℕ) (l : List ℕ) → utf8 c ≡ l → is_form l ≡ true
unfolding is_form
form_whole c l f = let d : code_point l ≡ c = ap code_point (sym f) ∙ code_point_utf8 c in rw (d, f) (same_refl l)

-- ---- bytes below 80
pub ascii_whole : (b : ℕ) → b < 0x80 → is_form (b ∷ []) ≡ true
unfolding is_form utf8 code_point
ascii_whole b h = rw (lt-ltb b 0x80 h) (same_refl (b ∷ []))

-- the range of one code point
one_least : (b : ℕ) → least (form 0 b 0) ≡ b
unfolding least
one_least b = holds_cond (λ (m : ℕ). m ≡ b) (ltb (b * 1) 0) (λ e. omega (arith, ltb-true (b * 1) 0 e)) (λ e. omega arith)

one_most : (b : ℕ) → most (form 0 b 0) ≡ b
unfolding most
one_most b = omega arith

pub ascii_form : (ranges : List Range) (b : ℕ) → form_begins ranges (form 0 b 0) ≡ member ranges b
unfolding form_begins member
ascii_form ranges b = rw (one_least b, one_most b, le-leb b b (omega arith))

-- behind its first byte a form has fewer than four bytes to come
first_left : (a : ℕ) → (first_form a).left ≤ 3
unfolding first_form
first_left a =
    holds_cond Few (ltb a 0x80) (λ e. omega arith)
    (λ e. holds_cond Few (ltb a 0xC0) (λ e. omega arith)
    (λ e. holds_cond Few (ltb a 0xE0) (λ e. omega arith)
    (λ e. holds_cond Few (ltb a 0xF0) (λ e. omega arith) (λ e. omega arith))))
  where
    Few : Form → Type 0
    Few f = f.left ≤ 3

next_left : (f : Form) (b : ℕ) → f.left ≤ 3 → (next_form f b).left ≤ 3
unfolding next_form
next_left f b h =
    rw (ne_eqb f.left 4 (λ e. omega arith))
    (holds_cond (λ (g : Form). g.left ≤ 3) (ltb 0 f.left && leb 0x80 b && leb b 0xBF) (λ e. omega arith) (λ e. omega arith))

pub begun_left : (a : ℕ) (bytes : List ℕ) → (form_of (a ∷ bytes)).left ≤ 3
unfolding form_of form_from next_form
begun_left a bytes = from (first_form a) bytes (first_left a)
  where
    from : (f : Form) (l : List ℕ) → f.left ≤ 3 → (form_from f l).left ≤ 3
    from f [] h = h
    from f (x ∷ l) h = from (next_form f x) l (next_left f x h)

pub low_next : (f : Form) (b : ℕ) → f.left ≤ 3 → b < 0x80 → next_form f b ≡ no_form
unfolding next_form
low_next f b h lt = simp (ne_eqb f.left 4 (λ e. omega arith), lt-leb 0x80 b lt, and-false)
