-- Laws of the bytes that can begin a character.
--     begins_form                 how the answer is found
--     begins_so, begins_some      what it says
--     whole_left                  bytes that can begin a character are one where none is to come
--     form_short                  the first bytes of a character are no form
--     ascii_begins, ascii_breaks  a byte below 80: a character by itself, and inside of none
use Prim.Native.Nat.{ℕ, ◌<◌}
use mathlib.Core.Path.{◌≡◌, refl, sym, ap, ◌∙◌}
use mathlib.Core.List.{List, [], ◌∷◌, ◌++◌}
use mathlib.Core.Bool.{Bool, true, false}
use native.Mathlib.Omega.{arith}
use borrow.Author.Tests.{ne_eqb}
use lib.Dec.{eqb}
use lib.ListN.{length}
use Rattle.laws.specs.Lists.{same_list}
use Rattle.compare.proofs.Equal.{same_refl, same_eq}
use Rattle.utf8.specs.declared.Set.{Set}
use Rattle.utf8.specs.Utf8.{utf8, code_point, is_form}
use Rattle.utf8.specs.Sets.{member, ranges_of}
use Rattle.utf8.specs.Beginnings.{Begins}
use Rattle.utf8.specs.Forms.{next_form, form_from, form_of, least, most, form_begins}
use Rattle.utf8.proofs.Deciding.{ranged, first_one, sound, complete, set_ordered, by_test, decided}
use Rattle.utf8.proofs.FormLaws.{code_point_utf8, ascii_form, begun_left, low_next}
use Rattle.characters.specs.CanBegin.{answer_of, begins}

answer_test : {P : Type 0} (t : Bool) (f : t ≡ true → P) (g : P → t ≡ true) → answer_of (by_test t f g) ≡ t
unfolding by_test
answer_test true f g = refl
answer_test false f g = refl

pub begins_form : (x : Set) (bytes : List ℕ) (b : ℕ) → begins x bytes b ≡ form_begins (ranges_of x) (next_form (form_of bytes) b)
unfolding begins decided
begins_form x bytes b = answer_test (form_begins (ranges_of x) (next_form (form_of bytes) b)) (sound (ranges_of x) bytes b (set_ordered x)) (complete (ranges_of x) bytes b)

pub begins_so : (x : Set) (bytes : List ℕ) (b : ℕ) → begins x bytes b ≡ true → Begins (ranges_of x) bytes b
begins_so x bytes b e = sound (ranges_of x) bytes b (set_ordered x) (sym (begins_form x bytes b) ∙ e)

pub begins_some : (x : Set) (bytes : List ℕ) (b : ℕ) → Begins (ranges_of x) bytes b → begins x bytes b ≡ true
begins_some x bytes b h = begins_form x bytes b ∙ complete (ranges_of x) bytes b h

-- no byte is to come: the bytes are the form
pub whole_left : (x : Set) (bytes : List ℕ) (b : ℕ) → begins x bytes b ≡ true → is_form (bytes ++ (b ∷ [])) ≡ eqb (next_form (form_of bytes) b).left 0
unfolding is_form
whole_left x bytes b e = by h.rest h.form (ranged h.character bytes b h.rest h.form).1
  where
    h : Begins (ranges_of x) bytes b
    h = begins_so x bytes b e

    l : List ℕ
    l = bytes ++ (b ∷ [])

    not_true : (t : Bool) → (t ≡ true → ⊥) → t ≡ false
    not_true true n = absurd (n refl)
    not_true false n = refl

    by : (rest : List ℕ) → utf8 h.character ≡ bytes ++ (b ∷ rest) → (next_form (form_of bytes) b).left ≡ length rest → same_list (utf8 (code_point l)) l ≡ eqb (next_form (form_of bytes) b).left 0
    by [] f g =
        let d : code_point l ≡ h.character = ap code_point (sym f) ∙ code_point_utf8 h.character in
        rw (g, d, f) (same_refl l)
    by (y ∷ rest) f g =
        rw (g, ne_eqb (length (y ∷ rest)) 0 (λ z. omega arith)) (not_true (same_list (utf8 (code_point l)) l) (λ s. let k = (ranged (code_point l) bytes b [] (same_eq (utf8 (code_point l)) l s)).1 in omega arith))

pub form_short : (x : Set) (c : ℕ) → member (ranges_of x) c ≡ true → (bytes : List ℕ) (b d : ℕ) (rest : List ℕ) → utf8 c ≡ bytes ++ (b ∷ d ∷ rest) → is_form (bytes ++ (b ∷ [])) ≡ false
form_short x c m bytes b d rest f =
    whole_left x bytes b (begins_some x bytes b (record { character = c; allowed = m; rest = d ∷ rest; form = f }))
    ∙ ne_eqb (next_form (form_of bytes) b).left 0 (λ e. let k = (ranged c bytes b (d ∷ rest) f).1 in omega arith)

-- ---- bytes below 80
pub ascii_begins : (x : Set) (b : ℕ) → b < 0x80 → begins x [] b ≡ member (ranges_of x) b
unfolding form_of form_from next_form
ascii_begins x b h = begins_form x [] b ∙ ap (form_begins (ranges_of x)) (first_one b b h) ∙ ascii_form (ranges_of x) b

pub ascii_breaks : (x : Set) (a : ℕ) (bytes : List ℕ) (b : ℕ) → b < 0x80 → begins x (a ∷ bytes) b ≡ false
unfolding form_begins least most
ascii_breaks x a bytes b h = begins_form x (a ∷ bytes) b ∙ ap (form_begins (ranges_of x)) (low_next (form_of (a ∷ bytes)) b (begun_left a bytes) h)
