-- What was found as a number, and back.
--     InRange, attribute_in_range      the indices are small
--     code_small, found_back           so are the numbers, and they tell what was found
--     then_bound, then_unbound         a number before the others
--     codes_within                     the numbers of a tag's attributes
use Prim.Native.Nat.{ℕ, ◌+◌, ◌-◌, ◌≤◌, ◌<◌}
use mathlib.Core.Path.{◌≡◌, refl}
use mathlib.Core.List.{List, [], ◌∷◌}
use mathlib.Core.Bool.{true, false}
use native.Mathlib.Omega.{arith}
use borrow.Author.Tests.{ne_eqb, lt-ltb, le-ltb}
use Rattle.laws.specs.Members.{All}
use Rattle.lexer.specs.declared.Name.{Name}
use Rattle.lexer.specs.declared.Attr.{Attr}
use Rattle.reader.specs.Stored.{at_most, found_attribute, code_of, found_in, code_then, codes_of, is_unbound}
use Rattle.reader.specs.Known.{Within}
use Rattle.reader.specs.declared.Found.{Found}
use Rattle.reader.specs.declared.Found.TheVariants as found
use Rattle.reader.proofs.Indexed.{at_most_le}
use Rattle.reader.proofs.Within.{attribute_within}

abbrev pub InRange : Found → Type 0
InRange found.Nothing = Unit {0}
InRange found.Xml = Unit {0}
InRange (found.Own k) = k < 16
InRange (found.Open k) = k < 64
InRange found.Unbound = Unit {0}

in_range_lem : (a b : ℕ) (f : Found) → Within a b f → a ≤ 16 → b ≤ 64 → InRange f
in_range_lem a b found.Nothing h la lb = tt
in_range_lem a b found.Xml h la lb = tt
in_range_lem a b (found.Own k) h la lb = omega arith
in_range_lem a b (found.Open k) h la lb = omega arith
in_range_lem a b found.Unbound h la lb = tt

pub attribute_in_range : (s own : List ℕ) (owned : ℕ) (open' : List ℕ) (bound : ℕ) (n : Name) → InRange (found_attribute s own owned open' bound n)
attribute_in_range s own owned open' bound n =
    in_range_lem (at_most 16 owned) (at_most 64 bound) (found_attribute s own owned open' bound n) (attribute_within s own owned open' bound n)
    (at_most_le 16 owned (at_most 16 owned) refl)
    (at_most_le 64 bound (at_most 64 bound) refl)

pub code_small : (f : Found) → InRange f → code_of f < 82
code_small found.Nothing h = omega arith
code_small found.Xml h = omega arith
code_small (found.Own k) h = omega arith
code_small (found.Open k) h = omega arith
code_small found.Unbound h = omega arith

pub found_back : (f : Found) → InRange f → is_unbound f ≡ false → found_in (code_of f) ≡ f
found_back found.Nothing h e = refl
found_back found.Xml h e = refl
found_back (found.Own k) h e =
    let q : 2 + k - 2 ≡ k = omega arith in
    rw (ne_eqb (2 + k) 0 (λ z. omega arith), ne_eqb (2 + k) 1 (λ z. omega arith), lt-ltb (2 + k) 18 (omega arith), q)
found_back (found.Open k) h e =
    let q : 18 + k - 18 ≡ k = omega arith in
    rw (ne_eqb (18 + k) 0 (λ z. omega arith), ne_eqb (18 + k) 1 (λ z. omega arith), le-ltb (18 + k) 18 (omega arith), q)
found_back found.Unbound h e = absurd (let z : ◌≡◌ {A = ℕ} 0 1 = cc in omega arith)

pub then_bound : (f : Found) (l : List ℕ) → is_unbound f ≡ false → code_then f l ≡ code_of f ∷ l
then_bound found.Nothing l h = refl
then_bound found.Xml l h = refl
then_bound (found.Own k) l h = refl
then_bound (found.Open k) l h = refl
then_bound found.Unbound l h = absurd (let z : ◌≡◌ {A = ℕ} 0 1 = cc in omega arith)

pub then_unbound : (f : Found) (l : List ℕ) → is_unbound f ≡ true → code_then f l ≡ []
then_unbound found.Nothing l h = absurd (let z : ◌≡◌ {A = ℕ} 0 1 = cc in omega arith)
then_unbound found.Xml l h = absurd (let z : ◌≡◌ {A = ℕ} 0 1 = cc in omega arith)
then_unbound (found.Own k) l h = absurd (let z : ◌≡◌ {A = ℕ} 0 1 = cc in omega arith)
then_unbound (found.Open k) l h = absurd (let z : ◌≡◌ {A = ℕ} 0 1 = cc in omega arith)
then_unbound found.Unbound l h = refl

-- each number stands for a declaration that is there
module _ (s own : List ℕ) (owned : ℕ) (open' : List ℕ) (bound : ℕ) where
  abbrev CodeWithin : ℕ → Type 0
  CodeWithin c = Within (at_most 16 owned) (at_most 64 bound) (found_in c)

  then_within : (f : Found) (l : List ℕ) → Within (at_most 16 owned) (at_most 64 bound) f → InRange f → All CodeWithin l → All CodeWithin (code_then f l)
  then_within found.Nothing l w h a = (tt, a)
  then_within found.Xml l w h a = (tt, a)
  then_within (found.Own k) l w h a = (rw (found_back (found.Own k) h refl) w, a)
  then_within (found.Open k) l w h a = (rw (found_back (found.Open k) h refl) w, a)
  then_within found.Unbound l w h a = tt

  pub codes_within : (attrs : List Attr) → All (λ (c : ℕ). Within (at_most 16 owned) (at_most 64 bound) (found_in c)) (codes_of s own owned open' bound attrs)
  unfolding codes_of
  codes_within [] = tt
  codes_within (a ∷ l) =
      then_within (found_attribute s own owned open' bound a.name) (codes_of s own owned open' bound l) (attribute_within s own owned open' bound a.name) (attribute_in_range s own owned open' bound a.name) (codes_within l)
