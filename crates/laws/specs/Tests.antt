-- For `search`: a goal `r ≡ cond t x y` from the branches that the code took.
--     on, off               by the test's value
--     told, untold          a test that a callee made
--     counted, uncounted    a number that a callee gave, tested
--     past_ltb              an index behind one that is outside
--     both, .., joined      tests joined by && and ||
--     in_range_lem              a byte in a range
use Rattle.std.specs.Prelude.{ℕ, ◌+◌, ◌≤◌, ◌≡◌, refl, Bool, true, false, cond, not, ◌&&◌, ◌||◌, leb, ltb, eqb}
use Rattle.std.proofs.Common.{sym, ◌∙◌, arith, eq-eqb, ne_eqb, lt-ltb, le-ltb, le-leb, leb-true}
use Rattle.std.proofs.lemmas.Bool.{lt-leb}

pub on : {A : Type 0} (t : Bool) (r x y : A) → t ≡ true → r ≡ x → r ≡ cond t x y
on true r x y e h = h
on false r x y e h = absurd (never e)
  where
    never : false ≡ true → ⊥
    never q = let z : ◌≡◌ {A = ℕ} 0 1 = cc in omega arith

pub off : {A : Type 0} (t : Bool) (r x y : A) → t ≡ false → r ≡ y → r ≡ cond t x y
off false r x y e h = h
off true r x y e h = absurd (never e)
  where
    never : true ≡ false → ⊥
    never q = let z : ◌≡◌ {A = ℕ} 0 1 = cc in omega arith

-- a test that a callee made: what it ensures of its answer, and what the branch says of the answer
pub told : (r t v : Bool) → r ≡ t → r ≡ v → t ≡ v
told r t v p q = sym p ∙ q

pub untold : (r t : Bool) → r ≡ t → not r ≡ true → t ≡ false
untold true t p q = sym p ∙ sym q
untold false t p q = sym p

pub untold' : (r t : Bool) → r ≡ t → not r ≡ false → t ≡ true
untold' true t p q = sym p
untold' false t p q = sym p ∙ sym q

-- a number that a callee gave, and what the branch says of it
pub counted : (r n k : ℕ) → r ≡ n → r ≡ k → eqb n k ≡ true
counted r n k p q = eq-eqb n k (sym p ∙ q)

pub uncounted : (r n k : ℕ) → r ≡ n → (r ≡ k → ⊥) → eqb n k ≡ false
uncounted r n k p q = ne_eqb n k (λ (e : n ≡ k). q (p ∙ e))

pub past_ltb : (a b : ℕ) → b ≤ a → ltb (a + 1) b ≡ false
past_ltb a b h = le-ltb (a + 1) b (omega arith)

-- tests that are joined
pub both : (a b : Bool) → a ≡ true → b ≡ true → (a && b) ≡ true
both true b p q = q
both false b p q = p

-- and taken apart again: a byte in a range
pub in_range_lem : (lo hi b : ℕ) → (leb lo b && leb b hi) ≡ true → (lo ≤ b) × (b ≤ hi)
in_range_lem lo hi b e = (leb-true lo b (first (leb lo b) e), leb-true b hi (second (leb lo b) e))
  where
    first : (t : Bool) → (t && leb b hi) ≡ true → t ≡ true
    first true q = refl
    first false q = q

    second : (t : Bool) → (t && leb b hi) ≡ true → leb b hi ≡ true
    second true q = q
    second false q = absurd (differ q)
      where
        differ : false ≡ true → ⊥
        differ z = let y : ◌≡◌ {A = ℕ} 0 1 = cc in omega arith

pub not_left : (a b : Bool) → a ≡ false → (a && b) ≡ false
not_left true b p = absurd (differ p)
  where
    differ : true ≡ false → ⊥
    differ e = let z : ◌≡◌ {A = ℕ} 0 1 = cc in omega arith
not_left false b p = refl

pub not_right : (a b : Bool) → b ≡ false → (a && b) ≡ false
not_right true b p = p
not_right false b p = refl

pub left : (a b : Bool) → a ≡ true → (a || b) ≡ true
left true b p = refl
left false b p = absurd (differ p)
  where
    differ : false ≡ true → ⊥
    differ e = let z : ◌≡◌ {A = ℕ} 0 1 = cc in omega arith

pub right : (a b : Bool) → b ≡ true → (a || b) ≡ true
right true b p = refl
right false b p = p

pub neither : (a b : Bool) → a ≡ false → b ≡ false → (a || b) ≡ false
neither true b p q = p
neither false b p q = q

-- for `search tests` at a return whose contract goes by `cond`; `search (joined, tests)` where the tests are joined by && and ||
pub ruleset joined = (both, not_left, not_right, left, right, neither)

pub ruleset tests = (on, off, told, untold, untold', eq-eqb, ne_eqb, lt-ltb, le-ltb, le-leb, lt-leb)
