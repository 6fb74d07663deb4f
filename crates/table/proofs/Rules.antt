-- The rules of (mode, kind, class): those of the table that pass one test, in table order.
--     rules_kept          `rules_of` is `keep` of `taken`
--     taken_in, in_taken  so by membership; taken_says, says-taken: what the test says
use Prim.Native.Nat.{ℕ}
use mathlib.Core.Path.{◌≡◌, refl, sym, ap, ◌∙◌, subst}
use native.Mathlib.Omega.{arith}
use mathlib.Core.List.{List, [], ◌∷◌}
use mathlib.Core.Bool.{Bool, true, false, cond, not, ◌&&◌, ◌||◌, and-true, and-false, or-false, or-true}
use mathlib.Core.Logic.{◌⊎◌, inl, inr}
use borrow.Author.Tests.{eqb-true, eq-eqb, not-true}
use lib.Dec.{eqb}
use Rattle.laws.specs.Lists.{any, keep}
use Rattle.laws.specs.Members.{In}
use Rattle.laws.proofs.Flags.{and_left, and_right}
use Rattle.laws.proofs.Lists.{keep_same, keep_none, keep_other}
use Rattle.laws.proofs.Members.{in_kept, kept_in}
use Rattle.table.specs.Table.{names_class, or_else, rules_of, any_class as any_class}
use Rattle.table.specs.declared.Rule.{Rule}

-- a rule of these names the class
abbrev pub named : List Rule → ℕ → ℕ → ℕ → Bool
named rs mode kind class = any (names_class mode kind class) rs

-- the rule names the class; or it is any, and no rule names the class
abbrev pub taken : List Rule → ℕ → ℕ → ℕ → Rule → Bool
taken rs mode kind class r = names_class mode kind class r || (names_class mode kind any_class r && not (named rs mode kind class))

module _ (p q : Rule → Bool) where
  -- where one passes, the others stay
  some_kept : (l other : List Rule) → any p l ≡ true → or_else (keep p l) other ≡ keep p l
  unfolding any keep
  some_kept [] other e = absurd (let z : ◌≡◌ {A = ℕ} 0 1 = cc in omega arith)
  some_kept (r ∷ l) other e = by (p r) e (some_kept l other)
    where
      by : (b : Bool) → (b || any p l) ≡ true → (any p l ≡ true → or_else (keep p l) other ≡ keep p l)
          → or_else (cond b (r ∷ keep p l) (keep p l)) other ≡ cond b (r ∷ keep p l) (keep p l)
      by true f ih = refl
      by false f ih = ih f

  pub either_kept : (l : List Rule) → or_else (keep p l) (keep q l) ≡ keep (λ (r : Rule). p r || (q r && not (any p l))) l
  either_kept l = by (any p l) refl
    where
      by : (b : Bool) → b ≡ any p l → or_else (keep p l) (keep q l) ≡ keep (λ (r : Rule). p r || (q r && not b)) l
      by true e = some_kept l (keep q l) (sym e) ∙ keep_same p (λ (r : Rule). p r || (q r && false)) (λ r. sym (ap (λ (b : Bool). p r || b) (and-false (q r)) ∙ or-false (p r))) l
      by false e =
          ap (λ (k : List Rule). or_else k (keep q l)) (keep_none p l (sym e))
          ∙ sym (keep_other p (λ (r : Rule). q r && true) l (sym e) ∙ keep_same (λ (r : Rule). q r && true) q (λ r. and-true (q r)) l)

module _ (rs : List Rule) (mode kind class : ℕ) where
  pub rules_kept : rules_of rs mode kind class ≡ keep (taken rs mode kind class) rs
  unfolding rules_of
  rules_kept = either_kept (names_class mode kind class) (names_class mode kind any_class) rs

  pub taken_in : (r : Rule) → In r (rules_of rs mode kind class) → In r rs × (taken rs mode kind class r ≡ true)
  taken_in r m = kept_in (taken rs mode kind class) r rs (subst (In r) rules_kept m)

  pub in_taken : (r : Rule) → In r rs → taken rs mode kind class r ≡ true → In r (rules_of rs mode kind class)
  in_taken r m e = subst (In r) (sym rules_kept) (in_kept (taken rs mode kind class) r rs m e)

-- what the test says
pub record Written (mode kind class : ℕ) (r : Rule) : Type 0 where
  pub mode_is : r.mode ≡ mode
  pub kind_is : r.kind ≡ kind
  pub class_is : r.class ≡ class

module _ (mode kind class : ℕ) (r : Rule) where
  pub written_says : names_class mode kind class r ≡ true → Written mode kind class r
  written_says e =
      let rest : (eqb r.kind kind && eqb r.class class) ≡ true = and_right (eqb r.mode mode) (eqb r.kind kind && eqb r.class class) e in
      record {
        mode_is = eqb-true r.mode mode (and_left (eqb r.mode mode) (eqb r.kind kind && eqb r.class class) e);
        kind_is = eqb-true r.kind kind (and_left (eqb r.kind kind) (eqb r.class class) rest);
        class_is = eqb-true r.class class (and_right (eqb r.kind kind) (eqb r.class class) rest);
      }

  pub says_written : Written mode kind class r → names_class mode kind class r ≡ true
  says_written w = simp (eq-eqb r.mode mode w.mode_is, eq-eqb r.kind kind w.kind_is, eq-eqb r.class class w.class_is)

module _ (rs : List Rule) (mode kind class : ℕ) (r : Rule) where
  pub taken_says : taken rs mode kind class r ≡ true → Written mode kind class r ⊎ (Written mode kind any_class r × (named rs mode kind class ≡ false))
  taken_says = by (names_class mode kind class r) refl
    where
      by : (b : Bool) → b ≡ names_class mode kind class r → (b || (names_class mode kind any_class r && not (named rs mode kind class))) ≡ true
          → Written mode kind class r ⊎ (Written mode kind any_class r × (named rs mode kind class ≡ false))
      by true e h = inl (written_says mode kind class r (sym e))
      by false e h =
          inr (
            written_says mode kind any_class r (and_left (names_class mode kind any_class r) (not (named rs mode kind class)) h),
            not-true (named rs mode kind class) (and_right (names_class mode kind any_class r) (not (named rs mode kind class)) h),
          )

  pub says_taken : Written mode kind class r ⊎ (Written mode kind any_class r × (named rs mode kind class ≡ false)) → taken rs mode kind class r ≡ true
  says_taken (inl w) = simp (says_written mode kind class r w)
  says_taken (inr w) = simp (says_written mode kind any_class r w.0, w.1, or-true)
