-- Bytes that hold a session, test by test.
use Prim.Native.Nat.{ℕ, ◌+◌, ◌*◌, ◌≤◌, ◌<◌}
use mathlib.Core.Path.{◌≡◌, refl, ap}
use mathlib.Core.List.{List, [], ◌∷◌}
use native.Mathlib.Omega.{arith}
use Rattle.std.specs.List.{list_all}
use mathlib.Core.Bool.{Bool, true, false}
use borrow.Author.Tests.{eq-eqb, ne_eqb, le-leb, lt-leb}
use lib.Dec.{eqb}
use lib.ListN.{length, get_or, take, drop}
use Rattle.laws.specs.Lists.{all, tabulate}
use Rattle.layout.specs.Layout.{word4, packs, strand_at, holds_session}
use Rattle.layout.proofs.Tested.{asked, asked_same}

abbrev pub padding : List ℕ → Bool
padding b = all (λ (i : ℕ). eqb (get_or b i 0) 0) (tabulate (λ (i : ℕ). i) 3 5)

abbrev pub level_padding : List ℕ → Bool
level_padding b = all (λ (k : ℕ). eqb (word4 b (1064 + 96 * k + 28)) 0) (tabulate (λ (k : ℕ). k) 0 64)

abbrev pub packing : List ℕ → Bool
packing b = all (λ (i : ℕ). packs (word4 b (strand_at i))) (tabulate (λ (i : ℕ). i) 0 1024)

-- the five bytes that no session uses, one after the other
pub five_zero : (b : List ℕ) → 8 ≤ length b → list_all (λ (x : ℕ). eqb x 0) (take 5 (drop 3 b)) ≡ padding b
unfolding all tabulate
five_zero [] l = absurd (omega arith)
five_zero (a ∷ []) l = absurd (omega arith)
five_zero (a ∷ b ∷ []) l = absurd (omega arith)
five_zero (a ∷ b ∷ c ∷ []) l = absurd (omega arith)
five_zero (a ∷ b ∷ c ∷ d ∷ []) l = absurd (omega arith)
five_zero (a ∷ b ∷ c ∷ d ∷ e ∷ []) l = absurd (omega arith)
five_zero (a ∷ b ∷ c ∷ d ∷ e ∷ f ∷ []) l = absurd (omega arith)
five_zero (a ∷ b ∷ c ∷ d ∷ e ∷ f ∷ g ∷ []) l = absurd (omega arith)
five_zero (a ∷ b ∷ c ∷ d ∷ e ∷ f ∷ g ∷ h ∷ r) l = refl

pub level_zero : (b : List ℕ) → asked (λ (j : ℕ). eqb (word4 b (1092 + 96 * j)) 0) 0 64 ≡ level_padding b
level_zero b =
    asked_same (λ (j : ℕ). eqb (word4 b (1092 + 96 * j)) 0) (λ (k : ℕ). eqb (word4 b (1064 + 96 * k + 28)) 0) 0 0 64 (λ k h. ap (λ (at : ℕ). eqb (word4 b at) 0) (omega arith))

module _ (b : List ℕ) where
  pub not_version : (get_or b 0 0 ≡ 1 → ⊥) → false ≡ holds_session b
  unfolding holds_session
  not_version h = rw (ne_eqb (get_or b 0 0) 1 h)

  module _ (v : get_or b 0 0 ≡ 1) where
    pub not_closed : 1 < get_or b 1 0 → false ≡ holds_session b
    unfolding holds_session
    not_closed h = rw (eq-eqb (get_or b 0 0) 1 v, lt-leb (get_or b 1 0) 1 h)

    module _ (c : get_or b 1 0 ≤ 1) where
      pub not_awaited : 1 < get_or b 2 0 → false ≡ holds_session b
      unfolding holds_session
      not_awaited h = rw (eq-eqb (get_or b 0 0) 1 v, le-leb (get_or b 1 0) 1 c, lt-leb (get_or b 2 0) 1 h)

      module _ (a : get_or b 2 0 ≤ 1) where
        pub not_padding : padding b ≡ false → false ≡ holds_session b
        unfolding holds_session
        not_padding h = rw (eq-eqb (get_or b 0 0) 1 v, le-leb (get_or b 1 0) 1 c, le-leb (get_or b 2 0) 1 a, h)

        module _ (p : padding b ≡ true) where
          pub not_level : level_padding b ≡ false → false ≡ holds_session b
          unfolding holds_session
          not_level h = rw (eq-eqb (get_or b 0 0) 1 v, le-leb (get_or b 1 0) 1 c, le-leb (get_or b 2 0) 1 a, p, h)

          pub last_test : level_padding b ≡ true → (r : Bool) → r ≡ packing b → r ≡ holds_session b
          unfolding holds_session
          last_test h r e = rw (eq-eqb (get_or b 0 0) 1 v, le-leb (get_or b 1 0) 1 c, le-leb (get_or b 2 0) 1 a, p, h) e
