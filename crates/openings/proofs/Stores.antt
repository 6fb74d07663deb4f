-- What the stores of a start leave in an array: one part overwritten.
--     level_set, space_set     a level's three numbers, and its namespace's four
use Prim.Native.Nat.{ℕ, ◌+◌, ◌%◌, ◌^◌, ◌≤◌, ◌<◌}
use mathlib.Core.Path.{◌≡◌, ap, ◌∙◌}
use mathlib.Core.List.{List, [], ◌∷◌}
use native.Mathlib.Omega.{arith}
use native.Mathlib.Nat.{mod-eq_of_lt}
use lib.ListN.{length, set}
use Rattle.laws.specs.Over.{overwrite}
use Rattle.laws.proofs.Over.{set_over, over_set}

-- a small number is as 32 bits hold it
small : (x n : ℕ) → x ≡ n % 2 ^ 32 → n < 2 ^ 32 → x ≡ n
small x n e h = e ∙ mod-eq_of_lt {n = n} {m = 4294967296} h

pub level_set : (l : List ℕ) (i a b c at len count : ℕ) → i + 3 ≤ length l → a ≡ at % 2 ^ 32 → b ≡ len % 2 ^ 32 → c ≡ count % 2 ^ 32 → count ≤ 16
    → set (set (set l i a) (i + 1) b) (i + 2) c ≡ overwrite l i (at % 2 ^ 32 ∷ len % 2 ^ 32 ∷ count ∷ [])
level_set l i a b c at len count h p q r k =
    ap (λ (x : List ℕ). set (set x (i + 1) b) (i + 2) c) (set_over l i a (omega arith))
    ∙ ap (λ (x : List ℕ). set x (i + 2) c) (over_set l i (a ∷ []) b (omega arith))
    ∙ over_set l i (a ∷ b ∷ []) c (omega arith)
    ∙ rw (p, q, small c count r (omega arith))

pub space_set : (l : List ℕ) (i class b c d at len count : ℕ) → i + 4 ≤ length l → b ≡ at % 2 ^ 32 → c ≡ len % 2 ^ 32 → d ≡ count % 2 ^ 32 → count ≤ 16
    → set (set (set (set l i class) (i + 1) b) (i + 2) c) (i + 3) d ≡ overwrite l i (class ∷ at % 2 ^ 32 ∷ len % 2 ^ 32 ∷ count ∷ [])
space_set l i class b c d at len count h p q r k =
    ap (λ (x : List ℕ). set (set (set x (i + 1) b) (i + 2) c) (i + 3) d) (set_over l i class (omega arith))
    ∙ ap (λ (x : List ℕ). set (set x (i + 2) c) (i + 3) d) (over_set l i (class ∷ []) b (omega arith))
    ∙ ap (λ (x : List ℕ). set x (i + 3) d) (over_set l i (class ∷ b ∷ []) c (omega arith))
    ∙ over_set l i (class ∷ b ∷ c ∷ []) d (omega arith)
    ∙ rw (p, q, small d count r (omega arith))
