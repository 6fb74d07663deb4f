-- Which of the words stands at a place, and how far one of them goes there: what each test of the code settles.
use Rattle.std.specs.Prelude.{Ok, Err, max}
use Rattle.std.proofs.lemmas.Grind.{common_steps}
use Prim.Native.Nat.{ℕ, ◌+◌, ◌≤◌, ◌<◌}
use mathlib.Core.Path.{◌≡◌, refl, sym, ◌∙◌}
use mathlib.Core.List.{List, [], ◌∷◌}
use mathlib.Core.Bool.{cond}
use native.Mathlib.Omega.{arith}
use borrow.Author.Tests.{eq-eqb, ne_eqb, le-leb, lt-leb}
use lib.ListN.{length, drop, length-drop}
use lib.Dec.{ltb}
use Rattle.lexer.specs.Values.{references, common, whole_of, furthest, no_reference, reference_end}
use Rattle.lexer.specs.declared.Stop.TheVariants.{Bad, Cut}
use Rattle.lexer.specs.Reads.{Read}
use Rattle.lexer.proofs.Common.{common_few}

pub no_word : (s : List ℕ) (other : Read) (at : ℕ) (x : Read) → x ≡ other → x ≡ whole_of s at [] other
unfolding whole_of
no_word s other at x e = e

-- the first word, or one of the others
module _ (s word : List ℕ) (words : List (List ℕ)) (other : Read) (at r : ℕ) (e : r ≡ common (drop at s) word) where
  pub whole : r ≡ length word → Ok (at + length word) ≡ whole_of s at (word ∷ words) other
  unfolding whole_of
  whole h = rw (eq-eqb (common (drop at s) word) (length word) (sym e ∙ h))

  pub passed : (r ≡ length word → ⊥) → (x : Read) → x ≡ whole_of s at words other → x ≡ whole_of s at (word ∷ words) other
  unfolding whole_of
  passed k x p = rw (ne_eqb (common (drop at s) word) (length word) (λ q. k (e ∙ q))) p

-- the first n of the five do not stand whole at a place
abbrev pub Past : List ℕ → ℕ → ℕ → Type 0
Past s at n = (x : Read) → x ≡ whole_of s at (drop n references) (no_reference s at) → x ≡ reference_end s at

-- where one byte or more is found, all that are found are inside
pub found_in : (s word : List ℕ) (at r : ℕ) → r ≡ common (drop at s) word → 0 < r → at + r ≤ length s
found_in s word at r e p = omega (arith, common_few (drop at s) word, length-drop at s)

pub furthest_none : (l : List ℕ) → 0 ≡ furthest l []
unfolding furthest
furthest_none l = refl

larger : (k f : ℕ) → max k f ≡ cond (ltb f k) k f
larger k f = grind (arith, common_steps)

pub furthest_more : (l word : List ℕ) (words : List (List ℕ)) (k f r : ℕ) → k ≡ common l word → f ≡ furthest l words → r ≡ max k f → r ≡ furthest l (word ∷ words)
unfolding furthest
furthest_more l word words k f r p q e = rw (← p, ← q) (e ∙ larger k f)

module _ (s : List ℕ) (at k : ℕ) (e : k ≡ furthest (drop at s) references) where
  pub none_cut : length s ≤ at + k → Err Cut ≡ no_reference s at
  unfolding no_reference
  none_cut h = rw (← e, le-leb (length s) (at + k) h)

  pub none_bad : at + k < length s → Err (Bad (at + k)) ≡ no_reference s at
  unfolding no_reference
  none_bad h = rw (← e, lt-leb (length s) (at + k) h)
