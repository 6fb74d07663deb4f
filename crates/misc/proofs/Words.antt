-- A fixed word read from a place on, i the place of its k-th byte: a turn of the loop that reads it.
--     word_done, word_cut, word_bad     the ways out
--     word_more                         a byte more
use Rattle.std.specs.Prelude.{Ok, Err}
use Prim.Native.Nat.{ℕ, ◌+◌, ◌≤◌, ◌<◌}
use mathlib.Core.Path.{◌≡◌}
use mathlib.Core.List.{List}
use borrow.Author.Tests.{eq-eqb, ne_eqb, lt-ltb, le-ltb}
use lib.ListN.{length, drop, get_or}
use Rattle.laws.specs.Reading.{drop_here, drop_out}
use Rattle.lexer.specs.Tags.{wanted}
use Rattle.lexer.specs.Declaration.{word_end}
use Rattle.lexer.specs.declared.Stop.TheVariants.{Bad, Cut}
use Rattle.lexer.specs.Reads.{Read}

module _ (p : Read) (s word : List ℕ) (i k : ℕ) (inv : word_end s i (drop k word) ≡ p) where
  pub word_done : length word ≤ k → Ok i ≡ p
  unfolding word_end
  word_done h = simp (← inv, drop_out word)

  module _ (h : k < length word) where
    pub word_cut : length s ≤ i → Err Cut ≡ p
    unfolding word_end wanted
    word_cut l = simp (← inv, drop_here word, le-ltb i (length s) l)

    pub word_bad : i < length s → (get_or s i 0 ≡ get_or word k 0 → ⊥) → Err (Bad i) ≡ p
    unfolding word_end wanted
    word_bad l n = simp (← inv, drop_here word, lt-ltb i (length s) l, ne_eqb _ _ n)

    pub word_more : i < length s → get_or s i 0 ≡ get_or word k 0 → word_end s (i + 1) (drop (k + 1) word) ≡ p
    unfolding word_end wanted
    word_more l e = simp (← inv, drop_here word, lt-ltb i (length s) l, eq-eqb _ _ e)
