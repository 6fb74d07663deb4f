-- A character of a set, from its first byte on. Definitions.
use Rattle.std.specs.Prelude.{ℕ, ◌+◌, List, [], ◌∷◌, ◌++◌, cond, drop, Ok, Err}
use Rattle.utf8.specs.Utf8.{is_form}
use Rattle.utf8.specs.declared.Set.{Set}
use Rattle.characters.specs.CanBegin.{begins}
use Rattle.laws.specs.Reading.{RunNext, go, stop, run}
use Rattle.lexer.specs.declared.Stop.TheVariants.{Bad, Cut}
use Rattle.lexer.specs.Reads.{Read}

-- the bytes of a character so far with a byte more; none where it is whole
unfoldable pub with_byte : List ℕ → ℕ → List ℕ
with_byte begun b = cond (is_form (begun ++ (b ∷ []))) [] (begun ++ (b ∷ []))

-- "The first byte at which no character allowed there can begin or go on gets 2". In the state: the bytes so far
abbrev pub char_step : Set → List ℕ → ℕ → ℕ → RunNext (List ℕ) Read
char_step x begun b i =
    cond (begins x begun b)
    (cond (is_form (begun ++ (b ∷ []))) (stop (Ok (i + 1))) (go (begun ++ (b ∷ []))))
    (stop (Err (Bad i)))

-- the place behind the character. "A sequence cut by the scene's end is 1"
unfoldable pub char_end : Set → List ℕ → ℕ → Read
char_end x s at = run (Err Cut) (char_step x) [] (drop at s) at
