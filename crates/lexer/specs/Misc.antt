-- Comments and processing instructions: productions 15 to 17 of XML 1.0, fifth edition, "a target being a name part, bytes as in text with < and &
-- free". A misc is a comment, an instruction or the declaration. Definitions.
use Rattle.std.specs.Prelude.{ℕ, ◌+◌, List, [], Bool, cond, ◌&&◌, ◌||◌, drop, get_or, eqb, Ok, Err}
use Rattle.laws.specs.Reading.{RunNext, go, stop, run, peek}
use Rattle.laws.specs.Text.{bytes}
use Rattle.lexer.specs.Stops.{after_read}
use Rattle.lexer.specs.Names.{is_space, part_end}
use Rattle.utf8.specs.declared.Set.TheVariants as set
use Rattle.characters.specs.CanBegin.{begins}
use Rattle.lexer.specs.Characters.{with_byte}
use Rattle.lexer.specs.Tags.{wanted}
use Rattle.lexer.specs.Declaration.{word_end, declaration_end}
use Rattle.lexer.specs.declared.Stop.TheVariants.{Bad, Cut}
use Rattle.lexer.specs.Reads.{Read}

-- Where a comment or an instruction is read to: how many hyphens stand before, or 1 behind a ?, and the bytes of a character that is not whole
pub record MiscState : Type 0 where
  pub mark : ℕ
  pub begun : List ℕ

abbrev pub misc_state : ℕ → List ℕ → MiscState
misc_state mark begun = record { mark = mark; begun = begun }

-- "bytes as in text with < and & free": a byte of a character, which leaves a mark
abbrev pub free_step : ℕ → List ℕ → ℕ → ℕ → RunNext MiscState Read
free_step mark begun b i = cond (begins set.Char begun b) (go (misc_state mark (with_byte begun b))) (stop (Err (Bad i)))

-- [15] Comment ::= '<!--' ((Char - '-') | ('-' (Char - '-')))* '-->'. The mark: how many hyphens stand before.
-- "Number 2 goes to the byte after two hyphens in a comment unless >"
abbrev pub comment_step : MiscState → ℕ → ℕ → RunNext MiscState Read
comment_step q b i =
    cond (eqb q.mark 2) (cond (eqb b 0x3E) (stop (Ok (i + 1))) (stop (Err (Bad i))))
    (free_step (cond (eqb b 0x2D) (q.mark + 1) 0) q.begun b i)

-- from behind the <!-- on
unfoldable pub comment_rest : List ℕ → ℕ → Read
comment_rest s at = run (Err Cut) comment_step (misc_state 0 []) (drop at s) at

-- from behind the <! on
unfoldable pub comment_end : List ℕ → ℕ → Read
comment_end s at = after_read Err (word_end s at (bytes "--")) (λ (i : ℕ). comment_rest s i)

-- [16] PI ::= '<?' PITarget (S (Char* - (Char* '?>' Char*)))? '?>': from behind the first byte of its S on. The mark: 1 behind a ?
abbrev pub content_step : MiscState → ℕ → ℕ → RunNext MiscState Read
content_step q b i = cond (eqb q.mark 1 && eqb b 0x3E) (stop (Ok (i + 1))) (free_step (cond (eqb b 0x3F) 1 0) q.begun b i)

unfoldable pub content_end : List ℕ → ℕ → Read
content_end s at = run (Err Cut) content_step (misc_state 0 []) (drop at s) at

-- from behind the target on
unfoldable pub behind_target : List ℕ → ℕ → Read
behind_target s at =
    peek (Err Cut) s at (λ (b : ℕ).
    cond (is_space b) (content_end s (at + 1)) (cond (eqb b 0x3F) (wanted s (at + 1) 0x3E) (Err (Bad at))))

-- [17] .. (('X' | 'x') ('M' | 'm') ('L' | 'l')): the part from at up to end
unfoldable pub is_xml : List ℕ → ℕ → ℕ → Bool
is_xml s at end =
    eqb end (at + 3)
    && (eqb (get_or s at 0) 0x58 || eqb (get_or s at 0) 0x78)
    && (eqb (get_or s (at + 1) 0) 0x4D || eqb (get_or s (at + 1) 0) 0x6D)
    && (eqb (get_or s (at + 2) 0) 0x4C || eqb (get_or s (at + 2) 0) 0x6C)

-- "the lower-case one at the scene's first byte", at the place behind its <?
unfoldable pub is_declared : List ℕ → ℕ → Bool
is_declared s at = eqb at 2 && eqb (get_or s at 0) 0x78 && eqb (get_or s (at + 1) 0) 0x6D && eqb (get_or s (at + 2) 0) 0x6C

-- from behind the <? on: "Number 2 goes to .. the first of a target xml in any letter case unless it is the lower-case one at the scene's first byte"
unfoldable pub instruction_end : List ℕ → ℕ → Read
instruction_end s at =
    after_read Err (part_end s at) (λ (j : ℕ).
    cond (is_xml s at j) (cond (is_declared s at) (declaration_end s j) (Err (Bad at))) (behind_target s j))

-- a misc whose < stands at a place, a ! or ? behind it: the place behind it
unfoldable pub misc_end : List ℕ → ℕ → Read
misc_end s at = peek (Err Cut) s (at + 1) (λ (b : ℕ). cond (eqb b 0x3F) (instruction_end s (at + 2)) (comment_end s (at + 2)))
