-- Space, name parts and names. Definitions.
use Rattle.std.specs.Prelude.{ℕ, ◌+◌, ◌-◌, List, [], Bool, cond, not, ◌&&◌, ◌||◌, length, drop, leb, eqb, Ok, Err}
use Rattle.laws.specs.Reading.{RunNext, go, stop, run, peek}
use Rattle.utf8.specs.declared.Set.{Set}
use Rattle.utf8.specs.declared.Set.TheVariants as set
use Rattle.characters.specs.CanBegin.{begins}
use Rattle.lexer.specs.Stops.{after_read}
use Rattle.lexer.specs.Characters.{with_byte}
use Rattle.lexer.specs.declared.Stop.TheVariants.{Bad, Long, Cut}
use Rattle.lexer.specs.Reads.{Read, Named}

-- "Space is 09 0A 0D 20"
abbrev pub is_space : ℕ → Bool
is_space b = eqb b 0x20 || eqb b 0x0A || eqb b 0x09 || eqb b 0x0D

-- the first byte from a place on that is no space
abbrev pub space_step : ℕ → ℕ → ℕ → RunNext ℕ Read
space_step q b i = cond (is_space b) (go q) (stop (Ok i))

unfoldable pub spaces_end : List ℕ → ℕ → Read
spaces_end s at = run (Err Cut) space_step 0 (drop at s) at

-- lo to hi, both in
abbrev pub within : ℕ → ℕ → ℕ → Bool
within lo hi b = leb lo b && leb b hi

-- Where a part is read to: how many bytes may still come, 64 at the first, and the bytes of a character that is not whole
pub record PartState : Type 0 where
  pub room : ℕ
  pub begun : List ℕ

abbrev pub part_state : ℕ → List ℕ → PartState
part_state room begun = record { room = room; begun = begun }

-- "Name parts follow NameStartChar and NameChar .. without the colon": the set of the character that stands there
abbrev pub part_set : PartState → Set
part_set q = cond (eqb (q.room + length q.begun) 64) set.Start set.Name

-- whether the part may end there: behind a whole character
abbrev pub part_whole : PartState → Bool
part_whole q = eqb (length q.begun) 0 && not (eqb q.room 64)

-- "the 64 limit counts bytes still". "The first byte at which no character allowed there can begin or go on gets 2, a 65th of a part that can begin
-- or continue a name character 3"
abbrev pub part_step : PartState → ℕ → ℕ → RunNext PartState Read
part_step q b i =
    cond (begins (part_set q) q.begun b)
    (cond (eqb q.room 0) (stop (Err (Long i))) (go (part_state (q.room - 1) (with_byte q.begun b))))
    (stop (cond (part_whole q) (Ok i) (Err (Bad i))))

unfoldable pub part_end : List ℕ → ℕ → Read
part_end s at = run (Err Cut) part_step (part_state 64 []) (drop at s) at

-- a device: a part of which the bytes from `at` up to i are read, whole characters
unfoldable pub part_from : List ℕ → ℕ → ℕ → Read
part_from s at i = run (Err Cut) part_step (part_state (at + 64 - i) []) (drop i s) i

abbrev pub name_of : ℕ → ℕ → ℕ → Named
name_of at part end = Ok (record { at = at; part = part; end = end })

-- the part behind a prefix and its colon
unfoldable pub prefixed_at : List ℕ → ℕ → ℕ → Named
prefixed_at s at part = after_read Err (part_end s part) (λ (end : ℕ). name_of at part end)

-- "A name is a part, or a prefix part, a colon and a part"
unfoldable pub name_at : List ℕ → ℕ → Named
name_at s at =
    after_read Err (part_end s at) (λ (j : ℕ).
    peek (Err Cut) s j (λ (b : ℕ). cond (eqb b 0x3A) (prefixed_at s at (j + 1)) (name_of at at j)))
