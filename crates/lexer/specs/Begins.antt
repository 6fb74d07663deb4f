-- Where the next event begins, behind any number of comments, instructions and the declaration: "None makes an event". Definitions.
use Rattle.std.specs.declared.ops.ControlFlow.TheVariants.{Break, Continue}
use Rattle.std.specs.Prelude.{ℕ, zero, suc, ◌+◌, List, Bool, true, false, cond, not, ◌||◌, length, eqb, Ok, Err}
use Rattle.laws.specs.Reading.{peek}
use Rattle.lexer.specs.Stops.{after_read}
use Rattle.lexer.specs.Names.{spaces_end}
use Rattle.lexer.specs.Misc.{misc_end}
use Rattle.lexer.specs.declared.Stop.{Stop}
use Rattle.lexer.specs.declared.Stop.TheVariants.{Bad, Cut}
use Rattle.lexer.specs.Reads.{BeginRead, Ahead}
use Rattle.lexer.specs.declared.Begin.TheVariants as begin

abbrev pub stopped_ahead : Stop → Ahead
stopped_ahead x = Break (Err x)

-- a misc whose < stands at a place
unfoldable pub misc_ahead : List ℕ → ℕ → Ahead
misc_ahead s at = after_read stopped_ahead (misc_end s at) (λ (j : ℕ). Continue j)

-- ! or ?
abbrev pub opens_misc : ℕ → Bool
opens_misc b = eqb b 0x21 || eqb b 0x3F

-- a < at a place: a tag or a misc. "</" where nothing is open is 2 at the /, and behind the root so is the byte behind a < if it opens no misc
unfoldable pub markup_at : List ℕ → Bool → Bool → ℕ → Ahead
markup_at s inside closed at =
    peek (stopped_ahead Cut) s (at + 1) (λ (b : ℕ).
    cond (eqb b 0x2F) (cond inside (Break (Ok (begin.End at))) (stopped_ahead (Bad (at + 1))))
    (cond (opens_misc b) (misc_ahead s at)
    (cond (inside || not closed) (Break (Ok (begin.Start at))) (stopped_ahead (Bad (at + 1))))))

-- a tag, a misc, or inside an element a text
unfoldable pub either_at : List ℕ → Bool → Bool → ℕ → Ahead
either_at s inside closed at =
    peek (stopped_ahead Cut) s at (λ (b : ℕ).
    cond (eqb b 0x3C) (markup_at s inside closed at) (cond inside (Break (Ok (begin.Text at))) (stopped_ahead (Bad at))))

-- "9 finished: root closed, only space follows", and "9 passes over them"; 1 where it has not closed
abbrev pub ending : Bool → Stop → Ahead
ending closed x = cond closed (Break (Ok begin.Finished)) (stopped_ahead x)

-- what stands at a place, inside an element or not, the root closed or not: an event, or a misc. Outside the root space makes no event
unfoldable pub ahead_at : List ℕ → Bool → Bool → ℕ → Ahead
ahead_at s inside closed at =
    cond inside (either_at s true closed at) (after_read (ending closed) (spaces_end s at) (λ (i : ℕ). either_at s false closed i))

-- behind a misc the next event begins as if none had been
abbrev pub ahead_then : (ℕ → BeginRead) → Ahead → BeginRead
ahead_then more (Break b) = b
ahead_then more (Continue j) = more j

-- with at most so many misc
unfoldable pub begin_by : ℕ → List ℕ → Bool → Bool → ℕ → BeginRead
begin_by zero s inside closed at = ahead_then (λ (j : ℕ). Err Cut) (ahead_at s inside closed at)
begin_by (suc n) s inside closed at = ahead_then (λ (j : ℕ). begin_by n s inside closed j) (ahead_at s inside closed at)

-- where the next event begins: inside an element or not, the root closed or not. A scene has fewer misc than bytes
unfoldable pub begin_at : List ℕ → ℕ → Bool → Bool → BeginRead
begin_at s at inside closed = begin_by (length s) s inside closed at
