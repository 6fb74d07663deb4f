-- Number 20 as the code asks it of a session's counts and flags: the clauses of Coherence.antt together; and whether two sessions have the same. Definitions.
use Rattle.std.specs.Prelude.{ℕ, Bool, not, ◌&&◌, ◌||◌, leb, eqb}
use Rattle.equality.specs.Same.{same_flag}
use Rattle.sessions.specs.declared.Head.{Head}

-- the place in a scene of so many bytes, the counts and the flags
abbrev pub head_fits : ℕ → Head → Bool
head_fits n h =
    leb h.depth 64
    && (leb h.bound 64
    && (leb h.place n
    && (leb h.units 65536 && ((not h.awaited || not (eqb h.depth 0)) && (not h.closed || eqb h.depth 0)))))

-- the place, the counts and the flags of two sessions
abbrev pub same_head : Head → Head → Bool
same_head a b =
    eqb a.place b.place
    && (eqb a.units b.units
    && ((same_flag a.closed b.closed && same_flag a.awaited b.awaited) && (eqb a.bound b.bound && eqb a.depth b.depth)))
