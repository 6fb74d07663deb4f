-- "Another call on a table and scene gives the URI of a record's class and span". Definitions.
use Rattle.std.specs.Prelude.{ℕ, ◌+◌, List, Option, Some, None, cond, not, ◌&&◌, length, leb, eqb}
use Rattle.std.specs.Borrow.{Bor}
use Rattle.compare.specs.Compare.{span_of, place_in}
use Rattle.table.specs.Table.{header_of}
use Rattle.table.specs.Judge.{judged}
use Rattle.table.specs.Places.{place_of}
use Rattle.table.specs.declared.Listed.{Listed}
use Rattle.uris.specs.declared.UriSpan.{UriSpan}
use Rattle.uris.specs.declared.Source.{Source}
use Rattle.uris.specs.declared.Source.TheVariants.{Table, Scene}

abbrev pub stands : Source → ℕ → ℕ → UriSpan
stands source at len = record { source = source; at = at; len = len }

-- a listed URI's place in the table, or else this
abbrev pub in_table : Option Listed → UriSpan → UriSpan
in_table (Some u) w = stands Table u.at u.len
in_table None w = w

-- "the table's own bytes for a listed class, the scene's for 255 with a span inside it, else, or with a refused table, the empty part at the
-- scene's start"
unfoldable pub uri_span_of : List ℕ → List ℕ → ℕ → ℕ → ℕ → UriSpan
uri_span_of table s class at len =
    cond (not (eqb (judged table).number 0)) (stands Scene 0 0)
    (in_table (place_of table (header_of table) class)
    (cond (eqb class 255 && leb (at + len) (length s)) (stands Scene at len) (stands Scene 0 0)))

-- "a part of one of two lent slices, table or scene": the slice
abbrev pub slice_of : {A : Type 0} → A → A → Source → A
slice_of table s Table = table
slice_of table s Scene = s

-- the part's bytes
unfoldable pub uri_part : List ℕ → List ℕ → ℕ → ℕ → ℕ → List ℕ
uri_part table s class at len = let w = uri_span_of table s class at len in span_of (slice_of table s w.source) w.at w.len

-- where the part stands
unfoldable pub uri_place : Bor (List ℕ) → Bor (List ℕ) → ℕ → ℕ → ℕ → ℕ × ℕ
uri_place table s class at len = let w = uri_span_of table.now s.now class at len in place_in (slice_of table s w.source) w.at
