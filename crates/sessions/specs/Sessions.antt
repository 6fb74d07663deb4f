-- "A session holds ..": what a session's numbers mean. Every number means something, so that number 20 has nothing to say of packing. Definitions.
use Rattle.std.specs.Prelude.{ℕ, zero, suc, ◌+◌, ◌*◌, ◌-◌, List, [], ◌∷◌, map, Bool, false, cond, get_or, replicate, length, eqb}
use Rattle.laws.specs.Lists.{tabulate}
use Rattle.laws.specs.Over.{overwrite}
use Rattle.laws.specs.Gather.{gather}
use Rattle.compare.specs.Compare.{xml_uri}
use Rattle.table.specs.Table.{Table}
use Rattle.reader.specs.declared.Span.{Span}
use Rattle.reader.specs.declared.Binding.{Binding}
use Rattle.reader.specs.Spans.{span, bytes_of}
use Rattle.reader.specs.Stored.{narrowed, binding_numbers}
use Rattle.reader.specs.Scope.{fresh_scope, name_in, opens_of, with_level, closed_of}
use Rattle.reader.specs.Events.{ReaderState, part_of}
use Rattle.model.specs.Elements.{Space}
use Rattle.model.specs.Stream.{Level, State, HeldStrand}
use Rattle.model.specs.Dispatch.{dispatch}
use Rattle.strands.specs.Packed.{strand_in, packed}
use Rattle.strands.specs.Levels.{level_names, level_spaces, level_strands}
use Rattle.sessions.specs.Session.{Session}
use Rattle.sessions.specs.declared.Head.{Head}

-- the URI of a level: class 0 the empty one, 1 to N the table's, 254 xml's, 255 the bytes of its span
unfoldable pub level_uri : Table → List ℕ → ℕ → Span → List ℕ
level_uri t s class w =
    cond (eqb class 0) [] (cond (eqb class 254) xml_uri (cond (eqb class 255) (bytes_of s w) (get_or t.uris (class - 1) [])))

-- "class and URI span as a start record has them", and the strands
abbrev pub class_in : Session → ℕ → ℕ
class_in z k = get_or z.spaces (4 * k) 0

abbrev pub uri_in : Session → ℕ → Span
uri_in z k = span (get_or z.spaces (4 * k + 1) 0) (get_or z.spaces (4 * k + 2) 0)

abbrev pub strand_count : Session → ℕ → ℕ
strand_count z k = get_or z.spaces (4 * k + 3) 0

unfoldable pub strands_in : Session → ℕ → List (HeldStrand ℕ)
strands_in z k = map strand_in (tabulate (λ (i : ℕ). get_or z.strands i 0) (16 * k) (strand_count z k))

-- the k-th level as the stream has it
unfoldable pub level_in : (t : Table) → List ℕ → Session → ℕ → Level (dispatch t)
level_in t s z k =
    record {
      at =
          record {
            part = part_of s (name_in z.scope.levels k);
            space = record { class = class_in z k; uri = uri_in z k; bytes = level_uri t s (class_in z k) (uri_in z k) };
          };
      strands = strands_in z k;
    }

-- the first so many levels, innermost first
unfoldable pub levels_in : (t : Table) → List ℕ → Session → ℕ → List (Level (dispatch t))
levels_in t s z zero = []
levels_in t s z (suc k) = level_in t s z k ∷ levels_in t s z k

-- What a session holds: the reader's state, and the stream's
abbrev pub reader_of : Session → ReaderState
reader_of z = record { place = z.place; closed = z.closed; awaited = z.awaited; opened = opens_of z.scope }

abbrev pub state_of : (t : Table) → List ℕ → Session → State (dispatch t)
state_of t s z = record { levels = levels_in t s z z.scope.depth; units = z.units }

-- "Fresh is place 0, no unit opened, nothing open, no root closed"
abbrev pub fresh_of : Session
fresh_of =
    record {
      place = 0;
      units = 0;
      closed = false;
      awaited = false;
      scope = fresh_scope;
      spaces = replicate 256 0;
      strands = replicate 1024 0;
    }

-- a session's numbers apart from its arrays
abbrev pub head_of : Session → Head
head_of z =
    record {
      place = z.place;
      units = z.units;
      closed = z.closed;
      awaited = z.awaited;
      depth = z.scope.depth;
      bound = z.scope.bound;
    }

-- a session's numbers and its arrays, put together
abbrev pub session_of : Head → List ℕ → List ℕ → List ℕ → List ℕ → Session
session_of h levels bindings spaces strands =
    record {
      place = h.place;
      units = h.units;
      closed = h.closed;
      awaited = h.awaited;
      scope = record { depth = h.depth; bound = h.bound; levels = levels; bindings = bindings };
      spaces = spaces;
      strands = strands;
    }

-- its numbers, its levels in one array and its bindings
abbrev pub session_at : Head → List ℕ → List ℕ → Session
session_at h levels bindings = session_of h (level_names levels) bindings (level_spaces levels) (level_strands levels)

-- the session behind a text, an end and a start: what is not named keeps its value
abbrev pub with_place : Session → ℕ → Session
with_place z place =
    record {
      place = place;
      units = z.units;
      closed = z.closed;
      awaited = z.awaited;
      scope = z.scope;
      spaces = z.spaces;
      strands = z.strands;
    }

abbrev pub with_end : Session → ℕ → Bool → Session
with_end z place closed =
    record {
      place = place;
      units = z.units;
      closed = closed;
      awaited = false;
      scope = closed_of z.scope;
      spaces = z.spaces;
      strands = z.strands;
    }

abbrev pub with_start : Session → ℕ → Bool → ℕ → Span → List Binding → Space → List (HeldStrand ℕ) → Session
with_start z place awaited units name own space strands =
    record {
      place = place;
      units = units;
      closed = false;
      awaited = awaited;
      scope = with_level z.scope name (gather binding_numbers own) (length own);
      spaces =
          overwrite z.spaces (4 * z.scope.depth)
          (narrowed space.class ∷ narrowed space.uri.at ∷ narrowed space.uri.len ∷ length strands ∷ []);
      strands = overwrite z.strands (16 * z.scope.depth) (map packed strands);
    }
