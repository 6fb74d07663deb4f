-- Number 20 as the code asks it, its clauses together: of a binding, of a level, and of all open bindings and levels. Definitions.
use Rattle.std.specs.Prelude.{ℕ, ◌+◌, ◌*◌, List, map, Bool, not, ◌&&◌, ◌||◌, length, get_or, leb, ltb, eqb}
use Rattle.laws.specs.Lists.{all, tabulate}
use Rattle.table.specs.Table.{Table}
use Rattle.lexer.specs.Whole.{is_whole_name}
use Rattle.reader.specs.declared.Span.{Span}
use Rattle.reader.specs.declared.Binding.{Binding}
use Rattle.reader.specs.Spans.{span, bytes_of}
use Rattle.reader.specs.Namespaces.{refused_binding}
use Rattle.reader.specs.Stored.{binding_in}
use Rattle.reader.specs.Scope.{name_in}
use Rattle.reader.specs.Counted.{count_of}
use Rattle.model.specs.Stream.{HeldStrand}
use Rattle.strands.specs.Packed.{strand_in, words_at}
use Rattle.coherence.specs.Fitting.{span_inside, prefix_fits, target_fits, aims}

abbrev pub binding_fits : List ℕ → Binding → Bool
binding_fits s b = span_inside s b.prefix && (span_inside s b.uri && (not (refused_binding s b) && prefix_fits s b.prefix))

abbrev pub name_fits : List ℕ → Span → Bool
name_fits s w = span_inside s w && (not (eqb w.at 0) && is_whole_name (bytes_of s w))

-- of a table with so many URIs
abbrev pub class_fits : ℕ → ℕ → Bool
class_fits listed class = leb class listed || (eqb class 254 || eqb class 255)

abbrev pub strand_fits : ℕ → ℕ → HeldStrand ℕ → Bool
strand_fits modes units r = ltb r.mode modes && (target_fits units r.target && aims r.action r.target)

-- of the k-th level, which has n: sixteen places to a level
abbrev pub strands_fit : ℕ → ℕ → List ℕ → ℕ → ℕ → Bool
strands_fit modes units strands k n = leb 1 n && (leb n 16 && all (strand_fits modes units) (map strand_in (words_at strands k n)))

unfoldable pub level_fits : List ℕ → ℕ → ℕ → ℕ → List ℕ → List ℕ → List ℕ → ℕ → Bool
level_fits s listed modes units levels spaces strands k =
    name_fits s (name_in levels k)
    && (class_fits listed (get_or spaces (4 * k) 0)
    && (span_inside s (span (get_or spaces (4 * k + 1) 0) (get_or spaces (4 * k + 2) 0))
    && strands_fit modes units strands k (get_or spaces (4 * k + 3) 0)))

-- of arrays with so many open levels and bindings, under a table: the levels' counts of bindings, each binding, each level
unfoldable pub arrays_fit : Table → List ℕ → ℕ → ℕ → ℕ → List ℕ → List ℕ → List ℕ → List ℕ → Bool
arrays_fit t s units depth bound levels bindings spaces strands =
    eqb (count_of levels depth) bound
    && (all (binding_fits s) (tabulate (binding_in bindings) 0 bound)
    && all (level_fits s (length t.uris) t.modes units levels spaces strands) (tabulate (λ (k : ℕ). k) 0 depth))
