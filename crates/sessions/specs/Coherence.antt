-- Number 20: "session not coherent", a clause for each phrase of document 01's list. Definitions.
use Rattle.std.specs.Prelude.{ℕ, List, Bool, not, ◌&&◌, ◌||◌, length, leb, ltb, eqb}
use Rattle.laws.specs.Lists.{all, tabulate}
use Rattle.laws.specs.Gather.{total}
use Rattle.table.specs.Table.{Table}
use Rattle.lexer.specs.Whole.{is_whole_name}
use Rattle.reader.specs.declared.Binding.{Binding}
use Rattle.reader.specs.Spans.{bytes_of}
use Rattle.reader.specs.Namespaces.{refused_binding}
use Rattle.reader.specs.Stored.{binding_in}
use Rattle.reader.specs.Scope.{name_in, count_in}
use Rattle.model.specs.Stream.{HeldStrand}
use Rattle.coherence.specs.Fitting.{span_inside, prefix_fits, target_fits, aims}
use Rattle.sessions.specs.Sessions.{class_in, uri_in, strand_count, strands_in}
use Rattle.sessions.specs.Session.{Session}

-- the numbers of the open levels, and the open bindings
abbrev pub open_levels : Session → List ℕ
open_levels z = tabulate (λ (k : ℕ). k) 0 z.scope.depth

abbrev pub open_bindings : Session → List Binding
open_bindings z = tabulate (binding_in z.scope.bindings) 0 z.scope.bound

-- "a place or span outside the scene"
abbrev pub place_inside : List ℕ → Session → Bool
place_inside s z = leb z.place (length s)

abbrev pub level_spans_inside : List ℕ → Session → Bool
level_spans_inside s z = all (λ (k : ℕ). span_inside s (name_in z.scope.levels k) && span_inside s (uri_in z k)) (open_levels z)

abbrev pub binding_spans_inside : List ℕ → Session → Bool
binding_spans_inside s z = all (λ (b : Binding). span_inside s b.prefix && span_inside s b.uri) (open_bindings z)

-- "a level's name at offset 0 or not a name by the reader's rules"
abbrev pub names_fit : List ℕ → Session → Bool
names_fit s z =
    all
    (λ (k : ℕ). not (eqb (name_in z.scope.levels k).at 0) && is_whole_name (bytes_of s (name_in z.scope.levels k)))
    (open_levels z)

-- "a binding that 5 would refuse"
abbrev pub bindings_allowed : List ℕ → Session → Bool
bindings_allowed s z = all (λ (b : Binding). not (refused_binding s b)) (open_bindings z)

-- "or whose prefix is neither zero nor a name part"
abbrev pub prefixes_fit : List ℕ → Session → Bool
prefixes_fit s z = all (λ (b : Binding). prefix_fits s b.prefix) (open_bindings z)

-- "depth over 64"
abbrev pub depth_fits : Session → Bool
depth_fits z = leb z.scope.depth 64

-- "a level without 1 to 16 strands"
abbrev pub strand_counts_fit : Session → Bool
strand_counts_fit z = all (λ (k : ℕ). leb 1 (strand_count z k) && leb (strand_count z k) 16) (open_levels z)

-- "a mode, class or unit that the table or count lacks"
abbrev pub modes_fit : Table → Session → Bool
modes_fit t z = all (λ (k : ℕ). all (λ (r : HeldStrand ℕ). ltb r.mode t.modes) (strands_in z k)) (open_levels z)

abbrev pub classes_fit : Table → Session → Bool
classes_fit t z = all (λ (k : ℕ). leb (class_in z k) (length t.uris) || (eqb (class_in z k) 254 || eqb (class_in z k) 255)) (open_levels z)

abbrev pub targets_fit : Session → Bool
targets_fit z = all (λ (k : ℕ). all (λ (r : HeldStrand ℕ). target_fits z.units r.target) (strands_in z k)) (open_levels z)

-- "a validate strand without a target"
abbrev pub validates_aim : Session → Bool
validates_aim z = all (λ (k : ℕ). all (λ (r : HeldStrand ℕ). aims r.action r.target) (strands_in z k)) (open_levels z)

-- "over 65,536 units"
abbrev pub units_fit : Session → Bool
units_fit z = leb z.units 65536

-- "over 64 bindings or levels' counts that do not add up to them"
abbrev pub bound_fits : Session → Bool
bound_fits z = leb z.scope.bound 64

abbrev pub counts_add_up : Session → Bool
counts_add_up z = eqb (total (count_in z.scope) (open_levels z)) z.scope.bound

-- "an awaited end at depth 0"
abbrev pub awaited_fits : Session → Bool
awaited_fits z = not z.awaited || not (eqb z.scope.depth 0)

-- "a closed root at depth above 0"
abbrev pub closed_fits : Session → Bool
closed_fits z = not z.closed || eqb z.scope.depth 0

unfoldable pub coherent : Table → List ℕ → Session → Bool
coherent t s z =
    depth_fits z
    && (bound_fits z
    && (place_inside s z
    && (level_spans_inside s z
    && (binding_spans_inside s z
    && (names_fit s z
    && (bindings_allowed s z
    && (prefixes_fit s z
    && (strand_counts_fit z
    && (modes_fit t z
    && (classes_fit t z
    && (targets_fit z
    && (validates_aim z
    && (units_fit z && (counts_add_up z && (awaited_fits z && closed_fits z)))))))))))))))
