-- What is kept beside the bindings: the class of each one's namespace. A device. Definitions.
use Rattle.std.specs.Prelude.{ℕ, ◌+◌, ◌<◌, ◌≡◌, List, map, cond, get_or, eqb}
use Rattle.table.specs.Table.{Table, class_of}
use Rattle.reader.specs.declared.Binding.{Binding}
use Rattle.reader.specs.declared.Span.{Span}
use Rattle.reader.specs.Spans.{span, bytes_of}
use Rattle.reader.specs.Stored.{binding_in, bindings_in}
use Rattle.attributes.specs.declared.Placing.{Placing}

-- the classes of the first n bindings of an array
abbrev pub classes_in : Table → List ℕ → List ℕ → ℕ → List ℕ
classes_in t s l n = map (λ (b : Binding). class_of t (bytes_of s b.uri)) (bindings_in l n)

-- the array has them, that of the k-th binding at 80 + from + k
abbrev pub ClassesAt : Table → List ℕ → List ℕ → ℕ → ℕ → List ℕ → Type 0
ClassesAt t s l n from known = (k : ℕ) → k < n → get_or known (80 + from + k) 0 ≡ class_of t (bytes_of s (binding_in l k).uri)

-- a class, and for class 255 where its URI stands
abbrev pub placed_by : ℕ → Span → Placing
placed_by class uri =
    let w = cond (eqb class 255) uri (span 0 0) in
    record { class = class; at = w.at; len = w.len }
