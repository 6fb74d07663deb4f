-- A coherent session is coherent with more bytes behind the scene.
use Prim.Native.Nat.{ℕ, ◌+◌, ◌≤◌, ◌<◌}
use mathlib.Core.Path.{◌≡◌}
use mathlib.Core.List.{List, ◌++◌}
use mathlib.Core.Bool.{Bool, true, not, ◌&&◌}
use native.Mathlib.Omega.{arith}
use borrow.Author.Tests.{leb-true, le-leb}
use lib.ListN.{length, length-append}
use lib.Dec.{eqb}
use Rattle.laws.specs.Lists.{all}
use Rattle.laws.specs.Tests.{both}
use Rattle.laws.proofs.Elementwise.{tabulated_all}
use Rattle.laws.proofs.Flags.{and_left, and_right}
use Rattle.table.specs.Table.{Table}
use Rattle.lexer.specs.Whole.{is_whole_name}
use Rattle.reader.specs.Spans.{bytes_of}
use Rattle.reader.specs.Namespaces.{refused_binding}
use Rattle.reader.specs.Stored.{binding_in}
use Rattle.reader.specs.Scope.{name_in}
use Rattle.reader.specs.Held.{SpanHeld, BindingHeld}
use Rattle.reader.specs.declared.Span.{Span}
use Rattle.reader.specs.declared.Binding.{Binding}
use Rattle.reader.proofs.MoreBytes.{bytes_more, refused_more}
use Rattle.coherence.specs.Fitting.{span_inside, prefix_fits}
use Rattle.sessions.specs.Sessions.{uri_in}
use Rattle.sessions.specs.Coherence.{open_levels, open_bindings, coherent}
use Rattle.sessions.specs.Session.{Session}
use Rattle.sessions.proofs.Clauses.{Clauses, clauses, all_clauses}
use Rattle.sessions.proofs.CoherentSound.{at_level, at_binding, binding_held}

pub coherent_more : (t : Table) (s u : List ℕ) (z : Session) → coherent t s z ≡ true → coherent t (s ++ u) z ≡ true
coherent_more t s u z e =
    all_clauses t (s ++ u) z
    (record {
      depth = c.depth;
      bound = c.bound;
      place = le-leb z.place (length (s ++ u)) (longer z.place (leb-true z.place (length s) c.place));
      level_spans = levels (λ (k : ℕ). span_inside (s ++ u) (name k) && span_inside (s ++ u) (uri_in z k)) (λ k l. let h = spans k l in both _ _ (span_longer (name k) h.0) (span_longer (uri_in z k) h.1));
      binding_spans = bindings (λ (b : Binding). span_inside (s ++ u) b.prefix && span_inside (s ++ u) b.uri) (λ k l. let h = (held k l).inside in both _ _ (span_longer (binding k).prefix h.prefix) (span_longer (binding k).uri h.uri));
      names = levels (λ (k : ℕ). not (eqb (name k).at 0) && is_whole_name (bytes_of (s ++ u) (name k))) (λ k l. rw (bytes_more s u (name k) (spans k l).0) (names k l));
      allowed = bindings (λ (b : Binding). not (refused_binding (s ++ u) b)) (λ k l. rw (refused_more s u (binding k) (held k l).inside, (held k l).fits));
      prefixes = bindings (λ (b : Binding). prefix_fits (s ++ u) b.prefix) (λ k l. rw (bytes_more s u (binding k).prefix (held k l).inside.prefix) (prefixes k l));
      strand_counts = c.strand_counts;
      modes = c.modes;
      classes = c.classes;
      targets = c.targets;
      aims = c.aims;
      units = c.units;
      sum = c.sum;
      awaited = c.awaited;
      closed = c.closed;
    })
  where
    c : Clauses t s z
    c = clauses t s z e

    name : ℕ → Span
    name = name_in z.scope.levels

    binding : ℕ → Binding
    binding = binding_in z.scope.bindings

    longer : (n : ℕ) → n ≤ length s → n ≤ length (s ++ u)
    longer n l = simp length-append (omega arith)

    span_longer : (w : Span) → SpanHeld s w → span_inside (s ++ u) w ≡ true
    span_longer w h = le-leb (w.at + w.len) (length (s ++ u)) (longer (w.at + w.len) h)

    levels : (p : ℕ → Bool) → ((k : ℕ) → k < z.scope.depth → p k ≡ true) → all p (open_levels z) ≡ true
    levels p f = tabulated_all p (λ (k : ℕ). k) 0 z.scope.depth (λ k lo hi. f k (omega arith))

    bindings : (p : Binding → Bool) → ((k : ℕ) → k < z.scope.bound → p (binding k) ≡ true) → all p (open_bindings z) ≡ true
    bindings p f = tabulated_all p binding 0 z.scope.bound (λ k lo hi. f k (omega arith))

    spans : (k : ℕ) → k < z.scope.depth → SpanHeld s (name k) × SpanHeld s (uri_in z k)
    spans k l =
        let h : (span_inside s (name k) && span_inside s (uri_in z k)) ≡ true = at_level t s z c _ c.level_spans k l in
        (leb-true ((name k).at + (name k).len) (length s) (and_left (span_inside s (name k)) _ h), leb-true ((uri_in z k).at + (uri_in z k).len) (length s) (and_right (span_inside s (name k)) _ h))

    names : (k : ℕ) → k < z.scope.depth → (not (eqb (name k).at 0) && is_whole_name (bytes_of s (name k))) ≡ true
    names k l = at_level t s z c _ c.names k l

    held : (k : ℕ) → k < z.scope.bound → BindingHeld s (binding k)
    held = binding_held t s z c

    prefixes : (k : ℕ) → k < z.scope.bound → prefix_fits s (binding k).prefix ≡ true
    prefixes k l = at_binding t s z c _ c.prefixes k l
