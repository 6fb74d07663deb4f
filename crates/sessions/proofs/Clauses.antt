-- The clauses of number 20, one by one: all of them, or `coherent`.
use Prim.Native.Nat.{ℕ}
use mathlib.Core.Path.{◌≡◌}
use mathlib.Core.List.{List}
use mathlib.Core.Bool.{true}
use Rattle.laws.specs.Tests.{both}
use Rattle.laws.proofs.Flags.{and_left, and_right}
use Rattle.table.specs.Table.{Table}
use Rattle.sessions.specs.Coherence.{depth_fits, bound_fits, place_inside, level_spans_inside, binding_spans_inside, names_fit, bindings_allowed, prefixes_fit, strand_counts_fit, modes_fit, classes_fit, targets_fit, validates_aim, units_fit, counts_add_up, awaited_fits, closed_fits, coherent}
use Rattle.sessions.specs.Session.{Session}

pub record Clauses (t : Table) (s : List ℕ) (z : Session) : Type 0 where
  pub depth : depth_fits z ≡ true
  pub bound : bound_fits z ≡ true
  pub place : place_inside s z ≡ true
  pub level_spans : level_spans_inside s z ≡ true
  pub binding_spans : binding_spans_inside s z ≡ true
  pub names : names_fit s z ≡ true
  pub allowed : bindings_allowed s z ≡ true
  pub prefixes : prefixes_fit s z ≡ true
  pub strand_counts : strand_counts_fit z ≡ true
  pub modes : modes_fit t z ≡ true
  pub classes : classes_fit t z ≡ true
  pub targets : targets_fit z ≡ true
  pub aims : validates_aim z ≡ true
  pub units : units_fit z ≡ true
  pub sum : counts_add_up z ≡ true
  pub awaited : awaited_fits z ≡ true
  pub closed : closed_fits z ≡ true

module _ (t : Table) (s : List ℕ) (z : Session) where
  pub clauses : coherent t s z ≡ true → Clauses t s z
  unfolding coherent
  clauses e₁ =
      let e₂ = and_right (depth_fits z) _ e₁ in
      let e₃ = and_right (bound_fits z) _ e₂ in
      let e₄ = and_right (place_inside s z) _ e₃ in
      let e₅ = and_right (level_spans_inside s z) _ e₄ in
      let e₆ = and_right (binding_spans_inside s z) _ e₅ in
      let e₇ = and_right (names_fit s z) _ e₆ in
      let e₈ = and_right (bindings_allowed s z) _ e₇ in
      let e₉ = and_right (prefixes_fit s z) _ e₈ in
      let e₁₀ = and_right (strand_counts_fit z) _ e₉ in
      let e₁₁ = and_right (modes_fit t z) _ e₁₀ in
      let e₁₂ = and_right (classes_fit t z) _ e₁₁ in
      let e₁₃ = and_right (targets_fit z) _ e₁₂ in
      let e₁₄ = and_right (validates_aim z) _ e₁₃ in
      let e₁₅ = and_right (units_fit z) _ e₁₄ in
      let e₁₆ = and_right (counts_add_up z) _ e₁₅ in
      record {
        depth = and_left (depth_fits z) _ e₁;
        bound = and_left (bound_fits z) _ e₂;
        place = and_left (place_inside s z) _ e₃;
        level_spans = and_left (level_spans_inside s z) _ e₄;
        binding_spans = and_left (binding_spans_inside s z) _ e₅;
        names = and_left (names_fit s z) _ e₆;
        allowed = and_left (bindings_allowed s z) _ e₇;
        prefixes = and_left (prefixes_fit s z) _ e₈;
        strand_counts = and_left (strand_counts_fit z) _ e₉;
        modes = and_left (modes_fit t z) _ e₁₀;
        classes = and_left (classes_fit t z) _ e₁₁;
        targets = and_left (targets_fit z) _ e₁₂;
        aims = and_left (validates_aim z) _ e₁₃;
        units = and_left (units_fit z) _ e₁₄;
        sum = and_left (counts_add_up z) _ e₁₅;
        awaited = and_left (awaited_fits z) _ e₁₆;
        closed = and_right (awaited_fits z) _ e₁₆;
      }

  pub all_clauses : Clauses t s z → coherent t s z ≡ true
  unfolding coherent
  all_clauses c =
      both _ _ c.depth
      (both _ _ c.bound
      (both _ _ c.place
      (both _ _ c.level_spans
      (both _ _ c.binding_spans
      (both _ _ c.names
      (both _ _ c.allowed
      (both _ _ c.prefixes
      (both _ _ c.strand_counts
      (both _ _ c.modes
      (both _ _ c.classes
      (both _ _ c.targets
      (both _ _ c.aims
      (both _ _ c.units
      (both _ _ c.sum
      (both _ _ c.awaited c.closed)))))))))))))))
