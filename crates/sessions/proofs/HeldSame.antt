-- What two sessions hold, compared.
--     same_parts              by their numbers and their arrays
--     same_self, same_held    a session holds the same as itself; what is held alike is equal
--     within_coherent         the counts of a session that number 20 accepts
use Prim.Native.Nat.{ℕ}
use mathlib.Core.Path.{◌≡◌, refl, ap₂, ◌∙◌}
use mathlib.Core.List.{List}
use mathlib.Core.Bool.{Bool, true, false, ◌&&◌}
use borrow.Author.Tests.{eq-eqb, eqb-true}
use lib.Dec.{leb, eqb}
use Rattle.laws.specs.Lists.{tabulate}
use Rattle.laws.specs.Tests.{both}
use Rattle.laws.proofs.Flags.{and_left, and_right}
use Rattle.table.specs.Table.{Table}
use Rattle.reader.specs.declared.Binding.{Binding}
use Rattle.reader.specs.Stored.{binding_in}
use Rattle.equality.specs.Same.{same_flag, same_each, same_binding, HeldLevel, same_level, held_level}
use Rattle.equality.specs.Checks.{within_arrays, arrays_same}
use Rattle.equality.proofs.Sameness.{each_counts, each_self, each_equal, flag_self, flag_equal, binding_self, binding_equal, level_self, level_equal}
use Rattle.sessions.specs.Sessions.{head_of, strand_count}
use Rattle.sessions.specs.Coherence.{open_levels, open_bindings, coherent}
use Rattle.sessions.specs.Checks.{same_head}
use Rattle.sessions.specs.Asking.{held_levels, holds_same}
use Rattle.sessions.specs.Session.{Session}
use Rattle.sessions.proofs.Clauses.{clauses}
use Rattle.sessions.proofs.CheckedWhole.{weaker}

regrouped : (p u c w n d b l : Bool) → (p && (u && (c && (w && ((n && b) && (d && l)))))) ≡ ((p && (u && ((c && w) && (n && d)))) && (b && l))
regrouped false u c w n d b l = refl
regrouped true false c w n d b l = refl
regrouped true true false w n d b l = refl
regrouped true true true false n d b l = refl
regrouped true true true true false d b l = refl
regrouped true true true true true false false l = refl
regrouped true true true true true false true l = refl
regrouped true true true true true true b l = refl

module _ (x y : Session) where
  abbrev pub of_arrays : Bool
  of_arrays = arrays_same x.scope.depth x.scope.bound x.scope.levels x.scope.bindings x.spaces x.strands y.scope.levels y.scope.bindings y.spaces y.strands

  abbrev f : ℕ → Binding
  f = binding_in x.scope.bindings

  abbrev f' : ℕ → Binding
  f' = binding_in y.scope.bindings

  abbrev g : ℕ → HeldLevel
  g = held_level x.scope.levels x.spaces x.strands

  abbrev g' : ℕ → HeldLevel
  g' = held_level y.scope.levels y.spaces y.strands

  pub same_parts : holds_same x y ≡ (same_head (head_of x) (head_of y) && of_arrays)
  unfolding holds_same arrays_same
  same_parts =
      let n = x.scope.bound in
      let d = x.scope.depth in
      ap₂ (λ (b l : Bool). eqb x.place y.place && (eqb x.units y.units && (same_flag x.closed y.closed && (same_flag x.awaited y.awaited && (b && l)))))
      (each_counts same_binding f f' n y.scope.bound) (each_counts same_level g g' d y.scope.depth)
      ∙ regrouped (eqb x.place y.place) (eqb x.units y.units) (same_flag x.closed y.closed) (same_flag x.awaited y.awaited) (eqb n y.scope.bound) (eqb d y.scope.depth)
      (same_each same_binding (tabulate f 0 n) (tabulate f' 0 n)) (same_each same_level (tabulate g 0 d) (tabulate g' 0 d))

pub same_self : (z : Session) → holds_same z z ≡ true
unfolding holds_same
same_self z =
    both _ _ (eq-eqb z.place z.place refl)
    (both _ _ (eq-eqb z.units z.units refl)
    (both _ _ (flag_self z.closed)
    (both _ _ (flag_self z.awaited)
    (both _ _ (each_self same_binding binding_self (open_bindings z)) (each_self same_level level_self (held_levels z))))))

-- what is held, equal
pub record SameHeld (x y : Session) : Type 0 where
  pub place : x.place ≡ y.place
  pub units : x.units ≡ y.units
  pub closed : x.closed ≡ y.closed
  pub awaited : x.awaited ≡ y.awaited
  pub bindings : open_bindings x ≡ open_bindings y
  pub levels : held_levels x ≡ held_levels y

pub same_held : (x y : Session) → holds_same x y ≡ true → SameHeld x y
unfolding holds_same
same_held x y e₁ =
    let e₂ = and_right (eqb x.place y.place) _ e₁ in
    let e₃ = and_right (eqb x.units y.units) _ e₂ in
    let e₄ = and_right (same_flag x.closed y.closed) _ e₃ in
    let e₅ = and_right (same_flag x.awaited y.awaited) _ e₄ in
    record {
      place = eqb-true x.place y.place (and_left _ _ e₁);
      units = eqb-true x.units y.units (and_left _ _ e₂);
      closed = flag_equal x.closed y.closed (and_left _ _ e₃);
      awaited = flag_equal x.awaited y.awaited (and_left _ _ e₄);
      bindings = each_equal same_binding binding_equal (open_bindings x) (open_bindings y) (and_left _ _ e₅);
      levels = each_equal same_level level_equal (held_levels x) (held_levels y) (and_right (same_each same_binding (open_bindings x) (open_bindings y)) _ e₅);
    }

pub within_coherent : (t : Table) (s : List ℕ) (z : Session) → coherent t s z ≡ true → within_arrays z.scope.depth z.scope.bound z.spaces ≡ true
unfolding within_arrays
within_coherent t s z e =
    let c = clauses t s z e in
    both _ _ c.depth
    (both _ _ c.bound
    (weaker (λ (k : ℕ). leb 1 (strand_count z k) && leb (strand_count z k) 16) (λ (k : ℕ). leb (strand_count z k) 16) (λ k. and_right (leb 1 (strand_count z k)) (leb (strand_count z k) 16)) (open_levels z) c.strand_counts))
