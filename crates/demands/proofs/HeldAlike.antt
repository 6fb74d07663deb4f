-- Holding the same is having the same reader's state and the same stream's.
--     alike_states        sessions that hold the same have the same states
--     states_alike        and back, where the levels' counts add up to the bindings
--     held_alike          both, of sessions that number 20 accepts
--     bindings_matter     a binding that no level counts: the same states, and not the same held
use Prim.Native.Nat.{ℕ, zero, suc, ◌+◌, ◌-◌, ◌≤◌, ◌<◌}
use mathlib.Core.Path.{◌≡◌, refl, sym, ap, ap₂, subst, ◌∙◌}
use mathlib.Core.List.{List, [], ◌∷◌, ◌++◌}
use mathlib.Core.Bool.{Bool, true, false}
use native.Mathlib.Omega.{arith}
use native.Mathlib.Nat.{zero-add}
use borrow.Author.Tests.{eq-eqb, eqb-true}
use lib.ListN.{length, get_or, replicate}
use Rattle.laws.specs.Lists.{tabulate}
use Rattle.laws.specs.Gather.{total}
use Rattle.laws.specs.Tests.{both}
use Rattle.laws.proofs.Lists.{length_tabulate, get_d_tabulate}
use Rattle.table.specs.Table.{Table}
use Rattle.reader.specs.declared.Binding.{Binding}
use Rattle.reader.specs.Stored.{binding_in}
use Rattle.reader.specs.Events.{Open, ReaderState, part_of, bindings_of}
use Rattle.reader.specs.Scope.{count_in, opens_in, opens_of}
use Rattle.reader.specs.Counted.{count_of, Counted}
use Rattle.reader.proofs.Tabulated.{tabulate_same}
use Rattle.reader.proofs.Indexed.{tab_last}
use Rattle.reader.proofs.Opens.{CountedScope, opens_bindings}
use Rattle.model.specs.Stream.{Level, State}
use Rattle.model.specs.Dispatch.{dispatch}
use Rattle.equality.specs.Same.{same_flag, same_each, same_binding, HeldLevel, same_level, held_level}
use Rattle.equality.proofs.Sameness.{each_self, flag_self, binding_self, level_self}
use Rattle.sessions.specs.Sessions.{level_uri, strands_in, level_in, levels_in, reader_of, state_of, fresh_of, session_of}
use Rattle.sessions.specs.Coherence.{open_levels, open_bindings, counts_add_up, coherent}
use Rattle.sessions.specs.Asking.{held_levels, holds_same}
use Rattle.sessions.specs.Session.{Session}
use Rattle.sessions.proofs.SoundCoherent.{total_numbers}
use Rattle.sessions.proofs.Clauses.{clauses}
use Rattle.sessions.proofs.HeldSame.{SameHeld, same_held}

-- rows that are equal are as long, and equal place by place
rows_equal : {A : Type 0} (f g : ℕ → A) (n m : ℕ) → tabulate f 0 n ≡ tabulate g 0 m → (n ≡ m) × ((k : ℕ) → k < n → f k ≡ g k)
rows_equal f g n m e =
    let q : n ≡ m = sym (length_tabulate f 0 n) ∙ ap length e ∙ length_tabulate g 0 m in (
      q,
      λ k l.
          ap f (sym (zero-add k))
          ∙ sym (get_d_tabulate f 0 n k (f 0) l)
          ∙ ap (λ (r : List _). get_or r k (f 0)) e
          ∙ get_d_tabulate g 0 m k (f 0) (omega arith)
          ∙ ap g (zero-add k),
    )

counted : (z : Session) → counts_add_up z ≡ true → CountedScope z.scope
counted z e = sym (total_numbers z.scope.levels z.scope.depth) ∙ eqb-true (total (count_in z.scope) (open_levels z)) z.scope.bound e

-- the k-th level that a session holds, and the stream's level by it
abbrev pub held : Session → ℕ → HeldLevel
held z = held_level z.scope.levels z.spaces z.strands

abbrev level_of : (t : Table) → List ℕ → HeldLevel → Level (dispatch t)
level_of t s h =
    record {
      at =
          record {
            part = part_of s h.name;
            space = record { class = h.class; uri = h.uri; bytes = level_uri t s h.class h.uri };
          };
      strands = h.strands;
    }

-- ---- the states, by what is held
module _ (x y : Session) (c : counts_add_up x ≡ true) (h : SameHeld x y) where
  at_level : (x.scope.depth ≡ y.scope.depth) × ((k : ℕ) → k < x.scope.depth → held x k ≡ held y k)
  at_level = rows_equal (held x) (held y) x.scope.depth y.scope.depth h.levels

  at_binding : (x.scope.bound ≡ y.scope.bound) × ((k : ℕ) → k < x.scope.bound → binding_in x.scope.bindings k ≡ binding_in y.scope.bindings k)
  at_binding = rows_equal (binding_in x.scope.bindings) (binding_in y.scope.bindings) x.scope.bound y.scope.bound h.bindings

  levels_alike : (t : Table) (s : List ℕ) (k : ℕ) → k ≤ x.scope.depth → levels_in t s x k ≡ levels_in t s y k
  unfolding levels_in level_in strands_in held_level
  levels_alike t s zero l = refl
  levels_alike t s (suc k) l = ap₂ ◌∷◌ (ap (level_of t s) (at_level.1 k l)) (levels_alike t s k (omega arith))

  -- the declarations of each level lie below the bound
  opens_alike : (k bound : ℕ) → k ≤ x.scope.depth → bound ≤ x.scope.bound → Counted x.scope.levels k bound
      → opens_in x.scope.levels x.scope.bindings k bound ≡ opens_in y.scope.levels y.scope.bindings k bound
  unfolding opens_in count_of held_level
  opens_alike zero bound l m e = refl
  opens_alike (suc k) bound l m e =
      let n : ℕ = count_in x.scope k in
      rw (
        ← ap (λ (v : HeldLevel). v.bindings) (at_level.1 k l),
        ← ap (λ (v : HeldLevel). v.name) (at_level.1 k l),
        tabulate_same (binding_in x.scope.bindings) (binding_in y.scope.bindings) (bound - n) (bound - n) n (λ i o. at_binding.1 (bound - n + i) (omega arith)),
        opens_alike k (bound - n) (omega arith) (omega arith) (omega arith),
      )

  alike_reader : reader_of x ≡ reader_of y
  alike_reader =
      let opened = opens_alike x.scope.depth x.scope.bound (omega arith) (omega arith) (counted x c) ∙ ap₂ (opens_in y.scope.levels y.scope.bindings) at_level.0 at_binding.0 in
      λ i. record { place = h.place i; closed = h.closed i; awaited = h.awaited i; opened = opened i }

  alike_stream : (t : Table) (s : List ℕ) → state_of t s x ≡ state_of t s y
  alike_stream t s =
      let levels = levels_alike t s x.scope.depth (omega arith) ∙ ap (levels_in t s y) at_level.0 in
      λ i. record { levels = levels i; units = h.units i }

pub alike_states : (x y : Session) → counts_add_up x ≡ true → holds_same x y ≡ true → (reader_of x ≡ reader_of y) × ((t : Table) (s : List ℕ) → state_of t s x ≡ state_of t s y)
alike_states x y c e = let h = same_held x y e in (alike_reader x y c h, alike_stream x y c h)

-- ---- what is held, by the states
abbrev held_of : (t : Table) → List Open → List (Level (dispatch t)) → List HeldLevel
held_of t [] ls = []
held_of t (o ∷ os) [] = []
held_of t (o ∷ os) (l ∷ ls) =
    held_of t os ls ++ (record { name = o.name; class = l.at.space.class; uri = l.at.space.uri; bindings = length o.declarations; strands = l.strands } ∷ [])

held_by : (t : Table) (s : List ℕ) (z : Session) (k bound : ℕ) → tabulate (held z) 0 k ≡ held_of t (opens_in z.scope.levels z.scope.bindings k bound) (levels_in t s z k)
unfolding tabulate opens_in levels_in level_in strands_in held_level
held_by t s z zero bound = refl
held_by t s z (suc k) bound =
    let n : ℕ = count_in z.scope k in
    tab_last (held z) k ∙ rw (held_by t s z k (bound - n), length_tabulate (binding_in z.scope.bindings) (bound - n) n)

held_same : (x y : Session) → SameHeld x y → holds_same x y ≡ true
unfolding holds_same
held_same x y h =
    both _ _ (eq-eqb x.place y.place h.place)
    (both _ _ (eq-eqb x.units y.units h.units)
    (both _ _ (subst (λ (b : Bool). same_flag x.closed b ≡ true) h.closed (flag_self x.closed))
    (both _ _ (subst (λ (b : Bool). same_flag x.awaited b ≡ true) h.awaited (flag_self x.awaited))
    (both _ _ (subst (λ (bs : List Binding). same_each same_binding (open_bindings x) bs ≡ true) h.bindings (each_self same_binding binding_self (open_bindings x)))
    (subst (λ (ls : List HeldLevel). same_each same_level (held_levels x) ls ≡ true) h.levels (each_self same_level level_self (held_levels x)))))))

pub states_alike : (t : Table) (s : List ℕ) (x y : Session) → counts_add_up x ≡ true → counts_add_up y ≡ true → reader_of x ≡ reader_of y → state_of t s x ≡ state_of t s y → holds_same x y ≡ true
states_alike t s x y c d r e =
    let opened : opens_of x.scope ≡ opens_of y.scope = ap (λ (q : ReaderState). q.opened) r in
    held_same x y
    (record {
      place = ap (λ (q : ReaderState). q.place) r;
      units = ap (λ (q : State (dispatch t)). q.units) e;
      closed = ap (λ (q : ReaderState). q.closed) r;
      awaited = ap (λ (q : ReaderState). q.awaited) r;
      bindings = sym (opens_bindings x.scope (counted x c)) ∙ ap bindings_of opened ∙ opens_bindings y.scope (counted y d);
      levels =
          held_by t s x x.scope.depth x.scope.bound
          ∙ ap₂ (held_of t) opened (ap (λ (q : State (dispatch t)). q.levels) e)
          ∙ sym (held_by t s y y.scope.depth y.scope.bound);
    })

pub held_alike : (t : Table) (s : List ℕ) (x y : Session) → coherent t s x ≡ true → coherent t s y ≡ true
    → (holds_same x y ≡ true → (reader_of x ≡ reader_of y) × (state_of t s x ≡ state_of t s y))
    × ((reader_of x ≡ reader_of y) × (state_of t s x ≡ state_of t s y) → holds_same x y ≡ true)
held_alike t s x y c d =
    let cx = (clauses t s x c).sum in
    let cy = (clauses t s y d).sum in
    (λ e. let a = alike_states x y cx e in (a.0, a.1 t s), λ p. states_alike t s x y cx cy p.0 p.1)

-- ---- a binding that no level counts is held, and no state has it
abbrev pub uncounted : Session
uncounted =
    session_of (record { place = 0; units = 0; closed = false; awaited = false; depth = 0; bound = 1 }) (replicate 192 0) (replicate 256 0) (replicate 256 0)
    (replicate 1024 0)

pub bindings_matter : (reader_of uncounted ≡ reader_of fresh_of) × ((t : Table) (s : List ℕ) → state_of t s uncounted ≡ state_of t s fresh_of) × (holds_same uncounted fresh_of ≡ false)
unfolding opens_in levels_in holds_same same_each tabulate
bindings_matter = (refl, λ t s. refl, refl)
