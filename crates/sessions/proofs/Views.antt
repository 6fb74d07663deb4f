-- What a session holds behind a start, an end and a text, as the stream and the reader see it; and its arrays keep their shape.
--     state_start, reader_start, fits_start     one level more
--     state_end, reader_end, fits_end           one level less
--     state_place, fits_place                   only the place is another
use Prim.Native.Nat.{ℕ, zero, suc, ◌+◌, ◌-◌, ◌*◌, ◌^◌, ◌≤◌, ◌<◌}
use mathlib.Core.Path.{◌≡◌, refl, sym, ap, ap₂, subst, ◌∙◌}
use mathlib.Core.List.{List, [], ◌∷◌, map, tail}
use mathlib.Core.Bool.{Bool, false}
use mathlib.Core.Logic.{⊎_elim}
use native.Mathlib.Omega.{arith}
use native.Mathlib.Numerals.{add-one}
use native.Mathlib.Nat.{add-zero, zero-add, mod-eq_of_lt}
use borrow.Author.Tests.{eq-eqb, ne_eqb, le-ltb}
use lib.ListN.{length, get_or, length-map}
use Rattle.laws.specs.Lists.{tabulate}
use Rattle.laws.specs.Members.{All}
use Rattle.laws.specs.Reading.{le_or_lt}
use Rattle.laws.proofs.Over.{length_over, get_d_over_before, get_d_over_in}
use Rattle.table.specs.Table.{Table}
use Rattle.reader.specs.declared.Span.{Span}
use Rattle.reader.specs.declared.Binding.{Binding}
use Rattle.reader.specs.declared.Scope.{Scope}
use Rattle.reader.specs.Spans.{span}
use Rattle.reader.specs.Stored.{narrowed}
use Rattle.reader.specs.Events.{part_of}
use Rattle.reader.specs.Scope.{level_numbers, count_in, closed_of, name_in, opens_in, opens_of}
use Rattle.reader.proofs.Tabulated.{tabulate_same}
use Rattle.reader.proofs.Opens.{CountedScope, close_opens, close_counted}
use Rattle.model.specs.Elements.{Space}
use Rattle.model.specs.Stream.{Level, HeldStrand}
use Rattle.model.specs.Dispatch.{dispatch}
use Rattle.strands.specs.Packed.{strand_in, packed}
use Rattle.sessions.specs.Sessions.{level_uri, strand_count, strands_in, level_in, levels_in, reader_of, state_of, with_place, with_end, with_start}
use Rattle.sessions.specs.Session.{Session}
use Rattle.sessions.proofs.Sound.{Fits}
use Rattle.strands.proofs.Packing.{Packable, packed_all}
use Rattle.sessions.proofs.Own.{SpanSmall, BindingSmall, opened_opens, opened_counted, opened_lengths}

-- A start that a session has room for. Where an open level had more than 16 strands they would reach into the next level's
pub record Room (z : Session) (name : Span) (own : List Binding) (space : Space) (strands : List (HeldStrand ℕ)) : Type 0 where
  pub counts : (k : ℕ) → k < z.scope.depth → strand_count z k ≤ 16
  pub shallow : z.scope.depth < 64
  pub bound : z.scope.bound + length own ≤ 64
  pub few_own : length own ≤ 16
  pub few_strands : length strands ≤ 16
  pub packable : All Packable strands
  pub name_small : SpanSmall name
  pub class_small : space.class < 2 ^ 32
  pub uri_small : SpanSmall space.uri
  pub own_small : All BindingSmall own

-- ---- levels that agree
-- at `i` for `i + 0`
first_same : (l : List ℕ) (i v : ℕ) → get_or l (i + 0) 0 ≡ v → get_or l i 0 ≡ v
first_same l i v h = ap (λ (n : ℕ). get_or l n 0) (sym (add-zero i)) ∙ h

list_back : (l : List ℕ) → tabulate (λ (i : ℕ). get_or l i 0) 0 (length l) ≡ l
unfolding tabulate
list_back [] = refl
list_back (x ∷ l) = ap (λ (m : List ℕ). x ∷ m) (tabulate_same (λ (i : ℕ). get_or (x ∷ l) i 0) (λ (i : ℕ). get_or l i 0) 1 0 (length l) next ∙ list_back l)
  where
    next : (i : ℕ) → i < length l → get_or (x ∷ l) (1 + i) 0 ≡ get_or l (0 + i) 0
    next i h =
        let e : 1 + i ≡ suc i = omega arith in
        ap (λ (n : ℕ). get_or (x ∷ l) n 0) e ∙ ap (λ (n : ℕ). get_or l n 0) (sym (zero-add i))

module _ (t : Table) (s : List ℕ) (z z' : Session) where
  levels_same : (d : ℕ) → ((k : ℕ) → k < d → level_in t s z k ≡ level_in t s z' k) → levels_in t s z d ≡ levels_in t s z' d
  unfolding levels_in
  levels_same zero h = refl
  levels_same (suc d) h = ap₂ ◌∷◌ (h d (omega arith)) (levels_same d (λ k l. h k (omega arith)))

  -- by the four numbers and the name of a level, and its strands
  level_same : (k : ℕ) → name_in z.scope.levels k ≡ name_in z'.scope.levels k → ((j : ℕ) → j < 4 → get_or z.spaces (4 * k + j) 0 ≡ get_or z'.spaces (4 * k + j) 0)
      → ((i : ℕ) → i < strand_count z' k → get_or z.strands (16 * k + i) 0 ≡ get_or z'.strands (16 * k + i) 0) → level_in t s z k ≡ level_in t s z' k
  unfolding level_in strands_in
  level_same k n f g =
      let c : get_or z.spaces (4 * k) 0 ≡ get_or z'.spaces (4 * k) 0 =
      first_same z.spaces (4 * k) (get_or z'.spaces (4 * k) 0) (f 0 (omega arith) ∙ ap (λ (i : ℕ). get_or z'.spaces i 0) (add-zero (4 * k))) in
      rw (
        n,
        c,
        f 1 (omega arith),
        f 2 (omega arith),
        f 3 (omega arith),
        tabulate_same (λ (i : ℕ). get_or z.strands i 0) (λ (i : ℕ). get_or z'.strands i 0) (16 * k) (16 * k) (strand_count z' k) g,
      )

-- ---- one level more
module _ (z : Session) (place : ℕ) (awaited : Bool) (units : ℕ) (name : Span) (own : List Binding) (space : Space) (strands : List (HeldStrand ℕ)) (f : Fits z) (r : Room z name own space strands) where
  abbrev next : Session
  next = with_start z place awaited units name own space strands

  abbrev numbers : List ℕ
  numbers = narrowed space.class ∷ narrowed space.uri.at ∷ narrowed space.uri.len ∷ length strands ∷ []

  number_at : (j : ℕ) → j < 4 → get_or next.spaces (4 * z.scope.depth + j) 0 ≡ get_or numbers j 0
  number_at j l = get_d_over_in z.spaces (4 * z.scope.depth) numbers j 0 l (omega arith)

  name_at_lem : name_in next.scope.levels z.scope.depth ≡ name
  unfolding name_in
  name_at_lem =
      let n = r.name_small in
      let at : (j : ℕ) → j < 3 → get_or next.scope.levels (3 * z.scope.depth + j) 0 ≡ get_or (level_numbers name (length own)) j 0 =
      λ j l. get_d_over_in z.scope.levels (3 * z.scope.depth) (level_numbers name (length own)) j 0 l (omega arith) in
      rw (
        first_same next.scope.levels (3 * z.scope.depth) (narrowed name.at) (at 0 (omega arith)),
        at 1 (omega arith),
        mod-eq_of_lt {n = name.at} {m = 4294967296} n.at,
        mod-eq_of_lt {n = name.len} {m = 4294967296} n.len,
      )

  strands_at_lem : strands_in next z.scope.depth ≡ strands
  unfolding strands_in
  strands_at_lem =
      let d : ℕ = 16 * z.scope.depth in
      let n : length (map packed strands) ≡ length strands = length-map strands packed in
      rw (number_at 3 (omega arith))
      (ap (map strand_in)
      (ap (tabulate (λ (i : ℕ). get_or next.strands i 0) d) (sym n)
      ∙ tabulate_same (λ (i : ℕ). get_or next.strands i 0) (λ (i : ℕ). get_or (map packed strands) i 0) d 0 (length (map packed strands))
      (λ i l. get_d_over_in z.strands d (map packed strands) i 0 l (omega arith) ∙ ap (λ (j : ℕ). get_or (map packed strands) j 0) (sym (zero-add i)))
      ∙ list_back (map packed strands))
      ∙ packed_all strands r.packable)

  abbrev pub new_level : (t : Table) → List ℕ → Level (dispatch t)
  new_level t s =
      record {
        at = record { part = part_of s name; space = record { class = space.class; uri = space.uri; bytes = level_uri t s space.class space.uri } };
        strands = strands;
      }

  module _ (t : Table) (s : List ℕ) where
    level_at_lem : level_in t s next z.scope.depth ≡ new_level t s
    unfolding level_in
    level_at_lem =
        let u = r.uri_small in
        rw (
          name_at_lem,
          first_same next.spaces (4 * z.scope.depth) (narrowed space.class) (number_at 0 (omega arith)),
          number_at 1 (omega arith),
          number_at 2 (omega arith),
          strands_at_lem,
          mod-eq_of_lt {n = space.class} {m = 4294967296} r.class_small,
          mod-eq_of_lt {n = space.uri.at} {m = 4294967296} u.at,
          mod-eq_of_lt {n = space.uri.len} {m = 4294967296} u.len,
        )

    level_kept : (k : ℕ) → k < z.scope.depth → level_in t s next k ≡ level_in t s z k
    unfolding name_in
    level_kept k l =
        level_same t s next z k
        (ap₂ span (named (3 * k) (omega arith)) (named (3 * k + 1) (omega arith)))
        (λ j m. get_d_over_before z.spaces (4 * z.scope.depth) numbers (4 * k + j) 0 (omega arith) (omega arith))
        (λ i m. get_d_over_before z.strands (16 * z.scope.depth) (map packed strands) (16 * k + i) 0 (omega (arith, r.counts k l)) (omega arith))
      where
        named : (i : ℕ) → i < 3 * z.scope.depth → get_or next.scope.levels i 0 ≡ get_or z.scope.levels i 0
        named i m = get_d_over_before z.scope.levels (3 * z.scope.depth) (level_numbers name (length own)) i 0 m (omega arith)

    pub state_start : state_of t s next ≡ record { levels = new_level t s ∷ (state_of t s z).levels; units = units }
    unfolding levels_in
    state_start =
        ap (λ (ls : List (Level (dispatch t))). record { levels = ls; units = units })
        (ap (levels_in t s next) (add-one z.scope.depth) ∙ ap₂ ◌∷◌ level_at_lem (levels_same t s next z z.scope.depth level_kept))

  pub reader_start : reader_of next ≡ record { place = place; closed = false; awaited = awaited; opened = record { name = name; declarations = own } ∷ (reader_of z).opened }
  reader_start =
      rw (opened_opens z.scope name own r.few_own f.levels_long f.bindings_long r.shallow r.bound f.counted r.name_small r.own_small)

  pub fits_start : Fits next
  fits_start =
      let both = opened_lengths z.scope name own r.few_own f.levels_long f.bindings_long r.shallow r.bound in
      record {
        levels_long = both.0;
        bindings_long = both.1;
        spaces_long = length_over z.spaces (4 * z.scope.depth) numbers (omega arith) ∙ f.spaces_long;
        strands_long = length_over z.strands (16 * z.scope.depth) (map packed strands) (omega (arith, length-map strands packed)) ∙ f.strands_long;
        counted = opened_counted z.scope name own r.few_own f.levels_long f.bindings_long r.shallow r.bound f.counted;
        shallow = omega arith;
        few = omega arith;
      }

-- ---- one level less, or none where none is open
module _ (sc : Scope) (d : sc.depth ≤ 64) where
  closed_at_root : sc.depth ≡ 0 → closed_of sc ≡ sc
  unfolding closed_of
  closed_at_root e = rw (eq-eqb sc.depth 0 e)

  closed_inside : (sc.depth ≡ 0 → ⊥) → closed_of sc ≡ record { depth = sc.depth - 1; bound = sc.bound - count_in sc (sc.depth - 1); levels = sc.levels; bindings = sc.bindings }
  unfolding closed_of
  closed_inside n = rw (ne_eqb sc.depth 0 n, le-ltb 64 sc.depth d)

  -- what holds of each way that a scope is closed
  closed_by : (P : Scope → Type 0) → (sc.depth ≡ 0 → P sc)
      → ((sc.depth ≡ 0 → ⊥) → P (record { depth = sc.depth - 1; bound = sc.bound - count_in sc (sc.depth - 1); levels = sc.levels; bindings = sc.bindings })) → P (closed_of sc)
  closed_by P p q = ⊎_elim (λ h. root (omega arith)) (λ h. inside (λ e. omega arith)) (le_or_lt sc.depth 0)
    where
      root : sc.depth ≡ 0 → P (closed_of sc)
      root e = subst P (sym (closed_at_root e)) (p e)

      inside : (sc.depth ≡ 0 → ⊥) → P (closed_of sc)
      inside n = subst P (sym (closed_inside n)) (q n)

  pub closed_depth : (closed_of sc).depth ≡ sc.depth - 1
  closed_depth = closed_by (λ (x : Scope). x.depth ≡ sc.depth - 1) (λ e. omega arith) (λ n. refl)

  closed_arrays : ((closed_of sc).levels ≡ sc.levels) × ((closed_of sc).bindings ≡ sc.bindings)
  closed_arrays = closed_by (λ (x : Scope). (x.levels ≡ sc.levels) × (x.bindings ≡ sc.bindings)) (λ e. (refl, refl)) (λ n. (refl, refl))

  closed_bound : (closed_of sc).bound ≤ sc.bound
  closed_bound = closed_by (λ (x : Scope). x.bound ≤ sc.bound) (λ e. omega arith) (λ n. omega arith)

  closed_counted : CountedScope sc → CountedScope (closed_of sc)
  closed_counted c = ⊎_elim (λ h. subst CountedScope (sym (closed_at_root (omega arith))) c) (λ h. close_counted sc (λ e. omega arith) d c) (le_or_lt sc.depth 0)

  pub closed_opens : opens_of (closed_of sc) ≡ tail (opens_of sc)
  unfolding opens_in
  closed_opens = ⊎_elim (λ h. root (omega arith)) (λ h. sym (ap tail (close_opens sc (λ e. omega arith) d))) (le_or_lt sc.depth 0)
    where
      root : sc.depth ≡ 0 → opens_of (closed_of sc) ≡ tail (opens_of sc)
      root e =
          let none : opens_of sc ≡ [] = ap (λ (k : ℕ). opens_in sc.levels sc.bindings k sc.bound) e in
          ap opens_of (closed_at_root e) ∙ none ∙ sym (ap tail none)

levels_tail : (t : Table) (s : List ℕ) (z : Session) (d : ℕ) → levels_in t s z (d - 1) ≡ tail (levels_in t s z d)
unfolding levels_in
levels_tail t s z zero = refl
levels_tail t s z (suc d) = let e : suc d - 1 ≡ d = omega arith in ap (levels_in t s z) e

module _ (z : Session) (place : ℕ) (closed : Bool) (f : Fits z) where
  abbrev behind : Session
  behind = with_end z place closed

  pub state_end : (t : Table) (s : List ℕ) → state_of t s behind ≡ record { levels = tail (state_of t s z).levels; units = z.units }
  state_end t s =
      let arrays = closed_arrays z.scope f.shallow in
      ap (λ (ls : List (Level (dispatch t))). record { levels = ls; units = z.units })
      (levels_same t s behind z (closed_of z.scope).depth (λ k l. level_same t s behind z k (ap (λ (x : List ℕ). name_in x k) arrays.0) (λ j m. refl) (λ i m. refl))
      ∙ ap (levels_in t s z) (closed_depth z.scope f.shallow)
      ∙ levels_tail t s z z.scope.depth)

  pub reader_end : reader_of behind ≡ record { place = place; closed = closed; awaited = false; opened = tail (reader_of z).opened }
  reader_end = rw (closed_opens z.scope f.shallow)

  pub fits_end : Fits behind
  fits_end =
      let arrays = closed_arrays z.scope f.shallow in
      record {
        levels_long = ap length arrays.0 ∙ f.levels_long;
        bindings_long = ap length arrays.1 ∙ f.bindings_long;
        spaces_long = f.spaces_long;
        strands_long = f.strands_long;
        counted = closed_counted z.scope f.shallow f.counted;
        shallow = omega (arith, closed_depth z.scope f.shallow);
        few = omega (arith, closed_bound z.scope f.shallow);
      }

-- ---- only the place is another
module _ (z : Session) (place : ℕ) where
  pub state_place : (t : Table) (s : List ℕ) → state_of t s (with_place z place) ≡ state_of t s z
  state_place t s =
      ap (λ (ls : List (Level (dispatch t))). record { levels = ls; units = z.units })
      (levels_same t s (with_place z place) z z.scope.depth (λ k l. level_same t s (with_place z place) z k refl (λ j m. refl) (λ i m. refl)))

  pub fits_place : Fits z → Fits (with_place z place)
  fits_place f =
      record {
        levels_long = f.levels_long;
        bindings_long = f.bindings_long;
        spaces_long = f.spaces_long;
        strands_long = f.strands_long;
        counted = f.counted;
        shallow = f.shallow;
        few = f.few;
      }
