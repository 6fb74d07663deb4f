-- The open elements that a scope's arrays hold: none at first, one more where one is opened, one less where one is closed; and the open
-- bindings, outermost first.
use mathlib.Core.Path.{◌≡◌, refl, sym, ap, ◌∙◌}
use mathlib.Core.Logic.{⊎_elim}
use mathlib.Core.List.{List, [], ◌∷◌, ◌++◌}
use Prim.Native.Nat.{ℕ, zero, suc, ◌+◌, ◌-◌, ◌*◌, ◌^◌, ◌≤◌, ◌<◌}
use native.Mathlib.Omega.{arith}
use native.Mathlib.Numerals.{add-one}
use native.Mathlib.Nat.{add-zero, zero-add, add-sub_cancel, mod-eq_of_lt}
use borrow.Author.Tests.{ne_eqb, lt-ltb, le-ltb, le-leb, lt-leb}
use lib.ListN.{length, get_or, take}
use lib.Seq.{get_or-take, length-take-le}
use lib.Dec.{eqb}
use Rattle.std.specs.Prelude.{Result, Ok, Err}
use Rattle.laws.specs.Lists.{tabulate}
use Rattle.laws.specs.Reading.{le_or_lt}
use Rattle.laws.proofs.Over.{length_over, get_d_over_before, get_d_over_in}
use Rattle.reader.specs.Stored.{at_most, binding_in}
use Rattle.reader.specs.Events.{Open, is_nil, bindings_of}
use Rattle.reader.specs.Scope.{fresh_scope, level_numbers, with_level, opened_of, count_in, closed_of, name_in, opens_in, opens_of}
use Rattle.reader.specs.Counted.{count_of, Counted}
use Rattle.reader.specs.declared.Span.{Span}
use Rattle.reader.specs.declared.Binding.{Binding}
use Rattle.reader.specs.declared.Scope.{Scope}
use Rattle.reader.specs.declared.ScopeError.{ScopeError}
use Rattle.reader.specs.declared.ScopeError.TheVariants.{Depth, Bindings}
use Rattle.reader.proofs.Tabulated.{tabulate_same, tabulate_append}

-- every binding of a scope belongs to a level
abbrev pub CountedScope : Scope → Type 0
CountedScope sc = Counted sc.levels sc.depth sc.bound

-- ---- nothing open
pub fresh_counted : CountedScope fresh_scope
unfolding count_of
fresh_counted = refl

pub fresh_opens : opens_of fresh_scope ≡ []
unfolding opens_in
fresh_opens = refl

-- ---- arrays that agree
name_same : (l l' : List ℕ) (k : ℕ) → get_or l (3 * k) 0 ≡ get_or l' (3 * k) 0 → get_or l (3 * k + 1) 0 ≡ get_or l' (3 * k + 1) 0 → name_in l k ≡ name_in l' k
unfolding name_in
name_same l l' k p q = rw (p, q)

-- at `i` for `i + 0`
get_d_first : (l l' : List ℕ) (i i' : ℕ) → get_or l (i + 0) 0 ≡ get_or l' (i' + 0) 0 → get_or l i 0 ≡ get_or l' i' 0
get_d_first l l' i i' h = ap (λ (n : ℕ). get_or l n 0) (sym (add-zero i)) ∙ h ∙ ap (λ (n : ℕ). get_or l' n 0) (add-zero i')

pub binding_same : (l l' : List ℕ) (k k' : ℕ) → ((j : ℕ) → j < 4 → get_or l (4 * k + j) 0 ≡ get_or l' (4 * k' + j) 0) → binding_in l k ≡ binding_in l' k'
unfolding binding_in
binding_same l l' k k' h =
    rw (get_d_first l l' (4 * k) (4 * k') (h 0 (omega arith)), h 1 (omega arith), h 2 (omega arith), h 3 (omega arith))

-- as they were so far as the first depth levels reach
opens_kept : (levels levels' bindings bindings' : List ℕ) (depth bound : ℕ) → Counted levels depth bound
    → ((i : ℕ) → i < 3 * depth → get_or levels' i 0 ≡ get_or levels i 0) → ((k : ℕ) → k < bound → binding_in bindings' k ≡ binding_in bindings k)
    → opens_in levels' bindings' depth bound ≡ opens_in levels bindings depth bound
unfolding opens_in count_of
opens_kept levels levels' bindings bindings' zero bound c hl hb = refl
opens_kept levels levels' bindings bindings' (suc k) bound c hl hb =
    let n : ℕ = get_or levels (3 * k + 2) 0 in
    rw (
      hl (3 * k + 2) (omega arith),
      name_same levels' levels k (hl (3 * k) (omega arith)) (hl (3 * k + 1) (omega arith)),
      tabulate_same (binding_in bindings') (binding_in bindings) (bound - n) (bound - n) n (λ i l. hb (bound - n + i) (omega arith)),
      opens_kept levels levels' bindings bindings' k (bound - n) (omega arith) (λ i l. hl i (omega arith)) (λ i l. hb i (omega arith)),
    )

count_kept : (levels levels' : List ℕ) (depth : ℕ) → ((i : ℕ) → i < 3 * depth → get_or levels' i 0 ≡ get_or levels i 0) → count_of levels' depth ≡ count_of levels depth
unfolding count_of
count_kept levels levels' zero h = refl
count_kept levels levels' (suc k) h = rw (h (3 * k + 2) (omega arith), count_kept levels levels' k (λ i l. h i (omega arith)))

-- ---- one more is opened
module _ (sc : Scope) (name : Span) (own : List ℕ) (owned : ℕ) where
  -- the arrays behind it
  abbrev levels : List ℕ
  levels = (with_level sc name own owned).levels

  abbrev bindings : List ℕ
  bindings = (with_level sc name own owned).bindings

  module _ (lv : length sc.levels ≡ 192) (d : sc.depth < 64) where
    level_before : (i : ℕ) → i < 3 * sc.depth → get_or levels i 0 ≡ get_or sc.levels i 0
    level_before i l = get_d_over_before sc.levels (3 * sc.depth) (level_numbers name owned) i 0 l (omega arith)

    level_at_lem : (k : ℕ) → k < 3 → get_or levels (3 * sc.depth + k) 0 ≡ get_or (level_numbers name owned) k 0
    level_at_lem k l = get_d_over_in sc.levels (3 * sc.depth) (level_numbers name owned) k 0 l (omega arith)

    pub open_counted : CountedScope sc → CountedScope (with_level sc name own owned)
    unfolding count_of
    open_counted c =
        rw (add-one sc.depth, level_at_lem 2 (omega arith), count_kept sc.levels levels sc.depth level_before, c)

    level_named : name.at < 2 ^ 32 → name.len < 2 ^ 32 → name_in levels sc.depth ≡ name
    unfolding name_in
    level_named ha hl =
        rw (
          get_d_first levels (level_numbers name owned) (3 * sc.depth) 0 (level_at_lem 0 (omega arith)),
          level_at_lem 1 (omega arith),
          mod-eq_of_lt {n = name.at} {m = 4294967296} ha,
          mod-eq_of_lt {n = name.len} {m = 4294967296} hl,
        )

  module _ (lb : length sc.bindings ≡ 256) (lo : length own ≡ 64) (few : owned ≤ 16) (b : sc.bound + owned ≤ 64) where
    pub binding_before : (k : ℕ) → k < sc.bound → binding_in bindings k ≡ binding_in sc.bindings k
    binding_before k l =
        binding_same bindings sc.bindings k k (λ j m. get_d_over_before sc.bindings (4 * sc.bound) (take (4 * owned) own) (4 * k + j) 0 (omega arith) (omega arith))

    pub binding_own : (k : ℕ) → k < owned → binding_in bindings (sc.bound + k) ≡ binding_in own k
    binding_own k l = binding_same bindings own (sc.bound + k) k at
      where
        at : (j : ℕ) → j < 4 → get_or bindings (4 * (sc.bound + k) + j) 0 ≡ get_or own (4 * k + j) 0
        at j m =
            let e : 4 * (sc.bound + k) + j ≡ 4 * sc.bound + (4 * k + j) = omega arith in
            let n : length (take (4 * owned) own) ≡ 4 * owned = length-take-le (4 * owned) own (omega arith) in
            ap (λ (i : ℕ). get_or bindings i 0) e
            ∙ get_d_over_in sc.bindings (4 * sc.bound) (take (4 * owned) own) (4 * k + j) 0 (omega arith) (omega arith)
            ∙ get_or-take (4 * owned) own (4 * k + j) 0 (omega arith)

    module _ (lv : length sc.levels ≡ 192) (d : sc.depth < 64) where
      pub open_opens : CountedScope sc → name.at < 2 ^ 32 → name.len < 2 ^ 32
          → opens_of (with_level sc name own owned) ≡ record { name = name; declarations = tabulate (binding_in own) 0 owned } ∷ opens_of sc
      unfolding opens_in
      open_opens c ha hl =
          rw (
            add-one sc.depth,
            level_at_lem lv d 2 (omega arith),
            add-sub_cancel sc.bound owned,
            level_named lv d ha hl,
            tabulate_same (binding_in bindings) (binding_in own) sc.bound 0 owned (λ k l. binding_own k l ∙ ap (binding_in own) (sym (zero-add k))),
            opens_kept sc.levels levels sc.bindings bindings sc.depth sc.bound c (level_before lv d) binding_before,
          )

-- the arrays keep their lengths
pub open_lengths : (sc : Scope) (name : Span) (own : List ℕ) (owned : ℕ) → length sc.levels ≡ 192 → length sc.bindings ≡ 256 → length own ≡ 64 → owned ≤ 16 → sc.depth < 64 → sc.bound + owned ≤ 64
    → (length (with_level sc name own owned).levels ≡ 192) × (length (with_level sc name own owned).bindings ≡ 256)
open_lengths sc name own owned lv lb lo few d b =
    let n : length (take (4 * owned) own) ≡ 4 * owned = length-take-le (4 * owned) own (omega arith) in (
      length_over sc.levels (3 * sc.depth) (level_numbers name owned) (omega arith) ∙ lv,
      length_over sc.bindings (4 * sc.bound) (take (4 * owned) own) (omega arith) ∙ lb,
    )

-- an element is opened where there is room, and only there
pub data Opening (sc : Scope) (name : Span) (own : List ℕ) (owned : ℕ) : Result Scope ScopeError → Type 0 where
  deep : 64 ≤ sc.depth → Opening sc name own owned (Err Depth)
  full : sc.depth < 64 → 64 < sc.bound + at_most 16 owned → Opening sc name own owned (Err Bindings)
  room : sc.depth < 64 → sc.bound + at_most 16 owned ≤ 64 → Opening sc name own owned (Ok (with_level sc name own (at_most 16 owned)))

pub opening : (sc : Scope) (name : Span) (own : List ℕ) (owned : ℕ) → Opening sc name own owned (opened_of sc name own owned)
unfolding opened_of
opening sc name own owned =
    ⊎_elim (λ h. rw (le-leb 64 sc.depth h) (deep h))
    (λ d. ⊎_elim (λ h. rw (lt-leb 64 sc.depth d, le-ltb 64 (sc.bound + at_most 16 owned) h) (room d h))
    (λ h. rw (lt-leb 64 sc.depth d, lt-ltb 64 (sc.bound + at_most 16 owned) h) (full d h)) (le_or_lt (sc.bound + at_most 16 owned) 64))
    (le_or_lt 64 sc.depth)

-- ---- the innermost is closed
module _ (sc : Scope) (n : sc.depth ≡ 0 → ⊥) (d : sc.depth ≤ 64) where
  pub close_opens : opens_of sc
      ≡ record { name = name_in sc.levels (sc.depth - 1); declarations = tabulate (binding_in sc.bindings) (sc.bound - count_in sc (sc.depth - 1)) (count_in sc (sc.depth - 1)) } ∷ opens_of (closed_of sc)
  unfolding opens_in closed_of
  close_opens =
      let e : sc.depth ≡ suc (sc.depth - 1) = omega arith in
      rw (ne_eqb sc.depth 0 n, le-ltb 64 sc.depth d)
      (ap (λ (k : ℕ). opens_in sc.levels sc.bindings k sc.bound) e)

  pub close_counted : CountedScope sc → CountedScope (closed_of sc)
  unfolding count_of closed_of
  close_counted c =
      let e : sc.depth ≡ suc (sc.depth - 1) = omega arith in
      let c' : count_of sc.levels (suc (sc.depth - 1)) ≡ sc.bound = ap (count_of sc.levels) (sym e) ∙ c in
      rw (ne_eqb sc.depth 0 n, le-ltb 64 sc.depth d) (omega arith)

-- nothing is open where the depth is 0, and only there
pub opens_nil : (sc : Scope) → is_nil (opens_of sc) ≡ eqb sc.depth 0
unfolding opens_in
opens_nil sc = by sc.depth
  where
    by : (depth : ℕ) → is_nil (opens_in sc.levels sc.bindings depth sc.bound) ≡ eqb depth 0
    by zero = refl
    by (suc k) = sym (ne_eqb (suc k) 0 (λ e. omega arith))

pub close_tail : (sc : Scope) (o : Open) (os : List Open) → sc.depth ≤ 64 → opens_of sc ≡ o ∷ os
    → (name_in sc.levels (sc.depth - 1) ≡ o.name) × (opens_of (closed_of sc) ≡ os)
unfolding opens_in
close_tail sc o os d e =
    let both = sym (close_opens sc some d) ∙ e in
    (cc both, cc both)
  where
    some : sc.depth ≡ 0 → ⊥
    some z =
        let f : [] ≡ o ∷ os = sym (ap (λ (k : ℕ). opens_in sc.levels sc.bindings k sc.bound) z) ∙ e in
        let y : ◌≡◌ {A = ℕ} 0 1 = cc in omega arith

-- ---- the open bindings, outermost first
bindings_all : (levels bindings : List ℕ) (depth bound : ℕ) → Counted levels depth bound → bindings_of (opens_in levels bindings depth bound) ≡ tabulate (binding_in bindings) 0 bound
unfolding opens_in count_of bindings_of tabulate
bindings_all levels bindings zero bound c = ap (tabulate (binding_in bindings) 0) c
bindings_all levels bindings (suc k) bound c =
    let n : ℕ = get_or levels (3 * k + 2) 0 in
    let e : bound - n + n ≡ bound = omega arith in
    ap (λ (l : List Binding). l ++ tabulate (binding_in bindings) (bound - n) n) (bindings_all levels bindings k (bound - n) (omega arith))
    ∙ ap (λ (j : ℕ). tabulate (binding_in bindings) 0 (bound - n) ++ tabulate (binding_in bindings) j n) (sym (zero-add (bound - n)))
    ∙ sym (tabulate_append (binding_in bindings) 0 (bound - n) n)
    ∙ ap (tabulate (binding_in bindings) 0) e

pub opens_bindings : (sc : Scope) → CountedScope sc → bindings_of (opens_of sc) ≡ tabulate (binding_in sc.bindings) 0 sc.bound
opens_bindings sc c = bindings_all sc.levels sc.bindings sc.depth sc.bound c
