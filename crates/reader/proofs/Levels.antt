-- What `Scope`'s methods give is `opened_of`, `closed_of` and `name_in`, at each of their ends.
use mathlib.Core.Path.{◌≡◌, ap, ◌∙◌}
use mathlib.Core.Logic.{⊎_elim}
use mathlib.Core.List.{List, [], ◌∷◌}
use Prim.Native.Nat.{ℕ, ◌+◌, ◌-◌, ◌*◌, ◌≤◌, ◌<◌}
use native.Mathlib.Omega.{arith}
use borrow.Author.Tests.{ne_eqb, lt-ltb, le-ltb, le-leb, lt-leb}
use lib.ListN.{length, set, get_or-eq_default}
use Rattle.std.specs.Prelude.{Ok, Err}
use Rattle.laws.specs.Reading.{le_or_lt}
use Rattle.laws.specs.Over.{overwrite}
use Rattle.laws.proofs.Over.{set_over, over_set}
use Rattle.reader.specs.Spans.{span}
use Rattle.reader.specs.Stored.{at_most, narrowed}
use Rattle.reader.specs.Scope.{opened_of, count_in, closed_of, name_in}
use Rattle.reader.specs.Pushed.{pushed_bindings}
use Rattle.reader.specs.declared.Span.{Span}
use Rattle.reader.specs.declared.Scope.{Scope}
use Rattle.reader.specs.declared.ScopeError.TheVariants.{Depth, Bindings}
use Rattle.reader.proofs.Pushes.{laid}

pub most_few : (n : ℕ) → at_most 16 n ≤ 16
most_few n = ⊎_elim (λ l. rw (le-leb n 16 l) l) (λ l. rw (lt-leb n 16 l) (omega arith)) (le_or_lt n 16)

-- three stores
stores : (l : List ℕ) (i a b c : ℕ) → i + 2 < length l → set (set (set l i a) (i + 1) b) (i + 2) c ≡ overwrite l i (a ∷ b ∷ c ∷ [])
stores l i a b c h =
    ap (λ (x : List ℕ). set (set x (i + 1) b) (i + 2) c) (set_over l i a (omega arith))
    ∙ ap (λ (x : List ℕ). set x (i + 2) c) (over_set l i (a ∷ []) b (omega arith))
    ∙ over_set l i (a ∷ b ∷ []) c h

module _ (sc : Scope) (name : Span) (own : List ℕ) (owned : ℕ) where
  pub deep : 64 ≤ sc.depth → Err Depth ≡ opened_of sc name own owned
  unfolding opened_of
  deep h = rw (le-leb 64 sc.depth h)

  module _ (d : sc.depth < 64) (count : ℕ) (e : count ≡ at_most 16 owned) where
    pub full : 64 - count < sc.bound → Err Bindings ≡ opened_of sc name own owned
    unfolding opened_of
    full h = rw (lt-leb 64 sc.depth d, lt-ltb 64 (sc.bound + at_most 16 owned) (omega (arith, most_few owned)))

    pub opened : sc.bound ≤ 64 - count → length sc.levels ≡ 192 → (at len : ℕ) → at ≡ narrowed name.at → len ≡ narrowed name.len → (bs : List ℕ) → bs ≡ pushed_bindings sc.bindings sc.bound own count
        → Ok (record {
          depth = sc.depth + 1;
          bound = sc.bound + count;
          levels = set (set (set sc.levels (3 * sc.depth) at) (3 * sc.depth + 1) len) (3 * sc.depth + 2) count;
          bindings = bs;
        })
        ≡ opened_of sc name own owned
    unfolding opened_of
    opened h l at len ea el bs p =
        rw (
          ea,
          el,
          lt-leb 64 sc.depth d,
          le-ltb 64 (sc.bound + at_most 16 owned) (omega (arith, most_few owned)),
          stores sc.levels (3 * sc.depth) (narrowed name.at) (narrowed name.len) count (omega arith),
          p,
          ← laid sc.bindings sc.bound own count (omega (arith, most_few owned)) (omega (arith, most_few owned)),
          e,
        )

pub closed : (sc : Scope) → (sc.depth ≡ 0 → ⊥) → sc.depth ≤ 64 → (b : ℕ) → b ≡ sc.bound - count_in sc (sc.depth - 1)
    → record { depth = sc.depth - 1; bound = b; levels = sc.levels; bindings = sc.bindings } ≡ closed_of sc
unfolding closed_of
closed sc n d b e = rw (ne_eqb sc.depth 0 n, le-ltb 64 sc.depth d, e)

-- past the array
pub unnamed : (levels : List ℕ) (k : ℕ) → length levels ≡ 192 → 64 ≤ k → span 0 0 ≡ name_in levels k
unfolding name_in
unnamed levels k e h =
    rw (get_or-eq_default levels 0 {n = 3 * k} (omega arith), get_or-eq_default levels 0 {n = 3 * k + 1} (omega arith))
