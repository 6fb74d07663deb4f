-- A tag's declarations as numbers are read back, and a scope that is opened with them has them.
use Prim.Native.Nat.{ℕ, suc, ◌+◌, ◌-◌, ◌*◌, ◌%◌, ◌^◌, ◌≤◌, ◌<◌}
use mathlib.Core.Path.{◌≡◌, refl, sym, ap, ap₂, ◌∙◌, subst}
use mathlib.Core.List.{List, [], ◌∷◌, ◌++◌}
use native.Mathlib.Omega.{arith}
use native.Mathlib.Nat.{add-zero, mod-eq_of_lt}
use lib.ListN.{length, get_or, take, drop, replicate, length-append, length-replicate, get_or-append}
use lib.Seq.{take-append-le, length-take-le, get_or-take, get_or-drop, drop-drop}
use Rattle.laws.specs.Lists.{tabulate}
use Rattle.laws.specs.Gather.{gather}
use Rattle.laws.specs.Members.{All}
use Rattle.laws.proofs.Over.{length_over}
use Rattle.reader.specs.declared.Span.{Span}
use Rattle.reader.specs.declared.Binding.{Binding}
use Rattle.reader.specs.declared.Scope.{Scope}
use Rattle.reader.specs.Stored.{binding_in, binding_numbers}
use Rattle.reader.specs.Scope.{with_level, opens_of}
use Rattle.reader.proofs.Laying.{four_long}
use Rattle.reader.proofs.Opens.{CountedScope, binding_same, binding_before, binding_own, open_counted, open_opens, open_lengths}

-- what 32 bits hold
pub record SpanSmall (w : Span) : Type 0 where
  pub at : w.at < 2 ^ 32
  pub len : w.len < 2 ^ 32

pub record BindingSmall (b : Binding) : Type 0 where
  pub prefix : SpanSmall b.prefix
  pub uri : SpanSmall b.uri

-- a binding whose numbers stand at its place
module _ (l : List ℕ) (k : ℕ) (b : Binding) (rest : List ℕ) (e : drop (4 * k) l ≡ binding_numbers b ++ rest) (h : BindingSmall b) where
  number_at : (j : ℕ) → get_or l (4 * k + j) 0 ≡ get_or (binding_numbers b ++ rest) j 0
  number_at j = sym (get_or-drop (4 * k) l j 0) ∙ ap (λ (x : List ℕ). get_or x j 0) e

  binding_at_lem : binding_in l k ≡ b
  unfolding binding_in
  binding_at_lem =
      let p = h.prefix in
      let u = h.uri in
      let first : get_or l (4 * k) 0 ≡ b.prefix.at % 2 ^ 32 = ap (λ (n : ℕ). get_or l n 0) (sym (add-zero (4 * k))) ∙ number_at 0 in
      rw (
        first,
        number_at 1,
        number_at 2,
        number_at 3,
        mod-eq_of_lt {n = b.prefix.at} {m = 4294967296} p.at,
        mod-eq_of_lt {n = b.prefix.len} {m = 4294967296} p.len,
        mod-eq_of_lt {n = b.uri.at} {m = 4294967296} u.at,
        mod-eq_of_lt {n = b.uri.len} {m = 4294967296} u.len,
      )

pub own_back : (l pad : List ℕ) (k : ℕ) (own : List Binding) → drop (4 * k) l ≡ gather binding_numbers own ++ pad → All BindingSmall own → tabulate (binding_in l) k (length own) ≡ own
unfolding tabulate gather
own_back l pad k [] e h = refl
own_back l pad k (b ∷ own) e h =
    let n : 4 * suc k ≡ 4 * k + 4 = omega arith in
    ap₂ ◌∷◌ (binding_at_lem l k b (gather binding_numbers own ++ pad) e h.0)
    (own_back l pad (suc k) own (ap (λ (i : ℕ). drop i l) n ∙ sym (drop-drop 4 (4 * k) l) ∙ ap (drop 4) e) h.1)

-- the array of sixteen that begins with them
abbrev padded : List Binding → List ℕ
padded own = gather binding_numbers own ++ replicate (64 - 4 * length own) 0

module _ (sc : Scope) (name : Span) (own : List Binding) where
  abbrev pub opened : Scope
  opened = with_level sc name (gather binding_numbers own) (length own)

  as_padded : opened ≡ with_level sc name (padded own) (length own)
  as_padded = rw (take-append-le (4 * length own) (gather binding_numbers own) (replicate (64 - 4 * length own) 0) (omega (arith, four_long own)))

  padded_long : length own ≤ 16 → length (padded own) ≡ 64
  padded_long few =
      omega (arith, length-append (gather binding_numbers own) (replicate (64 - 4 * length own) 0), four_long own, length-replicate {A = ℕ} (64 - 4 * length own) 0)

  module _ (few : length own ≤ 16) (lb : length sc.bindings ≡ 256) (b : sc.bound + length own ≤ 64) where
    -- the bindings that were open, and behind them the tag's own, as an array that begins with their numbers has them
    pub opened_before : (k : ℕ) → k < sc.bound → binding_in opened.bindings k ≡ binding_in sc.bindings k
    opened_before k l = ap (λ (x : Scope). binding_in x.bindings k) as_padded ∙ binding_before sc name (padded own) (length own) lb (padded_long few) few b k l

    pub opened_own : (array : List ℕ) → take (4 * length own) array ≡ gather binding_numbers own → (k : ℕ) → k < length own → binding_in opened.bindings (sc.bound + k) ≡ binding_in array k
    opened_own array e k l =
        ap (λ (x : Scope). binding_in x.bindings (sc.bound + k)) as_padded
        ∙ binding_own sc name (padded own) (length own) lb (padded_long few) few b k l
        ∙ binding_same (padded own) array k k (λ j m.
        get_or-append (gather binding_numbers own) (replicate (64 - 4 * length own) 0) 0 (4 * k + j) (omega (arith, four_long own))
        ∙ ap (λ (x : List ℕ). get_or x (4 * k + j) 0) (sym e)
        ∙ get_or-take (4 * length own) array (4 * k + j) 0 (omega arith))

    pub opened_long : length opened.bindings ≡ 256
    opened_long =
        ap (λ (x : Scope). length x.bindings) as_padded
        ∙ length_over sc.bindings (4 * sc.bound) (take (4 * length own) (padded own)) (omega (arith, length-take-le (4 * length own) (padded own) (omega (arith, padded_long few)))) ∙ lb

  module _ (few : length own ≤ 16) (lv : length sc.levels ≡ 192) (lb : length sc.bindings ≡ 256) (d : sc.depth < 64) (b : sc.bound + length own ≤ 64) where
    pub opened_opens : CountedScope sc → SpanSmall name → All BindingSmall own → opens_of opened ≡ record { name = name; declarations = own } ∷ opens_of sc
    opened_opens c n h =
        ap opens_of as_padded
        ∙ open_opens sc name (padded own) (length own) lb (padded_long few) few b lv d c n.at n.len
        ∙ ap (λ (ds : List Binding). record { name = name; declarations = ds } ∷ opens_of sc) (own_back (padded own) (replicate (64 - 4 * length own) 0) 0 own refl h)

    pub opened_counted : CountedScope sc → CountedScope opened
    opened_counted c = open_counted sc name (gather binding_numbers own) (length own) lv d c

    pub opened_lengths : (length opened.levels ≡ 192) × (length opened.bindings ≡ 256)
    opened_lengths =
        subst (λ (x : Scope). (length x.levels ≡ 192) × (length x.bindings ≡ 256)) (sym as_padded)
        (open_lengths sc name (padded own) (length own) lv lb (padded_long few) few d b)
