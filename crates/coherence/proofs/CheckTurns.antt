-- The turns and ends of the checks of number 20.
--     strand_past, -aimed, -unaimed           a strand of a word
--     listed-*                                the loop that counts the URIs of a table
--     counts_over, counts_on, counts_end      the loop that adds up the levels' counts
use Prim.Native.Nat.{ℕ, zero, suc, ◌+◌, ◌-◌, ◌*◌, ◌/◌, ◌%◌, ◌≤◌, ◌<◌}
use mathlib.Core.Path.{◌≡◌, refl, sym, ap, ◌∙◌}
use mathlib.Core.List.{List, [], ◌∷◌}
use mathlib.Core.Bool.{Bool, true, false, cond, ◌&&◌, ◌||◌}
use mathlib.Core.Option.{none, some}
use mathlib.Core.Logic.{⊎_elim}
use native.Mathlib.Omega.{arith}
use native.Mathlib.Numerals.{add-one}
use native.Mathlib.Nat.{add-zero}
use borrow.Author.Tests.{ne_eqb, lt-ltb, le-ltb}
use lib.ListN.{length, get_or, drop, length-map, get_or-eq_default}
use lib.Dec.{leb, ltb, eqb}
use Rattle.table.specs.Table.{action_of, uris_of}
use Rattle.table.specs.Places.{place_of}
use Rattle.table.specs.declared.Header.{Header}
use Rattle.table.specs.declared.Listed.{Listed}
use Rattle.table.specs.declared.Action.{Action}
use Rattle.table.specs.declared.Action.TheVariants.{Attach, Unwrap, Validate}
use Rattle.laws.specs.Reading.{le_or_lt}
use Rattle.laws.proofs.Flags.{differ, eqb_same}
use Rattle.table.proofs.Walk.{none_some}
use Rattle.table.proofs.Namespaces.{uris_few, place_listed, listed_some}
use Rattle.std.specs.Prelude.{Option, Some, None, is_some}
use Rattle.reader.specs.Counted.{count_of}
use Rattle.compare.specs.Compare.{span_of}
use Rattle.strands.specs.Packed.{strand_in}
use Rattle.coherence.specs.Fitting.{target_fits, aims}
use Rattle.coherence.specs.Checks.{strand_fits}

-- ---- a strand
aims_some : (a : Action) (u : ℕ) → true ≡ aims a (some u)
aims_some Attach u = refl
aims_some Unwrap u = refl
aims_some Validate u = refl

-- 3 is validate too
aims_none : (n : ℕ) → ltb n 2 ≡ aims (action_of n) none
aims_none n =
    ⊎_elim
    (λ h. ⊎_elim (λ z. attach (omega arith)) (λ z. unwrap (omega arith)) (le_or_lt n 0))
    (λ h. rw (le-ltb n 2 (omega arith), ne_eqb n 0 (λ e. omega arith), ne_eqb n 1 (λ e. omega arith))) (le_or_lt n 1)
  where
    attach : n ≡ 0 → ltb n 2 ≡ aims (action_of n) none
    attach e = rw e

    unwrap : n ≡ 1 → ltb n 2 ≡ aims (action_of n) none
    unwrap e = rw e

aims_said : (n u : ℕ) (b : Bool) → (b || ltb n 2) ≡ aims (action_of n) (cond b (some u) none)
aims_said n u true = aims_some (action_of n) u
aims_said n u false = aims_none n

strand_said : (w modes units : ℕ) → (ltb (w % 32) modes && cond (eqb (w / 256 % 2) 1) (ltb (w / 512 % 65536) units) (ltb (w / 32 % 4) 2)) ≡ strand_fits modes units (strand_in w)
unfolding strand_in
strand_said w modes units = ap (λ (b : Bool). ltb (w % 32) modes && b) (by (eqb (w / 256 % 2) 1))
  where
    alone : (b : Bool) → b ≡ (b && true)
    alone true = refl
    alone false = refl

    by : (b : Bool) → cond b (ltb (w / 512 % 65536) units) (ltb (w / 32 % 4) 2)
        ≡ (target_fits units (cond b (some (w / 512 % 65536)) none) && aims (action_of (w / 32 % 4)) (cond b (some (w / 512 % 65536)) none))
    by true = alone (ltb (w / 512 % 65536) units) ∙ ap (λ (b : Bool). ltb (w / 512 % 65536) units && b) (aims_some (action_of (w / 32 % 4)) (w / 512 % 65536))
    by false = aims_none (w / 32 % 4)

module _ (w modes units : ℕ) where
  pub strand_past : modes ≤ w % 32 → ltb (w % 32) modes ≡ strand_fits modes units (strand_in w)
  strand_past h = let e : ltb (w % 32) modes ≡ false = le-ltb (w % 32) modes h in e ∙ rw e at (strand_said w modes units)

  module _ (h : w % 32 < modes) where
    pub strand_aimed : w / 256 % 2 ≡ 1 → ltb (w / 512 % 65536) units ≡ strand_fits modes units (strand_in w)
    strand_aimed e = rw (lt-ltb (w % 32) modes h, e) at (strand_said w modes units)

    pub strand_unaimed : (w / 256 % 2 ≡ 1 → ⊥) → ltb (w / 32 % 4) 2 ≡ strand_fits modes units (strand_in w)
    strand_unaimed e = rw (lt-ltb (w % 32) modes h, ne_eqb (w / 256 % 2) 1 e) at (strand_said w modes units)

-- ---- the URIs of a table
module _ (t : List ℕ) (h : Header) where
  pub listed_start : length (uris_of t h) ≤ h.namespaces
  listed_start = uris_few h.namespaces (drop (4 + 4 * h.rules) t)

  -- o: the place of the n-th, if it is listed
  module _ (n : ℕ) (z : n ≡ 0 → ⊥) (o : Option Listed) (e : o ≡ place_of t h n) (b : Bool) (g : b ≡ is_some o) where
    pub listed_here : length (uris_of t h) ≤ n → b ≡ true → n ≡ length (uris_of t h)
    listed_here m k = by o e (sym g ∙ k)
      where
        by : (p : Option Listed) → p ≡ place_of t h n → is_some p ≡ true → n ≡ length (uris_of t h)
        by (Some u) q r = omega (arith, (place_listed t h n u q).1)
        by None q r = absurd (differ (sym r))

    pub listed_less : b ≡ false → length (uris_of t h) ≤ n - 1
    listed_less k = ⊎_elim (λ l. l) (λ l. absurd (by o e (sym g ∙ k) l)) (le_or_lt (length (uris_of t h)) (n - 1))
      where
        by : (p : Option Listed) → p ≡ place_of t h n → is_some p ≡ false → n - 1 < length (uris_of t h) → ⊥
        by (Some u) q r l = differ r
        by None q r l = none_some (q ∙ sym (listed_some t h n (omega arith) (omega arith)))

-- ---- the counts of the levels
count_grows : (levels : List ℕ) (k d : ℕ) → k ≤ d → count_of levels k ≤ count_of levels d
unfolding count_of
count_grows levels k zero h = let z : k ≡ 0 = omega arith in rw z (omega arith)
count_grows levels k (suc d) h = ⊎_elim (λ l. omega (arith, count_grows levels k d l)) last (le_or_lt k d)
  where
    last : d < k → count_of levels k ≤ count_of levels d + get_or levels (3 * d + 2) 0
    last l = let e : k ≡ suc d = omega arith in rw e (omega arith)

count_more : (levels : List ℕ) (k : ℕ) → count_of levels (k + 1) ≡ count_of levels k + get_or levels (3 * k + 2) 0
unfolding count_of
count_more levels k = rw (add-one k)

pub counts_start : (levels : List ℕ) (bound : ℕ) → bound + count_of levels 0 ≡ bound
unfolding count_of
counts_start levels bound = add-zero bound

-- past the array
pub count_past : (levels : List ℕ) (k : ℕ) → length levels ≡ 192 → 64 ≤ k → 0 ≡ get_or levels (3 * k + 2) 0
count_past levels k e h = sym (get_or-eq_default levels 0 {n = 3 * k + 2} (omega arith))

module _ (levels : List ℕ) (depth bound left k : ℕ) (le : k ≤ depth) (inv : left + count_of levels k ≡ bound) where
  module _ (l : k < depth) (n : ℕ) (e : n ≡ get_or levels (3 * k + 2) 0) where
    pub counts_over : left < n → false ≡ eqb (count_of levels depth) bound
    counts_over h =
        sym (ne_eqb (count_of levels depth) bound (λ f. omega (arith, count_grows levels (k + 1) depth (omega arith), count_more levels k)))

    pub counts_on : n ≤ left → left - n + count_of levels (k + 1) ≡ bound
    counts_on h = omega (arith, count_more levels k)

  pub counts_end : depth ≤ k → eqb left 0 ≡ eqb (count_of levels depth) bound
  counts_end h =
      let d : k ≡ depth = omega arith in
      let f : count_of levels k ≡ count_of levels depth = ap (count_of levels) d in
      eqb_same left 0 (count_of levels depth) bound (λ z. omega arith) (λ z. omega arith)
