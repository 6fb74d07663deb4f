-- The units that open at an element, numbered strand by strand.
--     here_back               a packed strand says whether its unit opens here
--     Numbering, numbering-*  the loop that numbers: its start, its turns and its end
use Prim.Native.Nat.{ℕ, suc, ◌+◌, ◌*◌, ◌/◌, ◌%◌, ◌^◌, ◌≤◌, ◌<◌}
use mathlib.Core.Path.{◌≡◌, refl, sym, ap, ◌∙◌}
use mathlib.Core.List.{List, [], ◌∷◌, ◌++◌, map, append-nil, map-append}
use mathlib.Core.Bool.{Bool, true, false, cond}
use mathlib.Core.Option.{Option, none, some}
use native.Mathlib.Nat.{add-zero}
use native.Mathlib.Numerals.{add-one}
use native.Mathlib.Omega.{arith}
use lib.Dec.{eqb}
use lib.ListN.{length, get_or, set, take, drop, drop_of_length-le, length-append, length-map, length-set}
use Rattle.std.proofs.lemmas.List.{length-take}
use lib.Seq.{slice, slice_empty, append_snoc, set-get_or, drop-set-lt, get_or-drop, drop-drop}
use Rattle.laws.specs.Gather.{total}
use Rattle.laws.specs.Members.{All}
use Rattle.laws.specs.Over.{overwrite}
use Rattle.laws.specs.Reading.{slice_here}
use Rattle.laws.proofs.Over.{over_none, over_set}
use Rattle.table.specs.declared.Action.{Action}
use Rattle.table.specs.declared.Action.TheVariants.{Attach, Unwrap, Validate}
use Rattle.model.specs.Stream.{Entry, allot, HeldStrand}
use Rattle.strands.specs.Packed.{strand_in, packed, action_number, target_number, here_number}
use Rattle.strands.specs.Entries.{strand_word, aimed_at, here_count, Unnumbered}

-- ---- the bit that says that a unit opens here
action_few : (a : Action) → action_number a < 3
action_few Attach = omega arith
action_few Unwrap = omega arith
action_few Validate = omega arith

here_bit : (mode action : ℕ) (here : Bool) (target : Option ℕ) → mode < 32 → action < 3 → eqb ((mode + action * 2 ^ 5 + here_number here + target_number target) / 2 ^ 7 % 2) 1 ≡ here
here_bit mode action false none m a = let e : (mode + action * 2 ^ 5 + 0 + 0) / 2 ^ 7 % 2 ≡ 0 = omega arith in ap (λ (k : ℕ). eqb k 1) e
here_bit mode action true none m a = let e : (mode + action * 2 ^ 5 + 2 ^ 7 + 0) / 2 ^ 7 % 2 ≡ 1 = omega arith in ap (λ (k : ℕ). eqb k 1) e
here_bit mode action false (some u) m a = let e : (mode + action * 2 ^ 5 + 0 + (2 ^ 8 + u * 2 ^ 9)) / 2 ^ 7 % 2 ≡ 0 = omega arith in ap (λ (k : ℕ). eqb k 1) e
here_bit mode action true (some u) m a = let e : (mode + action * 2 ^ 5 + 2 ^ 7 + (2 ^ 8 + u * 2 ^ 9)) / 2 ^ 7 % 2 ≡ 1 = omega arith in ap (λ (k : ℕ). eqb k 1) e

pub here_back : (r : HeldStrand ℕ) → r.mode < 32 → (strand_in (packed r)).here ≡ r.here
unfolding strand_in packed
here_back r m = here_bit r.mode (action_number r.action) r.here r.target m (action_few r.action)

-- ---- the numbers
pub allot_yes : (u : ℕ) (e : Entry) (es : List Entry) → e.strand.here ≡ true → allot u (e ∷ es) ≡ record { strand = aimed_at e.strand u; schema = e.schema } ∷ allot (u + 1) es
allot_yes u e es h = rw (h, add-one u)

pub allot_no : (u : ℕ) (e : Entry) (es : List Entry) → e.strand.here ≡ false → allot u (e ∷ es) ≡ e ∷ allot u es
allot_no u e es h =
    ap
    (λ (b : Bool). elim b [
      | false ↦ e ∷ allot u es
      | true ↦ record { strand = record { mode = e.strand.mode; action = e.strand.action; target = some u; here = true }; schema = e.schema } ∷ allot (suc u) es
    ])
    h

-- of the strands es some are done, up to the j-th; the rest is as it was
pub record Numbered (all₀ : List ℕ) (n unit : ℕ) (es : List Entry) (all : List ℕ) (u j : ℕ) : Type 0 where
  pub done : List Entry
  pub rest : List Entry
  pub split : done ++ allot u rest ≡ allot unit es
  pub long : length done ≡ j
  pub rest_are : slice j n all₀ ≡ map strand_word rest
  pub each : All Unnumbered rest
  pub all_are : all ≡ overwrite all₀ 0 (map strand_word done)

pub record Numbering (all₀ : List ℕ) (n unit : ℕ) (all : List ℕ) (u j : ℕ) : Type 0 where
  pub size₀ : length all₀ ≡ n
  pub size : length all ≡ n
  pub few : n ≤ 16
  pub inside : j ≤ n
  pub bound : u + here_count (slice j n all₀) ≤ 65536
  pub behind : drop j all ≡ drop j all₀
  pub numbered : (es : List Entry) → length es ≡ n → take n all₀ ≡ map strand_word es → All Unnumbered es → Numbered all₀ n unit es all u j

pub numbering_start : (all₀ : List ℕ) (n unit : ℕ) → length all₀ ≡ n → n ≤ 16 → unit + here_count (take n all₀) ≤ 65536 → Numbering all₀ n unit all₀ unit 0
numbering_start all₀ n unit s f b =
    record {
      size₀ = s;
      size = s;
      few = f;
      inside = omega arith;
      bound = b;
      behind = refl;
      numbered = λ es l e a. record { done = []; rest = es; split = refl; long = refl; rest_are = e; each = a; all_are = sym (over_none all₀ 0) };
    }

module _ (all₀ : List ℕ) (n unit : ℕ) (all : List ℕ) (u j : ℕ) (y : Numbering all₀ n unit all u j) where
  module _ (h : j < n) where
    -- the strand at which the loop stands
    same_here : get_or all j 0 ≡ get_or all₀ j 0
    same_here =
        ap (λ (i : ℕ). get_or all i 0) (sym (add-zero j))
        ∙ sym (get_or-drop j all 0 0)
        ∙ ap (λ (l : List ℕ). get_or l 0 0) y.behind
        ∙ get_or-drop j all₀ 0 0
        ∙ ap (λ (i : ℕ). get_or all₀ i 0) (add-zero j)

    here : slice j n all₀ ≡ get_or all₀ j 0 ∷ slice (j + 1) n all₀
    here = slice_here j n all₀ h (omega (arith, y.size₀, y.few))

    module _ (w : ℕ) (b : Bool) (ew : w ≡ get_or all j 0) (eb : b ≡ (strand_in w).here) where
      counts : here_count (slice j n all₀) ≡ cond b 1 0 + here_count (slice (j + 1) n all₀)
      unfolding total
      counts =
          ap here_count here
          ∙ ap (λ (t : Bool). cond t 1 0 + here_count (slice (j + 1) n all₀)) (sym (eb ∙ ap (λ (x : ℕ). (strand_in x).here) (ew ∙ same_here)))

      next_behind : (l : List ℕ) → drop j l ≡ drop j all₀ → drop (j + 1) l ≡ drop (j + 1) all₀
      next_behind l e = sym (drop-drop 1 j l) ∙ ap (drop 1) e ∙ drop-drop 1 j all₀

      -- the array with one more done
      laid : (done : List Entry) → length done ≡ j → all ≡ overwrite all₀ 0 (map strand_word done) → (v : ℕ) (e : Entry) → v ≡ strand_word e
          → set all j v ≡ overwrite all₀ 0 (map strand_word (done ++ (e ∷ [])))
      laid done l a v e q =
          let m : j ≡ 0 + length (map strand_word done) = omega (arith, length-map done strand_word) in
          ap (λ (x : List ℕ). set x j v) a
          ∙ ap (λ (i : ℕ). set (overwrite all₀ 0 (map strand_word done)) i v) m
          ∙ over_set all₀ 0 (map strand_word done) v (omega (arith, y.size₀, y.few))
          ∙ ap (λ (x : ℕ). overwrite all₀ 0 (map strand_word done ++ (x ∷ []))) q
          ∙ ap (overwrite all₀ 0) (sym (map-append strand_word done (e ∷ [])))

      module _ (es : List Entry) where
        -- it stays as it is
        as_it_was : b ≡ false → Numbered all₀ n unit es all u j → Numbered all₀ n unit es all u (j + 1)
        as_it_was t z = by z.rest z.split z.rest_are z.each
          where
            by : (rest : List Entry) → z.done ++ allot u rest ≡ allot unit es → slice j n all₀ ≡ map strand_word rest → All Unnumbered rest → Numbered all₀ n unit es all u (j + 1)
            by [] s r a = absurd (let q : get_or all₀ j 0 ∷ slice (j + 1) n all₀ ≡ [] = sym here ∙ r in omega (arith, ap length q))
            by (e ∷ rest) s r a =
                let q : get_or all₀ j 0 ∷ slice (j + 1) n all₀ ≡ strand_word e ∷ map strand_word rest = sym here ∙ r in
                let first : get_or all₀ j 0 ≡ strand_word e = cc in
                let others : slice (j + 1) n all₀ ≡ map strand_word rest = cc in
                let word : get_or all j 0 ≡ strand_word e = same_here ∙ first in
                let no : e.strand.here ≡ false = sym (here_back e.strand a.0.0) ∙ ap (λ (x : ℕ). (strand_in x).here) (sym (ew ∙ word)) ∙ sym eb ∙ t in
                record {
                  done = z.done ++ (e ∷ []);
                  rest = rest;
                  split = append_snoc z.done e (allot u rest) ∙ ap (λ (l : List Entry). z.done ++ l) (sym (allot_no u e rest no)) ∙ s;
                  long = omega (arith, length-append z.done (e ∷ []), z.long);
                  rest_are = others;
                  each = a.1;
                  all_are = sym (set-get_or all j 0) ∙ laid z.done z.long z.all_are (get_or all j 0) e word;
                }

        -- it gets a number
        with_number : b ≡ true → (v : ℕ) → ((r : HeldStrand ℕ) → w ≡ packed r → r.target ≡ none → r.mode < 32 → v ≡ packed (aimed_at r u)) → Numbered all₀ n unit es all u j
            → Numbered all₀ n unit es (set all j v) (u + 1) (j + 1)
        with_number t v f z = by z.rest z.split z.rest_are z.each
          where
            by : (rest : List Entry) → z.done ++ allot u rest ≡ allot unit es → slice j n all₀ ≡ map strand_word rest → All Unnumbered rest → Numbered all₀ n unit es (set all j v) (u + 1) (j + 1)
            by [] s r a = absurd (let q : get_or all₀ j 0 ∷ slice (j + 1) n all₀ ≡ [] = sym here ∙ r in omega (arith, ap length q))
            by (e ∷ rest) s r a =
                let q : get_or all₀ j 0 ∷ slice (j + 1) n all₀ ≡ strand_word e ∷ map strand_word rest = sym here ∙ r in
                let first : get_or all₀ j 0 ≡ strand_word e = cc in
                let others : slice (j + 1) n all₀ ≡ map strand_word rest = cc in
                let word : get_or all j 0 ≡ strand_word e = same_here ∙ first in
                let yes : e.strand.here ≡ true = sym (here_back e.strand a.0.0) ∙ ap (λ (x : ℕ). (strand_in x).here) (sym (ew ∙ word)) ∙ sym eb ∙ t in
                let aimed : Entry = record { strand = aimed_at e.strand u; schema = e.schema } in
                record {
                  done = z.done ++ (aimed ∷ []);
                  rest = rest;
                  split = append_snoc z.done aimed (allot (u + 1) rest) ∙ ap (λ (l : List Entry). z.done ++ l) (sym (allot_yes u e rest yes)) ∙ s;
                  long = omega (arith, length-append z.done (aimed ∷ []), z.long);
                  rest_are = others;
                  each = a.1;
                  all_are = laid z.done z.long z.all_are v aimed (f e.strand (ew ∙ word) (a.0.1 yes) a.0.0);
                }

      pub numbering_room : b ≡ true → u < 65536
      numbering_room t = omega (arith, y.bound, counts ∙ ap (λ (z : Bool). cond z 1 0 + here_count (slice (j + 1) n all₀)) t)

      pub numbering_no : b ≡ false → Numbering all₀ n unit all u (j + 1)
      numbering_no t =
          record {
            size₀ = y.size₀;
            size = y.size;
            few = y.few;
            inside = omega arith;
            bound = omega (arith, y.bound, counts ∙ ap (λ (z : Bool). cond z 1 0 + here_count (slice (j + 1) n all₀)) t);
            behind = next_behind all y.behind;
            numbered = λ es l e a. as_it_was es t (y.numbered es l e a);
          }

      pub numbering_yes : b ≡ true → (v : ℕ) → ((r : HeldStrand ℕ) → w ≡ packed r → r.target ≡ none → r.mode < 32 → v ≡ packed (aimed_at r u)) → Numbering all₀ n unit (set all j v) (u + 1) (j + 1)
      numbering_yes t v f =
          record {
            size₀ = y.size₀;
            size = length-set all j v ∙ y.size;
            few = y.few;
            inside = omega arith;
            bound = omega (arith, y.bound, counts ∙ ap (λ (z : Bool). cond z 1 0 + here_count (slice (j + 1) n all₀)) t);
            behind = drop-set-lt (j + 1) all j v (omega arith) ∙ next_behind all y.behind;
            numbered = λ es l e a. with_number es t v f (y.numbered es l e a);
          }

  pub numbering_end : n ≤ j → (es : List Entry) → length es ≡ n → take n all₀ ≡ map strand_word es → All Unnumbered es → all ≡ overwrite all₀ 0 (map strand_word (allot unit es))
  numbering_end h es l e a = by (y.numbered es l e a)
    where
      none_left : slice j n all₀ ≡ []
      none_left = let q : j ≡ n = omega (arith, y.inside) in ap (λ (i : ℕ). slice i n all₀) q ∙ slice_empty n all₀

      empty : (rest : List Entry) → map strand_word rest ≡ [] → rest ≡ []
      empty [] q = refl
      empty (x ∷ rest) q = absurd (omega (arith, ap length q))

      by : Numbered all₀ n unit es all u j → all ≡ overwrite all₀ 0 (map strand_word (allot unit es))
      by z =
          let r : z.rest ≡ [] = empty z.rest (sym z.rest_are ∙ none_left) in
          let d : z.done ≡ allot unit es = sym (append-nil z.done) ∙ ap (λ (x : List Entry). z.done ++ allot u x) (sym r) ∙ z.split in
          z.all_are ∙ ap (λ (x : List Entry). overwrite all₀ 0 (map strand_word x)) d

-- where the ways of a turn meet
pub numbering_same : (all₀ : List ℕ) (n unit : ℕ) (all all' : List ℕ) (u u' j : ℕ) → all' ≡ all → u' ≡ u → Numbering all₀ n unit all u j
    → (u' ≤ 65536) × (length all' ≡ n) × Numbering all₀ n unit all' u' j
numbering_same all₀ n unit all all' u u' j ea eu y = rw (ea, eu) (omega (arith, y.bound), y.size, y)

-- the strands numbered, and those behind them as they were
pub part_numbered : (words part xs : List ℕ) (n : ℕ) → length xs ≡ n → n ≤ length words → part ≡ overwrite (take n words) 0 xs → part ++ drop n words ≡ overwrite words 0 xs
unfolding overwrite
part_numbered words part xs n l h e =
    let m : 0 + length xs ≡ n = omega arith in
    let none : drop (0 + length xs) (take n words) ≡ [] = drop_of_length-le (take n words) {i = 0 + length xs} (omega (arith, length-take n words)) in
    let same : part ≡ xs = e ∙ ap (λ (z : List ℕ). xs ++ z) none ∙ append-nil xs in
    ap (λ (z : List ℕ). z ++ drop n words) same ∙ ap (λ (i : ℕ). xs ++ drop i words) (sym m)
