-- The levels of a session in one array, joined from its arrays and parted into them again.
--     copied                             a turn of the loop that copies
--     join_first, join_turn, join_last   the loop over levels that joins
--     each_row                           the numbers of a level
--     part_first, part_turn, part_last   the loop that parts
--     each_zero                          of an array of zeros
use Prim.Native.Nat.{ℕ, ◌+◌, ◌*◌, ◌/◌, ◌%◌, ◌≤◌, ◌<◌}
use mathlib.Core.Path.{◌≡◌, refl, sym, ap, ◌∙◌}
use mathlib.Core.List.{List}
use native.Mathlib.Nat.{zero-add, mul_comm, mul-suc}
use native.Mathlib.Numerals.{add-one}
use native.Mathlib.Omega.{arith}
use lib.ListN.{length, get_or, set, take, drop, replicate, length-drop, length-replicate, get_or-replicate, get_or-eq_default}
use lib.Seq.{take-add, take_all, length-take-le, get_or-take, get_or-drop, ext_get_or}
use mathlib.Core.Logic.{⊎_elim}
use Rattle.laws.specs.Over.{overwrite}
use Rattle.laws.specs.Reading.{le_or_lt}
use Rattle.laws.proofs.Lists.{get_d_tabulate}
use Rattle.laws.proofs.Over.{over_none, over_all, over_over, length_over}
use Rattle.reader.proofs.Pushes as pushes
use Rattle.strands.specs.Levels.{of_each, level_names, level_spaces, level_strands, level_free}
use Rattle.strands.proofs.LevelNumbers.{next_row, each_long, each_at}
use Rattle.openings.proofs.Openings.{pushed_names, pushed_spaces, pushed_strands, pushed_free}

-- ---- numbers copied
pub copied : (xs l s : List ℕ) (i f j : ℕ) → l ≡ overwrite xs i (take j (drop f s)) → f + j < length s → i + j < length xs → set l (i + j) (get_or s (f + j) 0) ≡ overwrite xs i (take (j + 1) (drop f s))
copied xs l s i f j e hs hx = ap (set l (i + j)) (sym (get_or-drop f s j 0)) ∙ pushes.copied xs l (drop f s) i j e (omega (arith, length-drop f s)) hx

-- n more behind the first i of s
laid_on : (xs s : List ℕ) (i n m : ℕ) → i ≤ length s → i + n ≡ m → overwrite (overwrite xs 0 (take i s)) i (take n (drop i s)) ≡ overwrite xs 0 (take m s)
laid_on xs s i n m h e =
    let l : 0 + length (take i s) ≡ i = zero-add (length (take i s)) ∙ length-take-le i s h in
    ap (λ (k : ℕ). overwrite (overwrite xs 0 (take i s)) k (take n (drop i s))) (sym l)
    ∙ over_over xs 0 (take i s) (take n (drop i s)) (omega arith)
    ∙ ap (overwrite xs 0) (sym (take-add i n s) ∙ ap (λ (k : ℕ). take k s) e)

-- all of s
laid_all : (xs s : List ℕ) (n : ℕ) → length xs ≡ n → length s ≡ n → overwrite xs 0 (take n s) ≡ s
laid_all xs s n l k = ap (overwrite xs 0) (take_all n s (omega arith)) ∙ over_all xs s (omega arith)

-- ---- joined
module _ (xs names spaces strands : List ℕ) where
  -- after k levels
  pub record Joining (l : List ℕ) (k : ℕ) : Type 0 where
    pub few : k ≤ 64
    pub long : length l ≡ 1536
    pub names_are : level_names l ≡ overwrite (level_names xs) 0 (take (3 * k) names)
    pub spaces_are : level_spaces l ≡ overwrite (level_spaces xs) 0 (take (4 * k) spaces)
    pub strands_are : level_strands l ≡ overwrite (level_strands xs) 0 (take (16 * k) strands)
    pub free_are : level_free l ≡ level_free xs

  pub join_first : length xs ≡ 1536 → Joining xs 0
  join_first h = record { few = omega arith; long = h; names_are = sym (over_none (level_names xs) 0); spaces_are = sym (over_none (level_spaces xs) 0); strands_are = sym (over_none (level_strands xs) 0); free_are = refl }

  module _ (n : length names ≡ 192) (s : length spaces ≡ 256) (w : length strands ≡ 1024) where
    pub join_turn : (l l₁ l₂ l₃ : List ℕ) (k : ℕ) → Joining l k → k < 64
        → l₁ ≡ overwrite l (24 * k) (take 3 (drop (3 * k) names)) → l₂ ≡ overwrite l₁ (24 * k + 3) (take 4 (drop (4 * k) spaces)) → l₃ ≡ overwrite l₂ (24 * k + 8) (take 16 (drop (16 * k) strands))
        → Joining l₃ (k + 1)
    join_turn l l₁ l₂ l₃ k j h e f g =
        let three : length (take 3 (drop (3 * k) names)) ≡ 3 = length-take-le 3 (drop (3 * k) names) (omega (arith, length-drop (3 * k) names)) in
        let four : length (take 4 (drop (4 * k) spaces)) ≡ 4 = length-take-le 4 (drop (4 * k) spaces) (omega (arith, length-drop (4 * k) spaces)) in
        let sixteen : length (take 16 (drop (16 * k) strands)) ≡ 16 = length-take-le 16 (drop (16 * k) strands) (omega (arith, length-drop (16 * k) strands)) in
        let few : length (take 16 (drop (16 * k) strands)) ≤ 16 = omega arith in
        let long₁ : length l₁ ≡ 1536 = ap length e ∙ length_over l (24 * k) _ (omega (arith, j.long)) ∙ j.long in
        let long₂ : length l₂ ≡ 1536 = ap length f ∙ length_over l₁ (24 * k + 3) _ (omega arith) ∙ long₁ in
        record {
          few = omega arith;
          long = ap length g ∙ length_over l₂ (24 * k + 8) _ (omega arith) ∙ long₂;
          names_are =
              pushed_names l l₁ l₂ l₃ k _ _ _ j.long h three four few e f g
              ∙ ap (λ (x : List ℕ). overwrite x (3 * k) (take 3 (drop (3 * k) names))) j.names_are
              ∙ laid_on (level_names xs) names (3 * k) 3 (3 * (k + 1)) (omega arith) (omega arith);
          spaces_are =
              pushed_spaces l l₁ l₂ l₃ k _ _ _ j.long h three four few e f g
              ∙ ap (λ (x : List ℕ). overwrite x (4 * k) (take 4 (drop (4 * k) spaces))) j.spaces_are
              ∙ laid_on (level_spaces xs) spaces (4 * k) 4 (4 * (k + 1)) (omega arith) (omega arith);
          strands_are =
              pushed_strands l l₁ l₂ l₃ k _ _ _ j.long h three four few e f g
              ∙ ap (λ (x : List ℕ). overwrite x (16 * k) (take 16 (drop (16 * k) strands))) j.strands_are
              ∙ laid_on (level_strands xs) strands (16 * k) 16 (16 * (k + 1)) (omega arith) (omega arith);
          free_are = pushed_free l l₁ l₂ l₃ k _ _ _ j.long h three four few e f g ∙ j.free_are;
        }

    pub join_last : (l : List ℕ) (k : ℕ) → Joining l k → 64 ≤ k → (level_names l ≡ names) × (level_spaces l ≡ spaces) × (level_strands l ≡ strands) × (level_free l ≡ level_free xs)
    join_last l k j h =
        let e : k ≡ 64 = omega (arith, j.few) in (
          j.names_are ∙ ap (λ (x : ℕ). overwrite (level_names xs) 0 (take (3 * x) names)) e ∙ laid_all (level_names xs) names 192 (each_long 3 0 xs) n,
          j.spaces_are ∙ ap (λ (x : ℕ). overwrite (level_spaces xs) 0 (take (4 * x) spaces)) e ∙ laid_all (level_spaces xs) spaces 256 (each_long 4 3 xs) s,
          j.strands_are ∙ ap (λ (x : ℕ). overwrite (level_strands xs) 0 (take (16 * x) strands)) e ∙ laid_all (level_strands xs) strands 1024 (each_long 16 8 xs) w,
          j.free_are,
        )

-- ---- parted
module _ (l xs : List ℕ) (wide from : ℕ) where
  -- after k levels
  pub record Parting (ys : List ℕ) (at k : ℕ) : Type 0 where
    pub at_is : at ≡ wide * k
    pub few : k ≤ 64
    pub same_length : length ys ≡ 64 * wide
    pub are : ys ≡ overwrite xs 0 (take at (of_each wide from l))

pub part_fits : (wide at k : ℕ) → at ≡ wide * k → k < 64 → at + wide ≤ 64 * wide
part_fits wide at k e h = omega (arith, next_row wide k 64 h, mul_comm wide 64)

-- a level's numbers
module _ (l : List ℕ) (wide from : ℕ) (long : length l ≡ 1536) (inside : from + wide ≤ 24) where
  pub each_row : (k : ℕ) → k < 64 → take wide (drop (24 * k + from) l) ≡ take wide (drop (wide * k) (of_each wide from l))
  each_row k h = ext_get_or 0 (take wide (drop (24 * k + from) l)) (take wide (drop (wide * k) (of_each wide from l))) (a ∙ sym b) at
    where
      a : length (take wide (drop (24 * k + from) l)) ≡ wide
      a = length-take-le wide (drop (24 * k + from) l) (omega (arith, length-drop (24 * k + from) l))

      b : length (take wide (drop (wide * k) (of_each wide from l))) ≡ wide
      b = length-take-le wide (drop (wide * k) (of_each wide from l)) (omega (arith, length-drop (wide * k) (of_each wide from l), each_long wide from l, part_fits wide (wide * k) k (omega arith) h))

      at : (j : ℕ) → j < length (take wide (drop (24 * k + from) l)) → get_or (take wide (drop (24 * k + from) l)) j 0 ≡ get_or (take wide (drop (wide * k) (of_each wide from l))) j 0
      at j g =
          let c : j < wide = omega (arith, a) in
          get_or-take wide (drop (24 * k + from) l) j 0 c
          ∙ get_or-drop (24 * k + from) l j 0
          ∙ sym (get_or-take wide (drop (wide * k) (of_each wide from l)) j 0 c ∙ get_or-drop (wide * k) (of_each wide from l) j 0 ∙ each_at wide from l k j h c)

module _ (l xs : List ℕ) (wide from : ℕ) (long : length l ≡ 1536) (inside : from + wide ≤ 24) (room : length xs ≡ 64 * wide) where
  pub part_first : Parting l xs wide from xs 0 0
  part_first = record { at_is = omega (arith, mul_comm wide 0); few = omega arith; same_length = room; are = sym (over_none xs 0) }

  pub part_turn : (ys zs : List ℕ) (at k : ℕ) → Parting l xs wide from ys at k → k < 64 → zs ≡ overwrite ys at (take wide (drop (24 * k + from) l)) → Parting l xs wide from zs (at + wide) (k + 1)
  part_turn ys zs at k p h e =
      let t : length (take wide (drop (24 * k + from) l)) ≡ wide = length-take-le wide (drop (24 * k + from) l) (omega (arith, length-drop (24 * k + from) l)) in
      let fits = part_fits wide at k p.at_is h in
      record {
        at_is = omega (arith, p.at_is, mul-suc wide k, ap (λ (x : ℕ). wide * x) (add-one k));
        few = omega arith;
        same_length = ap length e ∙ length_over ys at _ (omega (arith, p.same_length)) ∙ p.same_length;
        are =
            e
            ∙ ap (λ (x : List ℕ). overwrite x at (take wide (drop (24 * k + from) l))) p.are
            ∙ ap (overwrite (overwrite xs 0 (take at (of_each wide from l))) at) (each_row l wide from long inside k h ∙ ap (λ (x : ℕ). take wide (drop x (of_each wide from l))) (sym p.at_is))
            ∙ laid_on xs (of_each wide from l) at wide (at + wide) (omega (arith, each_long wide from l)) (omega arith);
      }

  pub part_last : (ys : List ℕ) (at k : ℕ) → Parting l xs wide from ys at k → 64 ≤ k → ys ≡ of_each wide from l
  part_last ys at k p h =
      let e : k ≡ 64 = omega (arith, p.few) in
      let n : at ≡ 64 * wide = p.at_is ∙ ap (λ (x : ℕ). wide * x) e ∙ mul_comm wide 64 in
      p.are ∙ ap (λ (x : ℕ). overwrite xs 0 (take x (of_each wide from l))) n ∙ laid_all xs (of_each wide from l) (64 * wide) room (each_long wide from l)

-- ---- zeros
zeros : (n i : ℕ) → ◌≡◌ {A = ℕ} (get_or (replicate n 0) i 0) 0
zeros n i =
    ⊎_elim (λ h. get_or-eq_default (replicate n 0) 0 {n = i} (omega (arith, length-replicate {A = ℕ} n 0)))
    (λ h. get_or-replicate n i 0 0 h)
    (le_or_lt n i)

pub each_zero : (wide from n : ℕ) → of_each wide from (replicate n 0) ≡ replicate (64 * wide) 0
unfolding of_each
each_zero wide from n = ext_get_or 0 (of_each wide from (replicate n 0)) (replicate (64 * wide) 0) (each_long wide from (replicate n 0) ∙ sym (length-replicate (64 * wide) 0)) at
  where
    at : (i : ℕ) → i < length (of_each wide from (replicate n 0)) → get_or (of_each wide from (replicate n 0)) i 0 ≡ get_or (replicate (64 * wide) 0) i 0
    at i h =
        get_d_tabulate (λ (j : ℕ). get_or (replicate n 0) (24 * (j / wide) + from + j % wide) 0) 0 (64 * wide) i 0 (omega (arith, each_long wide from (replicate n 0)))
        ∙ zeros n (24 * ((0 + i) / wide) + from + (0 + i) % wide)
        ∙ sym (zeros (64 * wide) i)
