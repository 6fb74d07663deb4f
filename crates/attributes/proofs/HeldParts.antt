-- An array of attributes, and behind them the numbers of their sections: its two parts.
--     same_given, same_sorted          an attribute of the array is one of its first part
--     over_first, over_behind          numbers laid among the attributes, seen in each part
--     laid_first                       attributes laid from the first place on
use Prim.Native.Nat.{ℕ, ◌+◌, ◌-◌, ◌*◌, ◌≤◌, ◌<◌}
use mathlib.Core.Path.{◌≡◌, sym, ap, ◌∙◌}
use mathlib.Core.List.{List, [], ◌++◌, append_assoc}
use mathlib.Core.Logic.{⊎_elim}
use native.Mathlib.Omega.{arith}
use lib.ListN.{length, get_or, take, drop, take-append-drop, drop_of_length-le}
use lib.Seq.{get_or-take, length-take-le, take-add, take_all, take-append-le, take-append-add, drop-append-le, take_at, drop_at}
use Rattle.laws.specs.Gather.{gather}
use Rattle.laws.specs.Reading.{le_or_lt}
use Rattle.laws.specs.Over.{overwrite}
use Rattle.laws.proofs.Over.{length_over}
use Rattle.attributes.specs.Attributes.{Given, given_numbers, laid_givens, given_in, sorted_in, attributes_in, sections_in}
use Rattle.attributes.proofs.Giving.{eight_long}

same_at : (l : List ℕ) (i : ℕ) → i < 128 → get_or (attributes_in l) i 0 ≡ get_or l i 0
same_at l i h = get_or-take 128 l i 0 h

pub same_given : (l : List ℕ) (k : ℕ) → k < 16 → given_in (attributes_in l) k ≡ given_in l k
unfolding given_in
same_given l k h =
    rw (
      same_at l (8 * k) (omega arith),
      same_at l (8 * k + 1) (omega arith),
      same_at l (8 * k + 2) (omega arith),
      same_at l (8 * k + 3) (omega arith),
      same_at l (8 * k + 4) (omega arith),
      same_at l (8 * k + 5) (omega arith),
      same_at l (8 * k + 6) (omega arith),
      same_at l (8 * k + 7) (omega arith),
    )

pub same_sorted : (l sections : List ℕ) (k : ℕ) → k < 16 → sorted_in l sections k ≡ sorted_in (attributes_in l) sections k
unfolding sorted_in
same_sorted l sections k h = ap (λ (g : Given). record { part = g.part; value = g.value; class = g.class; uri = g.uri; section = get_or sections k 0 }) (sym (same_given l k h))

-- numbers laid among the attributes
module _ (l : List ℕ) (long : 128 ≤ length l) (p : ℕ) (ys : List ℕ) (h : p + length ys ≤ 128) where
  size : length (attributes_in l) ≡ 128
  size = length-take-le 128 l long

  parts : overwrite l p ys ≡ overwrite (attributes_in l) p ys ++ sections_in l
  unfolding overwrite
  parts =
      ap (λ (x : List ℕ). take p x ++ ys ++ drop (p + length ys) x) (sym (take-append-drop 128 l))
      ∙ ap (λ (x : List ℕ). x ++ ys ++ drop (p + length ys) (attributes_in l ++ sections_in l)) (take-append-le p (attributes_in l) (sections_in l) (omega (arith, size)))
      ∙ ap (λ (x : List ℕ). take p (attributes_in l) ++ ys ++ x) (drop-append-le (p + length ys) (attributes_in l) (sections_in l) (omega (arith, size)))
      ∙ sym (append_assoc (take p (attributes_in l) ++ ys) (drop (p + length ys) (attributes_in l)) (sections_in l))

  first_size : length (overwrite (attributes_in l) p ys) ≡ 128
  first_size = length_over (attributes_in l) p ys (omega (arith, size)) ∙ size

  pub over_first : attributes_in (overwrite l p ys) ≡ overwrite (attributes_in l) p ys
  over_first = ap (take 128) parts ∙ take_at (overwrite (attributes_in l) p ys) (sections_in l) 128 first_size

  pub over_behind : sections_in (overwrite l p ys) ≡ sections_in l
  over_behind = ap (drop 128) parts ∙ drop_at (overwrite (attributes_in l) p ys) (sections_in l) 128 first_size

-- a part, cut before or behind
cut_behind : (b a : ℕ) (l : List ℕ) → take b (drop a l) ≡ drop a (take (a + b) l)
cut_behind b a l = ⊎_elim inside outside (le_or_lt a (length l))
  where
    inside : a ≤ length l → take b (drop a l) ≡ drop a (take (a + b) l)
    inside h = sym (ap (drop a) (take-add a b l) ∙ drop_at (take a l) (take b (drop a l)) a (length-take-le a l h))

    outside : length l < a → take b (drop a l) ≡ drop a (take (a + b) l)
    outside h =
        ap (take b) (drop_of_length-le l {i = a} (omega arith))
        ∙ take_all b [] (omega arith)
        ∙ sym (ap (drop a) (take_all (a + b) l (omega arith)) ∙ drop_of_length-le l {i = a} (omega arith))

-- attributes laid from the first place on
pub laid_first : (gs : List Given) (l : List ℕ) → length gs ≤ 16 → attributes_in (laid_givens gs l) ≡ laid_givens gs (attributes_in l)
unfolding laid_givens
laid_first gs l h =
    let n : length (gather given_numbers gs) ≡ 8 * length gs = eight_long gs in
    let e : 128 ≡ 8 * length gs + (128 - 8 * length gs) = omega arith in
    let f : 128 ≡ length (gather given_numbers gs) + (128 - 8 * length gs) = omega arith in
    ap (λ (k : ℕ). take k (gather given_numbers gs ++ drop (8 * length gs) l)) f
    ∙ take-append-add (gather given_numbers gs) (drop (8 * length gs) l) (128 - 8 * length gs)
    ∙ ap (λ (x : List ℕ). gather given_numbers gs ++ x) (cut_behind (128 - 8 * length gs) (8 * length gs) l ∙ ap (λ (k : ℕ). drop (8 * length gs) (take k l)) (sym e))
