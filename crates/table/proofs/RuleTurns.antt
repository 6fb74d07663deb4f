-- The rules of a table one by one.
use Prim.Native.Nat.{ℕ, ◌+◌, ◌-◌, ◌≤◌, ◌<◌}
use mathlib.Core.Path.{◌≡◌, sym, ap, ◌∙◌}
use mathlib.Core.Bool.{Bool, true, false, not, ◌||◌, or-false}
use native.Mathlib.Nat.{zero-add, sub-zero}
use native.Mathlib.Omega.{arith}
use Rattle.laws.specs.Lists.{any, all, any_pair, tabulate}
use Rattle.laws.specs.Tests.{untold, untold'}
use mathlib.Core.List.{List, map}
use lib.ListN.{length, length-drop, get_or, take, drop, get_or-map}
use lib.Seq.{take_all, ext_get_or, length-take-le, get_or-take}
use Rattle.laws.specs.Reading.{drop_here, drop_out}
use Rattle.laws.proofs.Lists.{length_tabulate, get_d_tabulate, get_d_tabulate_out, all_done, all_not, all_on}
use Rattle.table.specs.Table.{word_at, words_of, fields_of, rule_of}
use Rattle.table.specs.Judge.{fields_fit, word_fits, rules_clash}
use Rattle.table.specs.declared.Fields.{Fields}
use Rattle.table.specs.declared.Header.{Header}
use Rattle.table.specs.declared.Rule.{Rule}

module _ (t : List ℕ) (h : Header) (i : ℕ) (r : Rule) where
  pub rule_inside : i < h.rules → (w : ℕ) → w ≡ word_at t i → r ≡ rule_of w → r ≡ get_or (map rule_of (words_of t h)) i (rule_of 0)
  rule_inside l w e f =
      f ∙ ap rule_of (e ∙ ap (word_at t) (sym (zero-add i)) ∙ sym (get_d_tabulate (word_at t) 0 h.rules i 0 l))
      ∙ sym (get_or-map rule_of (words_of t h) i 0)

  pub rule_outside : h.rules ≤ i → r ≡ rule_of 0 → r ≡ get_or (map rule_of (words_of t h)) i (rule_of 0)
  rule_outside l f = f ∙ ap rule_of (sym (get_d_tabulate_out (word_at t) 0 h.rules i 0 l)) ∙ sym (get_or-map rule_of (words_of t h) i 0)

-- the loops that go through the rules: v is the answer
module _ (t : List ℕ) (h : Header) (i : ℕ) (v : Bool) where
  module _ (inv : all (word_fits h) (tabulate (word_at t) i (h.rules - i)) ≡ v) where
    pub fit_done : h.rules ≤ i → true ≡ v
    fit_done = all_done (word_at t) i h.rules v (word_fits h) inv

    module _ (l : i < h.rules) (w : ℕ) (e : w ≡ word_at t i) (f : Fields) (d : f ≡ fields_of w) (b : Bool) (g : b ≡ fields_fit h f) where
      fits : b ≡ word_fits h (word_at t i)
      fits = g ∙ ap (fields_fit h) (d ∙ ap fields_of e)

      pub fit_not : not b ≡ true → false ≡ v
      fit_not k = all_not (word_at t) i h.rules v (word_fits h) inv l (untold b (word_fits h (word_at t i)) fits k)

      pub fit_on : not b ≡ false → all (word_fits h) (tabulate (word_at t) (i + 1) (h.rules - (i + 1))) ≡ v
      fit_on k = all_on (word_at t) i h.rules v (word_fits h) inv l (untold' b (word_fits h (word_at t i)) fits k)

-- the loops that go through words, i of them behind us
module _ (l : List ℕ) (i : ℕ) (v : Bool) where
  module _ (w : ℕ) (a : Bool) (inv : (a || any (rules_clash w) (drop i l)) ≡ v) where
    pub with_done : length l ≤ i → a ≡ v
    unfolding any
    with_done h = sym (or-false a) ∙ ap (λ (k : List ℕ). a || any (rules_clash w) k) (sym (drop_out l i h)) ∙ inv

    pub with_on : i < length l → (b : Bool) → b ≡ rules_clash w (get_or l i 0) → ((a || b) || any (rules_clash w) (drop (i + 1) l)) ≡ v
    unfolding any
    with_on h b e = by a (ap (λ (x : Bool). a || (x || any (rules_clash w) (drop (i + 1) l))) e ∙ ap (λ (k : List ℕ). a || any (rules_clash w) k) (sym (drop_here l i h)) ∙ inv)
      where
        by : (c : Bool) → (c || (b || any (rules_clash w) (drop (i + 1) l))) ≡ v → ((c || b) || any (rules_clash w) (drop (i + 1) l)) ≡ v
        by true q = q
        by false q = q

  module _ (inv : any_pair rules_clash (drop i l) ≡ v) where
    pub pairs_done : length l ≤ i → false ≡ v
    unfolding any_pair
    pairs_done h = simp (← inv, drop_out l i h)

    -- the slice behind it
    module _ (h : i < length l) (b : Bool) (e' : b ≡ any (rules_clash (get_or l i 0)) (take (length l - (i + 1)) (drop (i + 1) l))) where
      e : b ≡ any (rules_clash (get_or l i 0)) (drop (i + 1) l)
      e = e' ∙ ap (any (rules_clash (get_or l i 0))) (take_all (length l - (i + 1)) (drop (i + 1) l) (omega (arith, length-drop (i + 1) l)))

      pub pairs_found : b ≡ true → true ≡ v
      unfolding any_pair
      pairs_found k = simp (← inv, drop_here l i h, ← e, k)

      pub pairs_on : b ≡ false → any_pair rules_clash (drop (i + 1) l) ≡ v
      unfolding any_pair
      pairs_on k = simp (← inv, drop_here l i h, ← e, k)

-- where they begin
module _ (t : List ℕ) (h : Header) where
  pub fit_start : all (word_fits h) (tabulate (word_at t) 0 (h.rules - 0)) ≡ all (word_fits h) (words_of t h)
  fit_start = simp sub-zero

-- the words laid down in an array
pub words_taken : (t l : List ℕ) (h : Header) → h.rules ≤ length l → ((k : ℕ) → k < h.rules → get_or l k 0 ≡ word_at t k) → take h.rules l ≡ words_of t h
words_taken t l h m e = ext_get_or 0 _ _ (length-take-le h.rules l m ∙ sym (length_tabulate (word_at t) 0 h.rules)) here
  where
    here : (k : ℕ) → k < length (take h.rules l) → get_or (take h.rules l) k 0 ≡ get_or (words_of t h) k 0
    here k q =
        let n : k < h.rules = omega (arith, length-take-le h.rules l m) in
        get_or-take h.rules l k 0 n ∙ e k n ∙ ap (word_at t) (sym (zero-add k)) ∙ sym (get_d_tabulate (word_at t) 0 h.rules k 0 n)
