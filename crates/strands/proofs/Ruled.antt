-- The rules that the index chooses, one after the other.
--     chosen_within                      where they stand
--     kept-*, total-*                    what the loops of rules.rt have at a turn and at the end
--     rule_here, rule_other, rule_none   a call of the iterator
use Prim.Native.Nat.{ℕ, ◌+◌, ◌-◌, ◌≤◌, ◌<◌}
use mathlib.Core.Path.{◌≡◌, refl, sym, ap, subst, ◌∙◌}
use mathlib.Core.List.{List, [], ◌∷◌, map}
use mathlib.Core.Bool.{Bool, true, false, cond, ◌||◌}
use native.Mathlib.Nat.{add_assoc}
use native.Mathlib.Omega.{arith}
use lib.ListN.{length, take, drop, length-map}
use lib.Dec.{eqb}
use lib.Seq.{slice}
use Rattle.std.proofs.lemmas.List.{drop-take, length-drop, length-take}
use borrow.Author.Tests.{eq-eqb, ne_eqb}
use Rattle.laws.specs.Lists.{any, keep}
use Rattle.laws.specs.Gather.{total}
use Rattle.table.specs.Table.{rule_of, or_else, standard, fallback}
use Rattle.table.specs.Index.{key_of, bucket, first_of, chosen_of}
use Rattle.table.specs.declared.Rule.{Rule}
use Rattle.table.specs.declared.Chosen.{Chosen}
use Rattle.table.proofs.Indexed.{chosen_says, next_few}
use Rattle.model.specs.Groups.{is_attach}
use Rattle.strands.proofs.ListLaws.{length_keep}
use Rattle.strands.specs.declared.rules.Rules.{Rules}
use Rattle.strands.specs.Rules.{rules_of_key, rules_left, rules_in, opened}

-- the chosen rules stand within the index
pub chosen_within : (l : List ℕ) (mode kind class : ℕ) (c : Chosen) → length l ≡ 256 → c ≡ chosen_of l mode kind class → (c.first ≤ c.end) × (c.end ≤ 128)
chosen_within l mode kind class c size e =
    rw e
    (let q = chosen_of l mode kind class in
    let s = chosen_says l mode kind class in
    let f : q.end ≤ length l = omega (arith, s.0) in
    (subst (λ (i : ℕ). i ≤ q.end) (sym s.1) (next_few l q.end q.key f s.0 (first_of l (bucket mode kind))), s.0))

-- ---- what the functions of rules.rt say of them
abbrev pub attaches : Rule → Bool
attaches r = is_attach r.action

abbrev pub opens : Rule → ℕ
opens r = opened r.action

-- whether one of those that are left attaches, where there was none before them, or some
abbrev pub kept_by : ℕ → Bool → List Rule → Bool
kept_by mode none rs = cond none (any attaches (or_else rs (fallback standard.attribute 1 mode ∷ []))) (any attaches rs)

module _ (mode : ℕ) (none : Bool) where
  pub kept_end : (rs : List Rule) → rs ≡ [] → none ≡ kept_by mode none rs
  unfolding any
  kept_end rs e = rw e (by none)
    where
      by : (b : Bool) → b ≡ kept_by mode b []
      by true = refl
      by false = refl

  module _ (q : Rule) (rs rest : List Rule) (e : rs ≡ q ∷ rest) (b : Bool) (eb : b ≡ is_attach q.action) where
    one_kept : kept_by mode none rs ≡ (b || any attaches rest)
    unfolding any
    one_kept = rw (e, eb) (by none)
      where
        by : (n : Bool) → kept_by mode n (q ∷ rest) ≡ (attaches q || any attaches rest)
        by true = refl
        by false = refl

    pub kept_here : b ≡ true → true ≡ kept_by mode none rs
    kept_here t = sym (one_kept ∙ ap (λ (x : Bool). x || any attaches rest) t)

    pub kept_on : b ≡ false → kept_by mode false rest ≡ kept_by mode none rs
    kept_on t = sym (one_kept ∙ ap (λ (x : Bool). x || any attaches rest) t)

-- how many there are, and how many units they open
pub rules_few : (l : List ℕ) (mode kind class : ℕ) → length (rules_in l mode kind class) ≤ 128
unfolding rules_in
rules_few l mode kind class =
    let c = chosen_of l mode kind class in
    let s = chosen_says l mode kind class in
    let words = slice c.first c.end l in
    omega (arith, s.0, length-map (keep (λ (w : ℕ). eqb (key_of w) c.key) words) rule_of, length_keep (λ (w : ℕ). eqb (key_of w) c.key) words, length-drop c.first (take c.end l), length-take c.end l)

pub total_end : (n : ℕ) (rs : List Rule) → rs ≡ [] → n ≡ n + total opens rs
unfolding total
total_end n rs e = rw e (omega arith)

pub total_on : (n : ℕ) (q : Rule) (rs rest : List Rule) → rs ≡ q ∷ rest → (k : ℕ) → k ≡ opened q.action → n + k + total opens rest ≡ n + total opens rs
unfolding total
total_on n q rs rest e k ek = rw (e, ek) (add_assoc n (opens q) (total opens rest))

-- ---- an iterator over some words: those of its key
module _ (key : ℕ) (w : ℕ) (ws : List ℕ) where
  pub key_here : key_of w ≡ key → rules_of_key key (w ∷ ws) ≡ rule_of w ∷ rules_of_key key ws
  unfolding keep
  key_here e = rw (eq-eqb (key_of w) key e)

  pub key_other : (key_of w ≡ key → ⊥) → rules_of_key key (w ∷ ws) ≡ rules_of_key key ws
  unfolding keep
  key_other n = rw (ne_eqb (key_of w) key n)

-- a call of its `next`: the words before it have other keys
module _ (r : Rules) (key : ℕ) (words : List ℕ) (inv : rules_of_key key words ≡ rules_left r) where
  pub rule_none : length words ≡ 0 → rules_left r ≡ []
  unfolding keep
  rule_none h = by words inv h
    where
      by : (ws : List ℕ) → rules_of_key key ws ≡ rules_left r → length ws ≡ 0 → rules_left r ≡ []
      by [] e n = sym e
      by (w ∷ ws) e n = absurd (omega arith)

  module _ (w : ℕ) (rest : List ℕ) (e : words ≡ w ∷ rest) (k : ℕ) (ek : k ≡ key_of w) where
    pub rule_here : k ≡ key → (q : Rule) → q ≡ rule_of w → rules_left r ≡ q ∷ rules_of_key key rest
    rule_here h q eq = sym inv ∙ ap (rules_of_key key) e ∙ key_here key w rest (sym ek ∙ h) ∙ ap (λ (x : Rule). x ∷ rules_of_key key rest) (sym eq)

    pub rule_other : (k ≡ key → ⊥) → rules_of_key key rest ≡ rules_left r
    rule_other n = sym (key_other key w rest (λ d. n (ek ∙ d))) ∙ ap (rules_of_key key) (sym e) ∙ inv

-- the words that an index has from one place to another
pub part_of_index : (l : List ℕ) (c : Chosen) → c.first ≤ c.end → take (c.end - c.first) (drop c.first l) ≡ slice c.first c.end l
part_of_index l c h =
    let e : c.first + (c.end - c.first) ≡ c.end = omega arith in
    sym (drop-take c.first (c.end - c.first) l) ∙ ap (λ (n : ℕ). drop c.first (take n l)) e

-- a rule fits its next mode in five bits
pub left_small : (r : Rules) (q : Rule) (rest : List Rule) → rules_left r ≡ q ∷ rest → q.next < 32
unfolding rules_left
left_small r q rest e = by (keep (λ (w : ℕ). eqb (key_of w) r.key) r.words.now) e
  where
    by : (ws : List ℕ) → map rule_of ws ≡ q ∷ rest → q.next < 32
    by [] d = cc
    by (w ∷ ws) d = let f : rule_of w ≡ q = cc in omega (arith, ap (λ (x : Rule). x.next) f)
