-- The turns and ends of the loops over the index: v is the answer.
use Prim.Native.Nat.{ℕ, ◌+◌, ◌-◌, ◌*◌, ◌≤◌, ◌<◌, min}
use mathlib.Core.Path.{◌≡◌, refl, sym, ap, ◌∙◌}
use mathlib.Core.List.{List, ◌∷◌}
use mathlib.Core.Bool.{Bool, true, false, cond}
use mathlib.Core.Logic.{⊎_elim}
use native.Mathlib.Nat.{sub-zero}
use native.Mathlib.Omega.{arith}
use borrow.Author.Tests.{eq-eqb, ne_eqb, lt-ltb, le-ltb, le-leb, lt-leb, leb-true}
use lib.ListN.{get_or, set, replicate}
use lib.Dec.{eqb, leb, ltb}
use Rattle.laws.specs.Lists.{tabulate}
use Rattle.laws.specs.Reading.{le_or_lt, room_step}
use Rattle.laws.proofs.Lists.{tabulate_here, tabulate_done}
use Rattle.table.specs.Table.{word_at}
use Rattle.table.specs.Index.{key_of, bucket_of, up_to, index_from, index_of, next_from, next_rule, bucket, first_of, end_of, chosen_of}
use Rattle.table.specs.declared.Header.{Header}
use Rattle.table.specs.declared.Chosen.{Chosen}

pub up_to_few : (n : ℕ) → up_to n ≤ 128
up_to_few n = by (leb n 128) refl
  where
    by : (b : Bool) → b ≡ leb n 128 → cond b n 128 ≤ 128
    by true e = leb-true n 128 (sym e)
    by false e = omega arith

pub up_to_min : (n : ℕ) → min n 128 ≡ up_to n
up_to_min n = ⊎_elim (λ h. rw (le-leb n 128 h) (omega arith)) (λ h. rw (lt-leb n 128 h) (omega arith)) (le_or_lt n 128)

pub few_up_to : (n m : ℕ) → n ≡ up_to m → n ≤ 128
few_up_to n m e = omega (arith, up_to_few m)

-- the next rule with a key
pub next_start : (l : List ℕ) (from end key last : ℕ) → last ≡ up_to end → next_from l last key from (last - from) ≡ next_rule l from end key
unfolding next_rule
next_start l from end key last e = ap (λ (k : ℕ). next_from l k key from (k - from)) e

module _ (l : List ℕ) (last key i v : ℕ) (inv : next_from l last key i (last - i) ≡ v) where
  pub next_done : last ≤ i → last ≡ v
  unfolding next_from
  next_done h = let z : last - i ≡ 0 = omega arith in ap (next_from l last key i) (sym z) ∙ inv

  module _ (h : i < last) (k : ℕ) (e : k ≡ key_of (get_or l i 0)) where
    pub next_here : k ≡ key → i ≡ v
    unfolding next_from
    next_here d = simp (← inv, room_step last i h, eq-eqb (key_of (get_or l i 0)) key (sym e ∙ d))

    pub next_on : (k ≡ key → ⊥) → next_from l last key (i + 1) (last - (i + 1)) ≡ v
    unfolding next_from
    next_on d = simp (← inv, room_step last i h, ne_eqb (key_of (get_or l i 0)) key (λ q. d (e ∙ q)))

-- the rules put into the index
pub load_start : (t : List ℕ) (h : Header) (n : ℕ) → n ≡ up_to h.rules → index_from (tabulate (word_at t) 0 (n - 0)) 0 (replicate 256 0) ≡ index_of t h
unfolding index_of
load_start t h n e = ap (λ (k : ℕ). index_from (tabulate (word_at t) 0 k) 0 (replicate 256 0)) (sub-zero n ∙ e)

-- the first of those that have ended at e
pub first_here : (e i f r : ℕ) → e ≡ 0 → r ≡ i → r ≡ cond (eqb e 0) i f
first_here e i f r z q = rw (eq-eqb e 0 z) q

pub first_before : (e i f r : ℕ) → (e ≡ 0 → ⊥) → r ≡ f → r ≡ cond (eqb e 0) i f
first_before e i f r n q = rw (ne_eqb e 0 n) q

module _ (t : List ℕ) (n i : ℕ) (l v : List ℕ) (inv : index_from (tabulate (word_at t) i (n - i)) i l ≡ v) where
  pub load_done : n ≤ i → l ≡ v
  unfolding index_from
  load_done h = ap (λ (ws : List ℕ). index_from ws i l) (sym (tabulate_done (word_at t) i n h)) ∙ inv

  pub load_on : i < n → (w : ℕ) → w ≡ word_at t i → (b : ℕ) → b ≡ bucket_of w → (f : ℕ) → f ≡ cond (eqb (get_or l (192 + b) 0) 0) i (get_or l (128 + b) 0)
      → index_from (tabulate (word_at t) (i + 1) (n - (i + 1))) (i + 1) (set (set (set l i w) (128 + b) f) (192 + b) (i + 1)) ≡ v
  unfolding index_from
  load_on h w e b d f g =
      let ws : List ℕ = tabulate (word_at t) (i + 1) (n - (i + 1)) in
      ap (λ (x : ℕ). index_from ws (i + 1) (set (set (set l i w) (128 + b) x) (192 + b) (i + 1))) g
      ∙ ap (λ (x : ℕ). index_from ws (i + 1) (set (set (set l i w) (128 + x) (cond (eqb (get_or l (192 + x) 0) 0) i (get_or l (128 + x) 0))) (192 + x) (i + 1))) d
      ∙ ap (λ (x : ℕ). index_from (x ∷ ws) i l) e
      ∙ ap (λ (xs : List ℕ). index_from xs i l) (sym (tabulate_here (word_at t) i n h))
      ∙ inv

-- those that name the class, or else those that name any
module _ (l : List ℕ) (mode kind class at b named end : ℕ) (pa : at ≡ bucket mode kind) (pb : b ≡ bucket mode kind) (pc : named ≡ class)
    (pn : end ≡ min (get_or l (192 + at) 0) 128) (i : ℕ) (pi : i ≡ next_rule l (get_or l (128 + at) 0) end (b * 256 + named)) where
  abbrev chosen_by : ℕ → ℕ → ℕ → ℕ → Chosen
  chosen_by b from end class =
      cond (ltb (next_rule l from end (b * 256 + class)) end)
      (record { key = b * 256 + class; first = next_rule l from end (b * 256 + class); end = end })
      (record { key = b * 256 + 255; first = next_rule l from end (b * 256 + 255); end = end })

  known : chosen_by b (get_or l (128 + at) 0) end named ≡ chosen_of l mode kind class
  unfolding chosen_of
  known =
      ap (λ (x : ℕ). chosen_by b (get_or l (128 + at) 0) end x) pc
      ∙ ap (λ (x : ℕ). chosen_by b (get_or l (128 + at) 0) x class) (pn ∙ up_to_min (get_or l (192 + at) 0))
      ∙ ap (λ (x : ℕ). chosen_by b (first_of l x) (end_of l x) class) pa
      ∙ ap (λ (x : ℕ). chosen_by x (first_of l (bucket mode kind)) (end_of l (bucket mode kind)) class) pb

  pub choose_naming : i < end → record { key = b * 256 + named; first = i; end = end } ≡ chosen_of l mode kind class
  choose_naming h = sym (sym known ∙ simp (← pi, lt-ltb i end h))

  pub choose_any : end ≤ i → (j : ℕ) → j ≡ next_rule l (get_or l (128 + at) 0) end (b * 256 + 255) → record { key = b * 256 + 255; first = j; end = end } ≡ chosen_of l mode kind class
  choose_any h j pj = sym (sym known ∙ simp (← pi, le-ltb i end h, ← pj))
