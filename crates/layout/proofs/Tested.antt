-- Tests of numbers one after the other: a loop that asks each and goes on to the last, and one that asks some at once and stops at the first that fail.
use Prim.Native.Nat.{ℕ, zero, suc, ◌+◌, ◌-◌, ◌≤◌, ◌<◌}
use mathlib.Core.Path.{◌≡◌, refl, sym, ap, ◌∙◌}
use mathlib.Core.List.{List, [], ◌∷◌, ◌++◌}
use mathlib.Core.Bool.{Bool, true, false, ◌&&◌, and_assoc, and-true}
use native.Mathlib.Nat.{zero-add}
use native.Mathlib.Omega.{arith}
use Rattle.laws.specs.Lists.{all, tabulate}
use Rattle.laws.proofs.Flags.{and_left, and_right}
use Rattle.reader.proofs.Tabulated.{tabulate_same, tabulate_append}

all_append : (p : ℕ → Bool) (a b : List ℕ) → all p (a ++ b) ≡ (all p a && all p b)
unfolding all
all_append p [] b = refl
all_append p (x ∷ a) b = ap (λ (t : Bool). p x && t) (all_append p a b) ∙ sym (and_assoc (p x) (all p a) (all p b))

-- the numbers from i on
abbrev pub asked : (ℕ → Bool) → ℕ → ℕ → Bool
asked p i n = all p (tabulate (λ (k : ℕ). k) i n)

-- tests that say the same, at other numbers
pub asked_same : (p q : ℕ → Bool) (i j n : ℕ) → ((k : ℕ) → k < n → p (i + k) ≡ q (j + k)) → asked p i n ≡ asked q j n
unfolding all tabulate
asked_same p q i j n h = each p i n ∙ ap (all (λ (t : Bool). t)) (tabulate_same p q i j n h) ∙ sym (each q j n)
  where
    each : (r : ℕ → Bool) (a m : ℕ) → asked r a m ≡ all (λ (t : Bool). t) (tabulate r a m)
    each r a zero = refl
    each r a (suc m) = ap (λ (t : Bool). r a && t) (each r (suc a) m)

-- each is asked: t says whether all so far pass
module _ (p : ℕ → Bool) where
  pub asked_none : true ≡ asked p 0 0
  unfolding all tabulate
  asked_none = refl

  pub asked_more : (t u : Bool) (i : ℕ) → t ≡ asked p 0 i → u ≡ p i → (t && u) ≡ asked p 0 (i + 1)
  unfolding all tabulate
  asked_more t u i e d =
      ap (λ (r : Bool). r && u) e
      ∙ ap (λ (r : Bool). asked p 0 i && r) (d ∙ sym (and-true (p i)) ∙ ap (λ (k : ℕ). p k && true) (sym (zero-add i)))
      ∙ sym (ap (all p) (tabulate_append (λ (k : ℕ). k) 0 i 1) ∙ all_append p (tabulate (λ (k : ℕ). k) 0 i) (tabulate (λ (k : ℕ). k) (0 + i) 1))

  pub asked_all : (t : Bool) (i n : ℕ) → i ≡ n → t ≡ asked p 0 i → t ≡ asked p 0 n
  asked_all t i n k e = e ∙ ap (asked p 0) k

-- m are asked at once, by the test q of the first m numbers: v is the answer
module _ (p q : ℕ → Bool) (i m n : ℕ) (v : Bool) (inv : asked p i (n - i) ≡ v) (h : i + m ≤ n) (same : (k : ℕ) → k < m → q k ≡ p (i + k)) where
  parts : (asked q 0 m && asked p (i + m) (n - (i + m))) ≡ v
  parts =
      let e : n - i ≡ m + (n - (i + m)) = omega arith in
      ap (λ (t : Bool). t && asked p (i + m) (n - (i + m))) (asked_same q p 0 i m (λ k l. ap q (zero-add k) ∙ same k l))
      ∙ sym (ap (all p) (tabulate_append (λ (k : ℕ). k) i m (n - (i + m))) ∙ all_append p (tabulate (λ (k : ℕ). k) i m) (tabulate (λ (k : ℕ). k) (i + m) (n - (i + m))))
      ∙ ap (asked p i) (sym e)
      ∙ inv

  pub some_fail : asked q 0 m ≡ false → false ≡ v
  some_fail e = ap (λ (t : Bool). t && asked p (i + m) (n - (i + m))) (sym e) ∙ parts

  pub some_pass : (j : ℕ) → i + m ≡ j → asked q 0 m ≡ true → asked p j (n - j) ≡ v
  some_pass j k e = ap (λ (a : ℕ). asked p a (n - a)) (sym k) ∙ ap (λ (t : Bool). t && asked p (i + m) (n - (i + m))) (sym e) ∙ parts

-- the numbers from m on by a test of their own, and where one that says more passes
module _ (p q : ℕ → Bool) (m n : ℕ) (same : (k : ℕ) → k < n → q k ≡ p (m + k)) where
  both_parts : (asked p 0 m && asked q 0 n) ≡ asked p 0 (m + n)
  both_parts =
      ap (λ (t : Bool). asked p 0 m && t) (asked_same q p 0 (0 + m) n (λ k l. ap q (zero-add k) ∙ same k l ∙ ap (λ (a : ℕ). p (a + k)) (sym (zero-add m))))
      ∙ sym (ap (all p) (tabulate_append (λ (k : ℕ). k) 0 m n) ∙ all_append p (tabulate (λ (k : ℕ). k) 0 m) (tabulate (λ (k : ℕ). k) (0 + m) n))

  pub first_fail : asked p 0 m ≡ false → false ≡ asked p 0 (m + n)
  first_fail e = ap (λ (t : Bool). t && asked q 0 n) (sym e) ∙ both_parts

  pub then_last : asked p 0 m ≡ true → asked q 0 n ≡ asked p 0 (m + n)
  then_last e = ap (λ (t : Bool). t && asked q 0 n) (sym e) ∙ both_parts

all_more : (p q : ℕ → Bool) → ((x : ℕ) → p x ≡ true → q x ≡ true) → (a : List ℕ) → all p a ≡ true → all q a ≡ true
unfolding all
all_more p q h [] e = refl
all_more p q h (x ∷ a) e = ap (λ (t : Bool). t && all q a) (h x (and_left (p x) (all p a) e)) ∙ all_more p q h a (and_right (p x) (all p a) e)

pub asked_less : (p q : ℕ → Bool) (n : ℕ) → ((x : ℕ) → p x ≡ true → q x ≡ true) → asked p 0 n ≡ true → asked q 0 n ≡ true
asked_less p q n h e = all_more p q h (tabulate (λ (k : ℕ). k) 0 n) e
