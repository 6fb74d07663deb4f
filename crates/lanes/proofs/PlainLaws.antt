-- Turns of the loop that passes over plain bytes.
use Rattle.std.proofs.Common.{◌≡◌, ℕ, ◌+◌, ◌-◌, ◌≤◌, true, List, take, drop, ap, ◌∙◌, arith, take-take, drop-drop, take-add}
use Rattle.laws.specs.Lists.{all}
use Rattle.laws.proofs.Lists.{all_append}
use Rattle.lanes.specs.Words.{digits}
use Rattle.lanes.specs.Plain.{is_plain, plain_bytes, Clear}
use Rattle.lanes.proofs.Lanes.{clear_none}

-- nothing is passed over yet
pub none_passed : (s : List ℕ) (quote at : ℕ) → plain_bytes s quote at at ≡ true
unfolding plain_bytes all
none_passed s quote at = let z : at - at ≡ 0 = omega arith in rw z

-- a word w from i on, and its bits
module _ (s : List ℕ) (quote at i w bits : ℕ) (h : at ≤ i) (inv : plain_bytes s quote at i ≡ true)
    (e : digits 8 w ≡ take 8 (drop i s)) (p : (k : ℕ) → Clear k bits → all (is_plain quote) (take k (digits 8 w)) ≡ true) where
  pub some_passed : (k : ℕ) → k ≤ 8 → Clear k bits → plain_bytes s quote at (i + k) ≡ true
  unfolding plain_bytes
  some_passed k l c =
      let d : i + k - at ≡ i - at + k = omega arith in
      let a : at + (i - at) ≡ i = omega arith in
      let q : take k (digits 8 w) ≡ take k (drop i s) = ap (take k) e ∙ take-take k 8 (drop i s) l in
      rw (d, take-add (i - at) k (drop at s), drop-drop (i - at) at s, a)
      (all_append (is_plain quote) (take (i - at) (drop at s)) (take k (drop i s)) inv (rw q at (p k c)))

  pub all_passed : bits ≡ 0 → plain_bytes s quote at (i + 8) ≡ true
  all_passed q = some_passed 8 (omega arith) (rw q (clear_none 8))
