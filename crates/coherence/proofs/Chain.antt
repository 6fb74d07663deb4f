-- A chain of tests joined by &&, of which the code asks one after the other: v is the answer, r what a callee says of the first test t, x the tests behind it.
use mathlib.Core.Path.{◌≡◌, sym}
use mathlib.Core.Bool.{Bool, true, false, not, ◌&&◌}
use Rattle.laws.specs.Tests.{untold, untold'}
use Rattle.laws.proofs.Flags.{differ}

module _ (r t x v : Bool) (e : r ≡ t) where
  module _ (inv : (t && x) ≡ v) where
    pub chain_out : not r ≡ true → false ≡ v
    chain_out f = by t (untold r t e f) inv
      where
        by : (t : Bool) → t ≡ false → (t && x) ≡ v → false ≡ v
        by true f g = absurd (differ f)
        by false f g = g

    pub chain_on : not r ≡ false → x ≡ v
    chain_on f = by t (untold' r t e f) inv
      where
        by : (t : Bool) → t ≡ true → (t && x) ≡ v → x ≡ v
        by true f g = g
        by false f g = absurd (differ (sym f))
