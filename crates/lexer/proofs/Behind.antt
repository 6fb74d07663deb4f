-- What a callee's answer decides: r is the answer, of which the contract says v, and the `match` m. For `search`, with `tests`.
use Prim.Native.Nat.{ℕ}
use mathlib.Core.Path.{◌≡◌, sym, ap, ◌∙◌}
use Rattle.lexer.specs.Stops.{after_read, after_name}
use Rattle.lexer.specs.declared.Stop.{Stop}
use Rattle.lexer.specs.Reads.{Read, Named}
use Rattle.lexer.specs.declared.Name.{Name}

pub by_read : {A : Type 0} (f : Stop → A) (k : ℕ → A) (r v m : Read) (x : A) → r ≡ v → r ≡ m → x ≡ after_read f m k → x ≡ after_read f v k
by_read f k r v m x p q h = h ∙ ap (λ (y : Read). after_read f y k) (sym q ∙ p)

pub by_name : {A : Type 0} (f : Stop → A) (k : Name → A) (r v m : Named) (x : A) → r ≡ v → r ≡ m → x ≡ after_name f m k → x ≡ after_name f v k
by_name f k r v m x p q h = h ∙ ap (λ (y : Named). after_name f y k) (sym q ∙ p)
