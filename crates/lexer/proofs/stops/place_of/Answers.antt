-- `lexer::stops::place_of` meets its contract, by the cases of the stop.
-- the place of the stop that was met
use Prim.Native.Nat.{ℕ}
use mathlib.Core.Path.{◌≡◌, sym, ap, ◌∙◌}
use mathlib.Core.List.{List}
use Rattle.lexer.specs.Stops.{stop_place}
use Rattle.lexer.specs.declared.Stop.{Stop}
use Rattle.lexer.proofs.stops.place_of.Goals as goal

placed : (s : List ℕ) (x m : Stop) (r : ℕ) → x ≡ m → r ≡ stop_place s m → r ≡ stop_place s x
placed s x m r e h = h ∙ ap (stop_place s) (sym e)

pub returns-in-Cut : goal.returns-in-Cut
returns-in-Cut c = search placed
