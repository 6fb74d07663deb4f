-- `Walk::next` meets its contract: a tag's < and the byte behind it stand in the scene.
use Prim.Native.Nat.{ℕ}
use mathlib.Core.Path.{◌≡◌, sym, ap, subst, ◌∙◌}
use Rattle.std.specs.Prelude.{Ok}
use mathlib.Core.Bool.{Bool}
use mathlib.Core.List.{List}
use Rattle.lexer.specs.Begins.{begin_at}
use Rattle.lexer.specs.Reads.{BeginRead}
use Rattle.lexer.proofs.BeginLaws.{BeginInside, begin_inside}
use Rattle.events.proofs.walk.Walk.next.Goals as goal

begun : (s : List ℕ) (place : ℕ) (inside closed : Bool) (r x : BeginRead) → r ≡ begin_at s place inside closed → r ≡ x → BeginInside s place inside closed x
begun s place inside closed r x e g = subst (BeginInside s place inside closed) (sym e ∙ g) (begin_inside s place inside closed)

pub start-requires : goal.start-requires
start-requires g c = (begun _ _ _ _ _ _ c.begin_at.ensures (c.in-Ok-Start.is ∙ ap Ok c.in-Ok-Start.field-0-is)).1

pub end-requires : goal.end-requires
end-requires g c = (begun _ _ _ _ _ _ c.begin_at.ensures (c.in-Ok-End.is ∙ ap Ok c.in-Ok-End.field-0-is)).1
