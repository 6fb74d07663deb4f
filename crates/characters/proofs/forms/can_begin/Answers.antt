-- `characters::forms::can_begin` meets its contract: a range that is empty meets no other.
use mathlib.Core.Path.{◌∙◌}
use borrow.Author.Tests.{lt-leb}
use native.Mathlib.Omega.{arith}
use Rattle.characters.proofs.FormTurns.{range_small, none_met, some_met}
use Rattle.characters.proofs.forms.can_begin.Goals as goal

pub overflow_mul-base : goal.overflow_mul-base
overflow_mul-base c = omega (arith, range_small c.args.f _ c.size_of-size.ensures c.requires)

pub overflow_add-most : goal.overflow_add-most
overflow_add-most c = omega (arith, range_small c.args.f _ c.size_of-size.ensures c.requires)

pub overflow_sub-most : goal.overflow_sub-most
overflow_sub-most c = omega (arith, range_small c.args.f _ c.size_of-size.ensures c.requires)

pub returns-else-least-most : goal.returns-else-least-most
returns-else-least-most c = lt-leb _ _ c.if-least-most.false ∙ none_met c.args.f _ c.size_of-size.ensures _ _ c.max-least.ensures c.if-least-most.false

pub returns-then-least-most : goal.returns-then-least-most
returns-then-least-most c = some_met c.args.f _ c.size_of-size.ensures _ _ c.max-least.ensures _ c.if-least-most.true c.has.ensures
