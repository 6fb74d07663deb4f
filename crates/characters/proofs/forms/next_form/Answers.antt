-- `characters::forms::next_form` meets its contract: by the byte, and by how many are to come.
use mathlib.Core.Path.{refl}
use native.Mathlib.Omega.{arith}
use Rattle.characters.proofs.FormTurns.{goes_on, next_first, next_none, next_small, next_on}
use Rattle.characters.proofs.forms.next_form.Goals as goal

pub returns-then-f-eq4 : goal.returns-then-f-eq4
returns-then-f-eq4 c = next_first c.args.f _ _ c.if-f-eq4.true c.first_form.ensures

pub returns-then-f-b : goal.returns-then-f-b
returns-then-f-b c = next_none c.args.f _ _ c.if-f-eq4.false c.if-f-b.true (refl, omega arith)

pub overflow_sub-result : goal.overflow_sub-result
overflow_sub-result c = omega (arith, goes_on c.args.f c.args.b c.if-f-b.false)

pub overflow_mul-result : goal.overflow_mul-result
overflow_mul-result c = omega (arith, next_small c.args.f c.args.b c.if-f-eq4.false c.if-f-b.false c.requires)

pub overflow_sub-b : goal.overflow_sub-b
overflow_sub-b c = omega (arith, goes_on c.args.f c.args.b c.if-f-b.false)

pub overflow_add-result : goal.overflow_add-result
overflow_add-result c = omega (arith, c.from.ensures, next_small c.args.f c.args.b c.if-f-eq4.false c.if-f-b.false c.requires, goes_on c.args.f c.args.b c.if-f-b.false)

pub returns : goal.returns
returns c = next_on c.args.f c.args.b c.if-f-eq4.false c.if-f-b.false c.requires _ c.from.ensures
