-- `stay_of` keeps mode, action and target.
use mathlib.Core.Path.{ap, ◌∙◌}
use native.Mathlib.Omega.{arith}
use Rattle.strands.specs.Packed.{action_number}
use Rattle.strands.proofs.Words.{tag_is, action_few, aim_few, stay_is}
use Rattle.strands.proofs.packed.stay_of.Goals as goal

pub overflow_add-result-2 : goal.overflow_add-result-2
overflow_add-result-2 c = omega (arith, aim_few c.args.w, tag_is c.action_of-action.result, action_few c.action_of-action.result)

pub returns : goal.returns
returns c = stay_is c.args.w _ _ (tag_is c.action_of-action.result ∙ ap action_number c.action_of-action.ensures) c.aim_of.ensures
