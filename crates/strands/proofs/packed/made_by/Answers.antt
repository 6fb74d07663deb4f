-- `made_by` makes a strand of a rule's next mode and action; attach and unwrap keep the target.
use native.Mathlib.Omega.{arith}
use Rattle.strands.specs.Packed.{strand_in}
use Rattle.strands.proofs.Words.{aim_few, made_attach, made_unwrap, made_validate}
use Rattle.strands.proofs.packed.made_by.Goals as goal

pub overflow_add-result : goal.overflow_add-result
overflow_add-result c = omega (arith, aim_few c.args.w)

pub overflow_add-result-in-Unwrap-2 : goal.overflow_add-result-in-Unwrap-2
overflow_add-result-in-Unwrap-2 c = omega (arith, aim_few c.args.w)

pub returns-in-Attach : goal.returns-in-Attach
returns-in-Attach c =
    let a = c.args in
    made_attach (strand_in a.w) a.rule _ _ c.from-next.ensures c.in-Attach.is c.aim_of.ensures

pub returns-in-Unwrap : goal.returns-in-Unwrap
returns-in-Unwrap c =
    let a = c.args in
    made_unwrap (strand_in a.w) a.rule _ _ c.from-next.ensures c.in-Unwrap.is c.aim_of-in-Unwrap.ensures

pub returns-in-Validate : goal.returns-in-Validate
returns-in-Validate c = let a = c.args in made_validate (strand_in a.w) a.rule _ c.from-next.ensures c.in-Validate.is
