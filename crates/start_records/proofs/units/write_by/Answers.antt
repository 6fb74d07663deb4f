-- `write_by` writes the unit of a rule that validates, and of another nothing.
use mathlib.Core.Logic.{⊎_elim}
use native.Mathlib.Omega.{arith}
use Rattle.records.specs.Rows.{laid}
use Rattle.attributes.specs.Attributes.{attributes_in, sections_in, all_sorted}
use Rattle.strands.specs.Writing.{members}
use Rattle.start_records.proofs.UnitRows.{by_attach, by_unwrap, one_unit, by_validate}
use Rattle.start_records.proofs.units.write_by.Goals as goal

pub overflow_cast-unit : goal.overflow_cast-unit
overflow_cast-unit c =
    let a = c.args in
    let l = members (all_sorted (attributes_in a.attributes.now) (sections_in a.attributes.now) a.n) a.j in
    omega (arith, c.requires.2, one_unit a.tag l a.rule.schema a.rule.action c.in-Validate.is)

pub returns-in-Attach : goal.returns-in-Attach
returns-in-Attach c =
    let a = c.args in
    let l = members (all_sorted (attributes_in a.attributes.now) (sections_in a.attributes.now) a.n) a.j in
    let w = laid a.out.now a.wrote.used in
    ⊎_elim
    (λ e. by_attach a.tag l a.rule.schema a.rule.action e a.wrote.unit w)
    (λ e. by_unwrap a.tag l a.rule.schema a.rule.action e a.wrote.unit w)
    c.in-Attach.is

pub returns-in-Validate : goal.returns-in-Validate
returns-in-Validate c =
    let a = c.args in
    let l = members (all_sorted (attributes_in a.attributes.now) (sections_in a.attributes.now) a.n) a.j in
    by_validate a.tag l a.rule.schema a.rule.action c.in-Validate.is a.wrote.unit (laid a.out.now a.wrote.used) _ c.write_unit-used.ensures
