-- `layout::storing::holds_session` meets its contract.
use mathlib.Core.Path.{sym, ◌∙◌}
use native.Mathlib.Omega.{arith}
use Rattle.layout.proofs.Holding.{not_version, not_closed, not_awaited, not_padding, level_zero, not_level, last_test}
use Rattle.layout.proofs.storing.holds_session.Goals as goal

pub returns-then-b-ne1 : goal.returns-then-b-ne1
returns-then-b-ne1 c = not_version c.args.b.now c.if-b-ne1.true

pub returns-then-b-gt1 : goal.returns-then-b-gt1
returns-then-b-gt1 c = not_closed c.args.b.now c.if-b-ne1.false c.if-b-gt1.true

pub returns-then-b-gt1-2 : goal.returns-then-b-gt1-2
returns-then-b-gt1-2 c = not_awaited c.args.b.now c.if-b-ne1.false (omega arith) c.if-b-gt1-2.true

pub returns-then-not-no_padding : goal.returns-then-not-no_padding
returns-then-not-no_padding c =
    not_padding c.args.b.now c.if-b-ne1.false (omega arith) (omega arith) (sym c.no_padding.ensures ∙ c.if-not-no_padding.true)

pub words_zero-requires : goal.words_zero-requires
words_zero-requires c = λ j h. omega arith

pub returns-then-not-words_zero : goal.returns-then-not-words_zero
returns-then-not-words_zero c =
    not_level c.args.b.now c.if-b-ne1.false (omega arith) (omega arith) (sym c.no_padding.ensures ∙ c.if-not-no_padding.false) (sym (level_zero c.args.b.now) ∙ sym c.words_zero.ensures ∙ c.if-not-words_zero.true)

pub returns : goal.returns
returns c =
    last_test c.args.b.now c.if-b-ne1.false (omega arith) (omega arith) (sym c.no_padding.ensures ∙ c.if-not-no_padding.false) (sym (level_zero c.args.b.now) ∙ sym c.words_zero.ensures ∙ c.if-not-words_zero.false) _ c.strands_pack.ensures
