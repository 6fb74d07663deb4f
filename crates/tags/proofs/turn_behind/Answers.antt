-- `tags::turn_behind` meets its contract: the tests on the way to each `return` say which case it is.
use Rattle.laws.specs.Tests.{tests}
use Rattle.lexer.specs.Tags.{turn_behind}
use Rattle.tags.proofs.turn_behind.Goals as goal

pub returns-then-s-i : goal.returns-then-s-i
unfolding turn_behind
returns-then-s-i c = search tests

pub returns-then-b-eq62 : goal.returns-then-b-eq62
unfolding turn_behind
returns-then-b-eq62 c = search tests

pub returns-then-b-eq47 : goal.returns-then-b-eq47
unfolding turn_behind
returns-then-b-eq47 c = search tests

pub returns-then-i-at : goal.returns-then-i-at
unfolding turn_behind
returns-then-i-at c = search tests

pub returns-then-can_start_part : goal.returns-then-can_start_part
unfolding turn_behind
returns-then-can_start_part c = search tests depth 8

pub returns : goal.returns
unfolding turn_behind
returns c = search tests depth 8
