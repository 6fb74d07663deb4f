-- `Scope::open` meets its contract: number 21, number 22, or the level and its bindings laid behind those that are open.
use mathlib.Core.Path.{◌∙◌}
use native.Mathlib.Omega.{arith}
use borrow.Author.Rules.{rules}
use Rattle.reader.proofs.Indexed.{min_at_most}
use Rattle.reader.proofs.Levels.{deep, full, opened}
use Rattle.reader.proofs.Scope.open.Goals as goal

pub returns-then-depth-ge-DEPTH : goal.returns-then-depth-ge-DEPTH
returns-then-depth-ge-DEPTH c = search deep

pub returns-then-count-bound : goal.returns-then-count-bound
returns-then-count-bound c = let a = c.args in full a.self a.name a.own.now a.owned (omega arith) _ (c.min-count.ensures ∙ min_at_most 16 _) (omega arith)

pub returns : goal.returns
returns c =
    let a = c.args in
    opened a.self a.name a.own.now a.owned (omega arith) c.min-count.result (c.min-count.ensures ∙ min_at_most 16 _) (omega arith) (search rules) _ _ c.narrow.ensures c.narrow-2.ensures c.push_bindings.new.bindings c.push_bindings.ensures
