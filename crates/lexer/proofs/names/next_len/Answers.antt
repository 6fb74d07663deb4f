-- `lexer::names::next_len` meets its contract: a byte below 80 is tested at once.
use mathlib.Core.Path.{sym, ◌∙◌}
use borrow.Author.Rules.{rules}
use native.Mathlib.Omega.{arith}
use Rattle.lexer.proofs.Parts.{name_byte}
use Rattle.lexer.proofs.names.next_len.Goals as goal

pub returns-then-is_name : goal.returns-then-is_name
returns-then-is_name c = let a = c.args in (omega arith, name_byte a.s.now a.at a.i (search rules) c.if-i-at.true (sym c.is_name.ensures ∙ c.if-is_name.true))
