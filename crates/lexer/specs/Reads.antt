-- What reading answers: where what was read ends, or what it is; or why reading stops. Definitions.
use Rattle.std.specs.Prelude.{ℕ, Result}
use Rattle.std.specs.declared.ops.ControlFlow.{ControlFlow}
use Rattle.lexer.specs.declared.Stop.{Stop}
use Rattle.lexer.specs.declared.Name.{Name}
use Rattle.lexer.specs.declared.Attr.{Attr}
use Rattle.lexer.specs.declared.Tag.{Tag}
use Rattle.lexer.specs.declared.EndTag.{EndTag}
use Rattle.lexer.specs.declared.Turn.{Turn}
use Rattle.lexer.specs.declared.Begin.{Begin}

-- where what was read ends
abbrev pub Read : Type 0
Read = Result ℕ Stop

-- a name
abbrev pub Named : Type 0
Named = Result Name Stop

-- an attribute
abbrev pub Attributed : Type 0
Attributed = Result Attr Stop

-- a start tag
abbrev pub Tagged : Type 0
Tagged = Result Tag Stop

-- an end tag
abbrev pub Ended : Type 0
Ended = Result EndTag Stop

-- what stands behind a tag's name or an attribute, or behind a field of the declaration
abbrev pub TurnRead : Type 0
TurnRead = Result Turn Stop

-- what stands where the next event begins
abbrev pub BeginRead : Type 0
BeginRead = Result Begin Stop

-- what stands where the next event may begin: that is it, or a misc, which ends at a place
abbrev pub Ahead : Type 0
Ahead = ControlFlow BeginRead ℕ
