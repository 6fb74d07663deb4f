-- The faults of a table. Definitions.
use Rattle.std.specs.Prelude.{ℕ}
use Rattle.judging.specs.declared.Fault.{Fault}
use Rattle.judging.specs.declared.Fault.TheVariants.{Length, Field, Clash}

-- "10 table under 4 bytes or of another length than it needs"; "11 field out of range, action 3, zero bits set, URI length 0";
-- "12 URI listed twice or that of xml, a rule repeated, or two attach/unwrap rules for one mode, kind, class"
abbrev pub number_of : Fault → ℕ
number_of Length = 10
number_of Field = 11
number_of Clash = 12
