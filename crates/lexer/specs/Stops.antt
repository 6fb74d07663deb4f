-- Numbers 2, 3 and 1 of what stops the reader: "Place in brackets". Definitions.
use Rattle.std.specs.Prelude.{ℕ, List, length, Ok, Err}
use Rattle.lexer.specs.declared.Stop.{Stop}
use Rattle.lexer.specs.declared.Stop.TheVariants.{Bad, Long, Cut}
use Rattle.lexer.specs.Reads.{Read, Named}
use Rattle.lexer.specs.declared.Name.{Name}

-- "2 byte that cannot stand there (that byte); 3 65th byte of a part, first byte of a 17th attribute (that byte);
-- 1 scene ends, nothing else wrong so far (scene length)"
abbrev pub number_of : Stop → ℕ
number_of (Bad p) = 2
number_of (Long p) = 3
number_of Cut = 1

abbrev pub stop_place : List ℕ → Stop → ℕ
stop_place s (Bad p) = p
stop_place s (Long p) = p
stop_place s Cut = length s

-- what is read behind what was read; f says what a stop becomes
abbrev pub after_read : {A : Type 0} → (Stop → A) → Read → (ℕ → A) → A
after_read f (Ok j) k = k j
after_read f (Err x) k = f x

abbrev pub after_name : {A : Type 0} → (Stop → A) → Named → (Name → A) → A
after_name f (Ok n) k = k n
after_name f (Err x) k = f x
