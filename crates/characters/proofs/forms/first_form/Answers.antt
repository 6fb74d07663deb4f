-- `characters::forms::first_form` meets its contract: each arm is a class of bytes.
use mathlib.Core.Path.{refl}
use native.Mathlib.Omega.{arith}
use Rattle.characters.proofs.FormTurns.{first_one_byte, first_none, first_two, first_three, first_four}
use Rattle.characters.proofs.forms.first_form.Goals as goal

pub returns-in-0-to-127 : goal.returns-in-0-to-127
returns-in-0-to-127 c = (first_one_byte _ _ c.from-c.ensures (omega arith), omega arith)

pub returns-in-128-to-191 : goal.returns-in-128-to-191
returns-in-128-to-191 c = (first_none _ _ c.from-c.ensures _ refl (omega arith) (omega arith), omega arith)

pub returns-in-192-to-223 : goal.returns-in-192-to-223
returns-in-192-to-223 c = (first_two _ _ c.from-c.ensures (omega arith) (omega arith), omega arith)

pub returns-in-224-to-239 : goal.returns-in-224-to-239
returns-in-224-to-239 c = (first_three _ _ c.from-c.ensures (omega arith) (omega arith), omega arith)

pub returns-in_default : goal.returns-in_default
returns-in_default c = (first_four _ _ c.from-c.ensures (omega arith), omega arith)
