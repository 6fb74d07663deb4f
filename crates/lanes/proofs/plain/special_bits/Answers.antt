-- `lanes::plain::special_bits` meets its contract: its differences are those of the lanes.
use Rattle.std.proofs.Common.{◌*◌, refl, arith}
use lib.Bits.{xor_lt}
use Rattle.lanes.proofs.Lanes.{taken_back, plain_eight}
use Rattle.lanes.proofs.plain.special_bits.Goals as goal

pub returns : goal.returns
returns c =
    let w = c.args.w in
    rw c.from-quotes.ensures
    (plain_eight _ w _ _ _ _ _ (omega arith)
    (taken_back w _ _ (omega arith) refl)
    (taken_back _ _ _ (xor_lt 64 w (c.args.quote * 0x0101010101010101) (omega arith) (omega arith)) refl)
    (taken_back _ _ _ (xor_lt 64 w 0x2626262626262626 (omega arith) (omega arith)) refl)
    (taken_back _ _ _ (xor_lt 64 w 0x3C3C3C3C3C3C3C3C (omega arith) (omega arith)) refl)
    (taken_back _ _ _ (xor_lt 64 w 0x3E3E3E3E3E3E3E3E (omega arith) (omega arith)) refl))
