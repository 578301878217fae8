use Rattle.macho_text.proofs.Digits.{hex_count}
use Rattle.macho_text.proofs.number.hex_length.Goals as goal
use Rattle.std.proofs.Common.{arith, sym}

pub returns : goal.returns
returns c =
    record { length = sym (hex_count _ _ _ c.max.ensures c.ilog2.ensures.power_le c.ilog2.ensures.next_power_gt c.ilog2.ensures.bound); most = omega arith }
