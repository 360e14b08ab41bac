use Rattle.machine.proofs.Refusals.{width_pos, width_le}
use Rattle.array.proofs.mask_of.Goals as goal

pub low_bits-requires : goal.low_bits-requires
low_bits-requires c = (width_pos _ c.requires, width_le _ c.requires)

pub returns-in-Ones : goal.returns-in-Ones
returns-in-Ones c = rw c.in-Ones.is c.low_bits.ensures
