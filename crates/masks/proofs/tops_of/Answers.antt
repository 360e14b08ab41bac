-- One, shifted up, is bit N-1.
use Rattle.std.proofs.Common.{ap}
use lib.Bits.{bit_or}
use Rattle.masks.proofs.Words.{top_is}
use Rattle.masks.proofs.tops_of.Goals as goal

pub returns : goal.returns
returns c = ap (bit_or c.args.sdr) (top_is c.args.width c.requires.0 c.requires.1)
