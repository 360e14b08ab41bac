-- All ones, shifted down.
use Rattle.machine.proofs.Words.{lowest_ones}
use Rattle.machine.proofs.low_bits.Goals as goal

pub returns : goal.returns
returns c = lowest_ones c.args.k c.requires.1
