-- Two numbers are mixed in a syllable exactly where both and their difference fill it.
use Rattle.std.proofs.Common.{refl}
use lib.Bits.{xor_lt}
use Rattle.fields.specs.Codes.{clash}
use Rattle.masks.proofs.mixed.Goals as goal

pub filled-requires-3 : goal.filled-requires-3
filled-requires-3 c =
    record {
      topped = c.requires.topped;
      q_bound = xor_lt c.args.width _ _ c.requires.x_bound.0 c.requires.x_bound.1;
    }

pub returns : goal.returns
unfolding clash
returns c = rw (c.filled.ensures, c.filled-2.ensures, c.filled-3.ensures) refl
