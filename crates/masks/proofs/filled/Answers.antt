-- A syllable is not 0 exactly where it and all ones carry out of its top.
use Rattle.masks.proofs.Words.{filled_is}
use Rattle.std.proofs.Common.{refl}
use Rattle.masks.proofs.filled.Goals as goal

pub returns : goal.returns
returns c =
    filled_is c.args.width c.args.t c.args.q c.low_bits-u.result _ c.requires.topped c.ranges.q.fits c.ranges.t.fits
    c.low_bits-u.ensures refl
