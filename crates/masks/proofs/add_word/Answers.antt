-- One wrapping add of whole words adds in each syllable.
use Rattle.masks.proofs.Words.{sum_is}
use Rattle.std.proofs.Common.{refl}
use Rattle.masks.proofs.add_word.Goals as goal

pub returns : goal.returns
returns c =
    let f = c.ranges in
    sum_is c.args.width c.args.t c.args.w c.args.a _ _ c.requires.1 f.t.fits f.w.fits f.a.fits refl
    c.low_bits.ensures
