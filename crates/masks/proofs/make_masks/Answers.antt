-- The masks of a search are those of the plan.
use Rattle.std.proofs.Common.{refl}
use lib.Bits.{or_lt}
use Rattle.masks.specs.Plan.{masks_of}
use Rattle.masks.proofs.Words.{fit_tops}
use Rattle.masks.proofs.make_masks.Goals as goal

pub filled-need-requires : goal.filled-need-requires
filled-need-requires c =
    record {
      topped = fit_tops _ c.args.panel _ c.requires c.tops_of-t.ensures;
      q_bound = or_lt c.args.width _ _ c.requires.sc1 c.requires.sc2;
    }

pub filled-contrary-requires : goal.filled-contrary-requires
filled-contrary-requires c =
    record {
      topped = fit_tops _ c.args.panel _ c.requires c.tops_of-t.ensures;
      q_bound = c.requires.sc3;
    }

pub returns : goal.returns
unfolding masks_of
returns c =
    rw (c.filled-contrary.ensures, c.filled-need.ensures, c.add_word-less.ensures, c.low_bits-mask.ensures, c.tops_of-t.ensures) refl
