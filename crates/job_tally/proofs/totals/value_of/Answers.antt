use mathlib.Core.Path.{◌∙◌}
use Rattle.job_tally.proofs.Extremes as extremes
use lib.Bits.{and_mask}
use Rattle.job_tally.proofs.totals.value_of.Goals as goal

pub returns : goal.returns
returns c =
    let a = c.args in rw (c.low_bits.ensures, c.from.ensures) (and_mask _ a.s.width ∙ extremes.value_is a.s a.w)
