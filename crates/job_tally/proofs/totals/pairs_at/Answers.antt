use native.Mathlib.Omega.{arith}
use Rattle.job_tally.proofs.Sums as sums
use Rattle.job_tally.proofs.totals.pairs_at.Goals as goal

pub returns : goal.returns
returns c =
    let a = c.args in (rw (c.from.ensures, c.min.ensures, c.saturating_sub.ensures) (sums.pairs_is a.i a.b a.p), omega arith)
