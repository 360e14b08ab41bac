use mathlib.Core.Path.{ap, ◌∙◌}
use Prim.Native.Nat.{ℕ, ◌+◌, ◌-◌}
use Rattle.job_tally.proofs.Sums as sums
use Rattle.job_tally.specs.Totals.{zeros}
use lib.Count as count
use Rattle.job_tally.proofs.totals.smallest_pulses.Goals as goal

pub returns : goal.returns
returns c =
    let w = c.args.o.a.width in
    let e = c.extreme_of-smallest in
    let l = c.low_bits-all in
    rw (c.from-2.ensures, c.from-3.ensures) (ap (λ (x : ℕ). 1 + w + x)
    (ap (λ (x : ℕ). count.ones (x - e.result)) (rw c.from.ensures at l.ensures) ∙ sums.zeros_is w e.result e.ensures.1 ∙ ap (zeros w) e.ensures.0))
