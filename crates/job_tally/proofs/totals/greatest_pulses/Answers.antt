use mathlib.Core.Path.{ap, ◌∙◌}
use Prim.Native.Nat.{ℕ, ◌+◌}
use Rattle.job_tally.proofs.Sums as sums
use Rattle.job_tally.specs.Totals.{ones}
use Rattle.job_tally.proofs.totals.greatest_pulses.Goals as goal

pub returns : goal.returns
returns c =
    let w = c.args.o.a.width in
    let e = c.extreme_of-greatest in
    rw (c.from.ensures, c.from-2.ensures) (ap (λ (x : ℕ). 1 + w + x) (sums.ones_is w e.result e.ensures.1 ∙ ap (ones w) e.ensures.0))
