use mathlib.Core.Path.{sym}
use Prim.Native.Nat.{ℕ, ◌+◌}
use Rattle.laws.specs.Bits.{digit}
use Rattle.job_tally.specs.Totals.{sum_below}
use Rattle.job_tally.proofs.Sums as sums
use lib.Dec.{ltb}
use borrow.Author.Rules.{rules}
use Rattle.job_tally.proofs.totals.pairs_of.Goals as goal

pub loop-i-init : goal.loop-i-init
loop-i-init c = (sym (sums.sum_none _), search rules)

pub loop-i-preserved : goal.loop-i-preserved
loop-i-preserved c =
    let a = c.args in
    let l = c.loop-i in
    (sums.sum_step l.i l.pairs c.pairs_at-pairs.result (λ (i : ℕ). sum_below a.b (λ (j : ℕ). digit (ltb (i + j) a.p))) l.invariant.0 c.pairs_at-pairs.ensures.0, search rules)
