use mathlib.Core.Path.{◌≡◌}
use Prim.Native.Nat.{ℕ, ◌+◌, ◌*◌, ◌≤◌}
use Rattle.laws.specs.Bits.{digit}
use Rattle.job_tally.specs.Totals.{sum_below}
use lib.Dec.{ltb}
use Rattle.job_tally.proofs.totals.pairs_of.Given as goal

abbrev pub invariant-loop-i : goal.invariant-loop-i
invariant-loop-i l = (l.pairs ≡ sum_below l.i (λ (i : ℕ). sum_below l.b (λ (j : ℕ). digit (ltb (i + j) l.p)))) × (l.pairs ≤ 256 * l.i)
