use Prim.Native.Nat.{◌+◌}
use Rattle.laws.specs.Bits.{bit}
use Rattle.machine.specs.Cells.{sum_bit}
use Rattle.machine.specs.Pulse.{addend}
use Rattle.chains.proofs.Steps.{Built}
use Rattle.chains.proofs.Passing.{Below}
use Rattle.chains.proofs.add.add_cells.Given as goal

abbrev pub invariant-loop-j : goal.invariant-loop-j
invariant-loop-j l = Built l.y.width (sum_bit (λ j. bit l.w (l.y.low + j)) (λ j. addend l.panel (l.y.low + j))) l.sum l.j × Below (λ j. bit l.w (l.y.low + j)) (λ j. addend l.panel (l.y.low + j)) l.carry l.j
