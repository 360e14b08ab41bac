use Prim.Native.Nat.{◌+◌, ◌%◌}
use Rattle.chains.proofs.Steps as steps
use Rattle.chains.proofs.Passing as passing
use Rattle.laws.specs.Bits.{bit}
use Rattle.machine.specs.Cells.{sum_bit}
use Rattle.machine.specs.Pulse.{addend}
use Rattle.chains.specs.Walks.{kept}
use borrow.Author.Rules.{rules}
use Rattle.chains.proofs.add.add_cells.Goals as goal

pub loop-j-init : goal.loop-j-init
loop-j-init c = (steps.built_start _ _, passing.below_start _ _)

pub overflow_add-sum : goal.overflow_add-sum
overflow_add-sum c =
    let l = c.loop-j in let a = c.args in
    record { fits = steps.built_room a.y.width (sum_bit (λ j. bit a.w (a.y.low + j)) (λ j. addend a.panel (a.y.low + j))) l.sum l.j ((c.bit_of.result + c.addend_at.result + l.carry) % 2) c.at_place-sum.result l.invariant.0 (search rules) (search rules) c.at_place-sum.ensures (search rules) }

pub loop-j-preserved : goal.loop-j-preserved
loop-j-preserved c =
    let l = c.loop-j in let a = c.args in (
      steps.built_step a.y.width (sum_bit (λ j. bit a.w (a.y.low + j)) (λ j. addend a.panel (a.y.low + j))) l.sum l.j ((c.bit_of.result + c.addend_at.result + l.carry) % 2) c.at_place-sum.result l.invariant.0 (search rules) (search rules) c.at_place-sum.ensures (passing.below_keep (λ j. bit a.w (a.y.low + j)) (λ j. addend a.panel (a.y.low + j)) l.carry l.j c.bit_of.result c.addend_at.result l.invariant.1 c.bit_of.ensures.0 c.addend_at.ensures.0),
      passing.below_step (λ j. bit a.w (a.y.low + j)) (λ j. addend a.panel (a.y.low + j)) l.carry l.j c.bit_of.result c.addend_at.result l.invariant.1 c.bit_of.ensures.0 c.addend_at.ensures.0 c.bit_of.ensures.1 c.addend_at.ensures.1,
    )

pub returns : goal.returns
unfolding kept
returns c = steps.built_done _ _ _ c.loop-j.j c.loop-j.invariant.0 (search rules)
