use Rattle.chains.proofs.Steps as steps
use Rattle.array.specs.Operations.{read_into}
use borrow.Author.Rules.{rules}
use Rattle.array_cells.proofs.read_cells.Goals as goal

pub loop-i-init : goal.loop-i-init
loop-i-init c = steps.built_start _ _

pub overflow_add-value : goal.overflow_add-value
overflow_add-value c =
    let l = c.loop-i in
    record { fits = steps.built_room _ _ _ l.i c.loaded_at.result _ l.invariant (search rules) c.loaded_at.ensures.1 c.at_place-value.ensures (search rules) }

pub loop-i-preserved : goal.loop-i-preserved
loop-i-preserved c =
    let l = c.loop-i in
    steps.built_step _ _ l.value l.i c.loaded_at.result c.at_place-value.result l.invariant (search rules) c.loaded_at.ensures.1 c.at_place-value.ensures c.loaded_at.ensures.0

pub returns : goal.returns
unfolding read_into
returns c = (steps.built_done _ _ _ c.loop-i.i c.loop-i.invariant (search rules)).0
