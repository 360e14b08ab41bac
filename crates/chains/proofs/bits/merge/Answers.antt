use Rattle.chains.proofs.Steps as steps
use Rattle.laws.specs.Bits.{bit, under}
use borrow.Author.Rules.{rules}
use Rattle.chains.proofs.bits.merge.Goals as goal

pub loop-i-init : goal.loop-i-init
loop-i-init c = steps.built_start _ _

pub overflow_add-word : goal.overflow_add-word
overflow_add-word c =
    let l = c.loop-i in let a = c.args in
    record { fits = steps.built_room a.n (under a.mask (bit a.x) (bit a.y)) l.word l.i c.merged_bit.result c.at_place-word.result l.invariant (search rules) c.merged_bit.ensures.1 c.at_place-word.ensures (search rules) }

pub loop-i-preserved : goal.loop-i-preserved
loop-i-preserved c =
    let l = c.loop-i in let a = c.args in
    steps.built_step a.n (under a.mask (bit a.x) (bit a.y)) l.word l.i c.merged_bit.result c.at_place-word.result l.invariant (search rules) c.merged_bit.ensures.1 c.at_place-word.ensures c.merged_bit.ensures.0

pub returns : goal.returns
returns c = steps.built_done _ _ _ c.loop-i.i c.loop-i.invariant (search rules)
