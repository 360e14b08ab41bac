use Rattle.chains.proofs.Adding as adding
use borrow.Author.Rules.{rules}
use Rattle.chains.proofs.add.add_word.Goals as goal

pub loop-i-init : goal.loop-i-init
loop-i-init c = adding.summed_start _ _ _

pub overflow_add-word : goal.overflow_add-word
overflow_add-word c =
    let l = c.loop-i in let a = c.args in
    record { fits = adding.summed_room a.n a.panel a.w l.word l.i l.invariant (search rules) (search rules) c.add_at-word.result c.add_at-word.ensures }

pub loop-i-preserved : goal.loop-i-preserved
loop-i-preserved c =
    let l = c.loop-i in let a = c.args in
    adding.summed_step a.n a.panel a.w l.word l.i l.invariant (search rules) c.add_at-word.result c.add_at-word.ensures

pub returns : goal.returns
returns c = adding.summed_done _ _ _ _ c.loop-i.i c.loop-i.invariant (search rules)
