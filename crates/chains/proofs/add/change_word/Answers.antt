use mathlib.Core.Path.{refl, ap₂, ◌∙◌}
use Rattle.machine.specs.Pulse.{written, both_of}
use Rattle.chains.proofs.Words as words
use Rattle.chains.proofs.add.change_word.Goals as goal

pub returns-in-true-false : goal.returns-in-true-false
unfolding written
returns-in-true-false c = c.merge-wrote.ensures.0 ∙ rw (c.in-true-false.is-0, c.in-true-false.is-1) refl

pub returns-in-true-true : goal.returns-in-true-true
unfolding written
returns-in-true-true c =
    let a = c.args in
    c.merge.ensures.0 ∙ words.both_merged a.n a.w _ _
    ∙ ap₂ (both_of a.n a.w) c.merge-wrote.ensures.0 c.add_word-sum.ensures
    ∙ rw (c.in-true-true.is-0, c.in-true-true.is-1) refl
