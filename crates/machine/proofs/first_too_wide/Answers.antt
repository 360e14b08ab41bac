use mathlib.Core.Path.{sym, ◌∙◌}
use borrow.Author.Rules.{rules}
use Rattle.machine.specs.Refusals.{too_wide}
use Rattle.machine.proofs.Refusals.{lowest_here, lowest_later, lowest_end}
use Rattle.machine.proofs.first_too_wide.Goals as goal

pub returns-then-too_wide : goal.returns-then-too_wide
returns-then-too_wide c =
    let a = c.args in
    sym (c.loop-i.invariant
    ∙ lowest_here (too_wide a.width) a.words.now c.loop-i.i (search rules) (sym c.too_wide.ensures ∙ c.if-too_wide.true))

pub loop-i-preserved : goal.loop-i-preserved
loop-i-preserved c =
    let a = c.args in
    c.loop-i.invariant
    ∙ sym (lowest_later (too_wide a.width) a.words.now c.loop-i.i (search rules) (sym c.too_wide.ensures ∙ c.if-too_wide.false))

pub returns : goal.returns
returns c =
    let a = c.args in sym (c.loop-i.invariant ∙ lowest_end (too_wide a.width) a.words.now c.loop-i.i (search rules))
