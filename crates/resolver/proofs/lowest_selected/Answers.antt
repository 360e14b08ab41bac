use mathlib.Core.Path.{sym, ◌∙◌}
use borrow.Author.Rules.{rules}
use Rattle.machine.specs.Machine.{selected}
use Rattle.machine.proofs.Refusals.{lowest_here, lowest_later, lowest_end}
use Rattle.resolver.proofs.lowest_selected.Goals as goal

pub returns-then-is_selected : goal.returns-then-is_selected
returns-then-is_selected c =
    let a = c.args in
    sym (c.loop-i.invariant
    ∙ lowest_here (selected a.key a.care) a.responses.now c.loop-i.i (search rules) (sym c.is_selected.ensures ∙ c.if-is_selected.true))

pub loop-i-preserved : goal.loop-i-preserved
loop-i-preserved c =
    let a = c.args in
    c.loop-i.invariant
    ∙ sym (lowest_later (selected a.key a.care) a.responses.now c.loop-i.i (search rules) (sym c.is_selected.ensures ∙ c.if-is_selected.false))

pub returns : goal.returns
returns c =
    let a = c.args in sym (c.loop-i.invariant ∙ lowest_end (selected a.key a.care) a.responses.now c.loop-i.i (search rules))
