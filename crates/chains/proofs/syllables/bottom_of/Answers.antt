use mathlib.Core.Path.{sym, ◌∙◌}
use Rattle.chains.proofs.Passing as passing
use borrow.Author.Rules.{rules}
use Rattle.chains.proofs.syllables.bottom_of.Goals as goal

pub returns-then-bit_of-eq1 : goal.returns-then-bit_of-eq1
returns-then-bit_of-eq1 c =
    let l = c.loop-below in
    (passing.bottom_here c.args.sdr l.below (search rules) (sym c.bit_of.ensures.0 ∙ c.if-bit_of-eq1.true) ∙ l.invariant, search rules)

pub loop-below-preserved : goal.loop-below-preserved
loop-below-preserved c =
    let l = c.loop-below in
    passing.bottom_lower c.args.sdr l.below (search rules) (λ e. c.if-bit_of-eq1.false (c.bit_of.ensures.0 ∙ e)) ∙ l.invariant

pub returns : goal.returns
returns c = (passing.bottom_zero c.args.sdr c.loop-below.below (search rules) ∙ c.loop-below.invariant, search rules)
