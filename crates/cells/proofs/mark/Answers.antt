use Rattle.std.proofs.Common.{refl, ◌∙◌}
use Rattle.chains.proofs.Words as words
use Rattle.cells.proofs.mark.Goals as goal
use Rattle.cells.proofs.mark.Goals.{then-matching, else-matching}

pub returns : goal.returns
returns c =
    let a = c.args in
    c.merge.ensures.0
    ∙ words.mark_is a.target a.matching c.if-matching.ones a.r
    (elim c.if-matching.branch [ then-matching w ↦ w.ones-is ∙ rw w.if-matching.true refl | else-matching w ↦ w.ones-is ∙ rw w.if-matching.false refl ])
