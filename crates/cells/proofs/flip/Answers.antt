use mathlib.Core.Path.{◌∙◌}
use Rattle.chains.proofs.Words as words
use borrow.Author.Rules.{rules}
use Rattle.cells.proofs.flip.Goals as goal

pub returns : goal.returns
returns c = c.merge.ensures.0 ∙ words.flip_is c.args.target c.args.r (search rules)
