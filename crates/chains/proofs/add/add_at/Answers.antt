use mathlib.Core.Path.{sym, ◌∙◌}
use Rattle.chains.specs.Walks.{syllable}
use Rattle.chains.proofs.Adding as adding
use borrow.Author.Rules.{rules}
use Rattle.chains.proofs.add.add_at.Goals as goal

pub returns-then-is_top : goal.returns-then-is_top
returns-then-is_top c =
    let a = c.args in
    let y = c.down_from-y in
    adding.kept_on a.n a.panel a.w a.i c.add_cells.result (syllable y.result.low y.result.width) (sym c.is_top.ensures ∙ c.if-is_top.true) (search rules) y.ensures.0 c.add_cells.ensures.0

pub returns-else-is_top : goal.returns-else-is_top
returns-else-is_top c = adding.kept_off _ _ _ _ (sym c.is_top.ensures ∙ c.if-is_top.false)
