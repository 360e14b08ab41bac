use mathlib.Core.Path.{sym, ◌∙◌}
use Rattle.chains.specs.Walks.{syllable}
use Rattle.explainer.proofs.Answers.{settles, goes_on, comes_down}
use borrow.Author.Rules.{rules}
use Rattle.explainer.proofs.down_through.Goals as goal

pub returns-then-is_against : goal.returns-then-is_against
returns-then-is_against c =
    let a = c.args in let l = c.loop-j in
    settles a.panel a.w a.top (syllable a.y.low a.y.width) _ l.j l.status c.cell_at-status.result (search rules) l.invariant c.cell_at-status.ensures (sym c.is_against.ensures ∙ c.if-is_against.true)

pub loop-j-preserved : goal.loop-j-preserved
loop-j-preserved c =
    let a = c.args in let l = c.loop-j in
    goes_on a.panel a.w a.top (syllable a.y.low a.y.width) _ l.j l.status c.cell_at-status.result (search rules) l.invariant c.cell_at-status.ensures (sym c.is_against.ensures ∙ c.if-is_against.false)

pub returns : goal.returns
returns c =
    let a = c.args in let l = c.loop-j in
    comes_down a.panel a.w a.top (syllable a.y.low a.y.width) _ l.j l.status (search rules) l.invariant
