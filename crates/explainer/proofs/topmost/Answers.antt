use mathlib.Core.Path.{◌∙◌}
use Rattle.explainer.proofs.Answers.{stops_at, goes_below, all_satisfied}
use borrow.Author.Rules.{rules}
use Rattle.explainer.proofs.topmost.Goals as goal

pub returns-then-not-accepted : goal.returns-then-not-accepted
returns-then-not-accepted c =
    let a = c.args in
    c.in_syllable.ensures ∙ stops_at a.n a.panel a.w c.requires.sdr_value c.loop-t.t c.accepted_at-accepted.result (search rules) (search rules) c.loop-t.invariant c.accepted_at-accepted.ensures c.if-not-accepted.true

pub loop-t-preserved : goal.loop-t-preserved
loop-t-preserved c =
    let a = c.args in
    goes_below a.n a.panel a.w c.requires.sdr_value c.loop-t.t c.accepted_at-accepted.result (search rules) (search rules) c.loop-t.invariant c.accepted_at-accepted.ensures c.if-not-accepted.false

pub returns : goal.returns
returns c =
    let a = c.args in
    all_satisfied a.n a.panel a.w c.requires.sdr_value c.loop-t.t (search rules) c.loop-t.invariant
