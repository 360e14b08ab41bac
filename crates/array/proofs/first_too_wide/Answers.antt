use mathlib.Core.Path.{refl, sym, ap₂, ◌∙◌}
use mathlib.Core.Bool.{◌||◌}
use borrow.Author.Rules.{rules}
use Rattle.array.specs.Refusals.{word_too_wide, first_too_wide}
use Rattle.array.proofs.Words.{lowest_here, lowest_later, lowest_end}
use Rattle.array.proofs.first_too_wide.Goals as goal

pub loop-k-init : goal.loop-k-init
unfolding first_too_wide
loop-k-init c = refl

pub returns-then-too_wide : goal.returns-then-too_wide
returns-then-too_wide c =
    let a = c.args in
    sym
    (lowest_here (word_too_wide a.width) a.ones.now a.xs.now a.selectors.now c.loop-k.k (search rules) c.requires.0 c.requires.1
    (sym (ap₂ ◌||◌ c.too_wide.ensures c.too_wide-in-loop-k.ensures) ∙ c.if-too_wide.true))
    ∙ c.loop-k.invariant

pub loop-k-preserved : goal.loop-k-preserved
loop-k-preserved c =
    let a = c.args in
    lowest_later (word_too_wide a.width) a.ones.now a.xs.now a.selectors.now c.loop-k.k (search rules) c.requires.0 c.requires.1
    (sym (ap₂ ◌||◌ c.too_wide.ensures c.too_wide-in-loop-k.ensures) ∙ c.if-too_wide.false)
    ∙ c.loop-k.invariant

pub returns : goal.returns
returns c =
    let a = c.args in
    sym (lowest_end (word_too_wide a.width) a.ones.now a.xs.now a.selectors.now c.loop-k.k (search rules)) ∙ c.loop-k.invariant
