use mathlib.Core.Path.{sym, ◌∙◌}
use borrow.Author.Tests.{lt-ltb, le-ltb}
use borrow.Author.Rules.{rules}
use Rattle.array_lines.proofs.Names.{word_here, words_behind}
use Rattle.array_lines.proofs.choose.Goals as goal

pub returns-then-most-place-clause-place_value : goal.returns-then-most-place-clause-place_value
returns-then-most-place-clause-place_value c =
    let a = c.args in let n = c.next-word in
    (c.which-place.ensures ∙ (rw (word_here a.line.now a.at n.result n.ensures.value c.requires)), sym (le-ltb _ _ c.if-most-place.true))

pub returns-then-most-place-clause-to_in_bounds : goal.returns-then-most-place-clause-to_in_bounds
returns-then-most-place-clause-to_in_bounds c =
    let a = c.args in let n = c.next-word in (search rules, words_behind a.line.now a.at n.result n.ensures.value c.requires)

pub returns-clause-place_value : goal.returns-clause-place_value
returns-clause-place_value c =
    let a = c.args in let n = c.next-word in
    (c.which-place.ensures ∙ (rw (word_here a.line.now a.at n.result n.ensures.value c.requires)), sym (lt-ltb _ _ c.if-most-place.false))

pub returns-clause-to_in_bounds : goal.returns-clause-to_in_bounds
returns-clause-to_in_bounds c =
    let a = c.args in let n = c.next-word in (search rules, words_behind a.line.now a.at n.result n.ensures.value c.requires)
