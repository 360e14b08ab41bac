use mathlib.Core.Path.{sym, ap, ◌∙◌}
use mathlib.Core.Bool.{not}
use borrow.Author.Rules.{rules}
use Rattle.array.specs.Words.{words}
use Rattle.array.specs.Refusals.{first_too_wide, bad_cells}
use Rattle.array.proofs.Words.{apart_step, apart_end, all_apart}
use Rattle.array.proofs.bad_cells.Goals as goal

pub loop-k-preserved : goal.loop-k-preserved
loop-k-preserved c =
    let a = c.args in
    apart_step a.ones.now a.xs.now a.selectors.now c.loop-k.k c.loop-k.common (search rules) c.requires.xs_len.0 c.requires.xs_len.1
    ∙ c.loop-k.invariant

pub returns : goal.returns
unfolding bad_cells first_too_wide
returns c =
    let a = c.args in
    ap not
    (sym (apart_end a.ones.now a.xs.now a.selectors.now c.loop-k.k c.loop-k.common (search rules))
    ∙ c.loop-k.invariant
    ∙ all_apart a.width (words a.ones.now a.xs.now a.selectors.now) c.requires.selectors_value)
