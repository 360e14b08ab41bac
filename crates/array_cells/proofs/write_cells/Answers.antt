use Prim.Native.Nat.{ℕ}
use mathlib.Core.Path.{ap, ap₂, ◌∙◌}
use Rattle.chains.proofs.Steps as steps
use Rattle.array.specs.Cells.{one_of, x_of, written}
use Rattle.array.specs.Words.{word}
use Rattle.array.specs.Operations.{written_to}
use borrow.Author.Rules.{rules}
use Rattle.array_cells.proofs.write_cells.Goals as goal

pub loop-i-init : goal.loop-i-init
loop-i-init c = (steps.built_start _ _, steps.built_start _ _)

pub overflow_add-ones : goal.overflow_add-ones
overflow_add-ones c =
    let l = c.loop-i in
    record { fits = steps.built_room _ _ _ l.i c.one_of.result _ l.invariant.0 (search rules) c.one_of.ensures.1 c.at_place-ones.ensures (search rules) }

pub overflow_add-xs : goal.overflow_add-xs
overflow_add-xs c =
    let l = c.loop-i in
    record { fits = steps.built_room _ _ _ l.i c.x_of.result _ l.invariant.1 (search rules) c.x_of.ensures.1 c.at_place-xs.ensures (search rules) }

pub loop-i-preserved : goal.loop-i-preserved
loop-i-preserved c =
    let l = c.loop-i in
    let a = c.args in
    let e = c.written_of-cell.ensures ∙ ap₂ (written a.kind) c.argument_at.ensures c.cell_at.ensures in (
      steps.built_step _ _ l.ones l.i c.one_of.result c.at_place-ones.result l.invariant.0 (search rules) c.one_of.ensures.1 c.at_place-ones.ensures (c.one_of.ensures.0 ∙ ap one_of e),
      steps.built_step _ _ l.xs l.i c.x_of.result c.at_place-xs.result l.invariant.1 (search rules) c.x_of.ensures.1 c.at_place-xs.ensures (c.x_of.ensures.0 ∙ ap x_of e),
    )

pub returns : goal.returns
unfolding written_to
returns c =
    let l = c.loop-i in
    ap₂ (λ (a b : ℕ). word a b c.args.word.selectors) (steps.built_done _ _ _ l.i l.invariant.0 (search rules)).0 (steps.built_done _ _ _ l.i l.invariant.1 (search rules)).0
