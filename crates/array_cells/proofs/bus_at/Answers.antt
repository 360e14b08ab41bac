use mathlib.Core.Path.{sym, ap, ◌∙◌}
use Rattle.array.specs.Cells.{reads}
use Rattle.array.specs.Words.{cell_at}
use Rattle.array.specs.Selectors.{selected}
use Rattle.array.proofs.Walks.{word_at}
use Rattle.array_cells.proofs.Bus as bus
use borrow.Author.Rules.{rules}
use Rattle.array_cells.proofs.bus_at.Goals as goal
use Rattle.array_cells.proofs.bus_at.Goals.{then-is_selected, else-is_selected}

pub loop-k-init : goal.loop-k-init
loop-k-init c = bus.start _ _ _ _ _

pub loop-k-preserved : goal.loop-k-preserved
loop-k-preserved c =
    let l = c.loop-k in
    let a = c.args in
    let w = word_at a.ones.now a.xs.now a.selectors.now l.k in
    let t = selected a.selector a.form w.selectors in
    let r = reads (cell_at w a.i) in
    let e = c.is_selected.ensures in
    bus.step _ _ _ _ _ l.on c.if-is_selected.on l.k l.invariant (search rules) c.requires.xs_len.0 c.requires.xs_len.1
    (elim c.if-is_selected.branch [
      | then-is_selected w ↦ w.on-is ∙ rw (w.read_of-on.ensures.0 ∙ ap reads w.cell_at.ensures) (bus.took t r l.on l.invariant.small (bus.reads_one (cell_at (word_at a.ones.now a.xs.now a.selectors.now l.k) a.i)) (sym e ∙ w.if-is_selected.true))
      | else-is_selected w ↦ w.on-is ∙ bus.passed t r l.on (sym e ∙ w.if-is_selected.false)
    ])

pub returns : goal.returns
returns c = bus.done _ _ _ _ _ _ c.loop-k.k c.loop-k.invariant (search rules)
