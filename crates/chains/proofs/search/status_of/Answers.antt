use Prim.Native.Nat.{◌+◌}
use Rattle.laws.specs.Bits.{bit}
use Rattle.machine.specs.Search.{code_at}
use Rattle.machine.specs.Cells.{cell}
use Rattle.chains.proofs.Passing as passing
use borrow.Author.Rules.{rules}
use Rattle.chains.proofs.search.status_of.Goals as goal

pub loop-j-preserved : goal.loop-j-preserved
loop-j-preserved c =
    let l = c.loop-j in let a = c.args in
    passing.above_step (λ j. cell (code_at a.panel (a.y.low + j)) (bit a.w (a.y.low + j)) (bit a.panel.comp (a.y.low + j))) _ l.status c.pass_on-status.result l.j l.invariant (search rules)
    (rw (c.code_at.ensures, c.bit_of.ensures.0, c.bit_of-in-loop-j.ensures.0) at c.pass_on-status.ensures)

pub returns : goal.returns
returns c = passing.above_done _ _ c.loop-j.status c.loop-j.j c.loop-j.invariant (search rules)
