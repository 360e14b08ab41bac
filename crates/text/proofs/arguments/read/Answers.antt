use mathlib.Core.Path.{sym, ◌∙◌}
use native.Mathlib.Omega.{arith}
use Rattle.text.proofs.Rows.{row_bad, row_on, row_put, row_end, row_all}
use Rattle.text.proofs.arguments.read.Goals as goal

pub returns-in_err-x-clause-right_value : goal.returns-in_err-x-clause-right_value
returns-in_err-x-clause-right_value c = let l = c.loop-i in let a = c.args in let n = c.next-word in let one = c.read_one in rw c.from_residual.ensures (sym (row_bad a.line.now a.letters.now l.at l.i n.result n.ensures.value l.invariant.0 (omega arith) one.result one.ensures c.in_err-x.was) ∙ l.invariant.1)

pub loop-i-preserved : goal.loop-i-preserved
loop-i-preserved c = let l = c.loop-i in let a = c.args in let n = c.next-word in let one = c.read_one in (omega arith, sym (row_on a.line.now a.letters.now l.at l.i n.result n.ensures.value l.invariant.0 (omega arith) one.result one.ensures _ c.in_ok-x.was) ∙ l.invariant.1, λ h. row_put a.line.now a.letters.now l.at l.i n.result n.ensures.value l.invariant.0 (omega arith) one.result one.ensures _ c.in_ok-x.was l.values _ (l.invariant.2 h) _ (c.keep.ensures (omega arith)))

pub returns-then-none_left : goal.returns-then-none_left
returns-then-none_left c = let l = c.loop-i in let a = c.args in record {
  right_value = sym c.if-none_left.true ∙ (c.none_left.ensures ∙ (row_end a.line.now a.letters.now l.at l.i l.invariant.0 (omega arith) ∙ l.invariant.1));
  values_value = λ h. row_all a.line.now a.letters.now l.at l.i l.invariant.0 (omega arith) l.values _ (l.invariant.2 h);
}

pub returns-else-none_left-clause-right_value : goal.returns-else-none_left-clause-right_value
returns-else-none_left-clause-right_value c = let l = c.loop-i in let a = c.args in sym c.if-none_left.false ∙ (c.none_left.ensures ∙ (row_end a.line.now a.letters.now l.at l.i l.invariant.0 (omega arith) ∙ l.invariant.1))
