-- The words from each place on, by the laws of lines_from.
use Rattle.console_pulsing.proofs.Lines.{lines_end, lines_over, lines_bad, lines_on}
use native.Mathlib.Omega.{arith}
use Rattle.console_pulsing.proofs.read_lines.Goals as goal

pub returns-then-word : goal.returns-then-word
returns-then-word c =
    let l = c.loop-at in
    let n = c.next-word in
    lines_over c.args.rest.now l.at l.lines _ l.invariant.1 n.result n.ensures.value l.invariant.0 c.if-word.true

pub returns-then-is_raised : goal.returns-then-is_raised
returns-then-is_raised c =
    let l = c.loop-at in
    let a = c.args in
    lines_bad a.rest.now l.at l.lines _ l.invariant.1 c.next-word.result c.next-word.ensures.value l.invariant.0 (omega arith) _ c.which-number.ensures _ c.is_raised.ensures c.if-is_raised.true

pub loop-at-preserved : goal.loop-at-preserved
loop-at-preserved c =
    let l = c.loop-at in
    let a = c.args in
    (omega (arith, c.next-word.ensures.from_le_to.1.0), lines_on a.rest.now l.at l.lines _ l.invariant.1 c.next-word.result c.next-word.ensures.value l.invariant.0 (omega arith) _ c.which-number.ensures _ c.is_raised.ensures c.if-is_raised.false _ c.raise-lines.ensures)

pub returns : goal.returns
returns c =
    let l = c.loop-at in
    let a = c.args in
    lines_end a.rest.now l.at l.lines _ l.invariant.1 (omega arith)
