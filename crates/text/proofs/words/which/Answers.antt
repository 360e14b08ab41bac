use mathlib.Core.Path.{sym, ◌∙◌}
use native.Mathlib.Omega.{arith}
use Rattle.text.proofs.Runs.{here_none, here_one, placed_none, placed_end, placed_here, placed_later, same_alike}
use Rattle.text.proofs.words.which.Goals as goal

pub loop-at-init : goal.loop-at-init
loop-at-init c = (omega arith, omega arith, omega arith)

pub returns-then-name : goal.returns-then-name
returns-then-name c = let l = c.loop-at in let a = c.args in let n = c.next-name in placed_none a.names.now a.word.now l.number l.at _ l.invariant.2 (here_none a.names.now l.at n.result n.ensures.value l.invariant.1 c.if-name.true)

pub returns-then-eq : goal.returns-then-eq
returns-then-eq c = let l = c.loop-at in let a = c.args in let n = c.next-name in placed_here a.names.now a.word.now l.number l.at _ l.invariant.2 _ _ (here_one a.names.now l.at n.result n.ensures.value l.invariant.1 (omega arith)) (sym c.if-eq.true ∙ (c.eq.ensures ∙ same_alike _ _))

pub loop-at-smaller : goal.loop-at-smaller
loop-at-smaller c = omega (arith, c.next-name.ensures.from_le_to.1.1 (omega arith))

pub loop-at-preserved : goal.loop-at-preserved
loop-at-preserved c = let l = c.loop-at in let a = c.args in let n = c.next-name in (omega (arith, n.ensures.from_le_to.1.1 l.invariant.1), omega arith, placed_later a.names.now a.word.now l.number l.at _ l.invariant.2 _ _ (here_one a.names.now l.at n.result n.ensures.value l.invariant.1 (omega arith)) (sym c.if-eq.false ∙ (c.eq.ensures ∙ same_alike _ _)))

pub returns : goal.returns
returns c = let l = c.loop-at in let a = c.args in placed_end a.names.now a.word.now l.number l.at _ l.invariant.2 (omega arith)
