use Rattle.lines.proofs.Onward.{begun, gone_on}
use Rattle.lines.proofs.next.Goals as goal

pub returns-then-more-clause-by_index : goal.returns-then-more-clause-by_index
returns-then-more-clause-by_index g c = let a = c.args in let m = c.more in begun a.kept.now a.reader.now a.chunk.now _ _ _ (c.empty-line.ensures a.kept.now) m.ensures.by_index

pub loop-init : goal.loop-init
loop-init g c = let a = c.args in let m = c.more in begun a.kept.now a.reader.now a.chunk.now _ _ _ (c.empty-line.ensures a.kept.now) m.ensures.by_index

pub returns-then-more-2-clause-by_index : goal.returns-then-more-2-clause-by_index
returns-then-more-2-clause-by_index g c = gone_on _ _ c.loop.reader c.loop.chunk _ _ _ _ c.more-in-loop.ensures.by_index c.loop.invariant

pub loop-preserved : goal.loop-preserved
loop-preserved g c = gone_on _ _ c.loop.reader c.loop.chunk _ _ _ _ c.more-in-loop.ensures.by_index c.loop.invariant
