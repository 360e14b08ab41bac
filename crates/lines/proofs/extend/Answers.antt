use native.Mathlib.Omega.{arith}
use Rattle.lines.proofs.Growing.{grows_none, grows_more, grows_all}
use Rattle.lines.proofs.extend.Goals as goal

pub loop-byte-init : goal.loop-byte-init
loop-byte-init c = grows_none _ _

pub loop-byte-preserved : goal.loop-byte-preserved
loop-byte-preserved c = grows_more c.args.s.now c.loop-byte.byte-index _ _ _ _ _ _ (omega arith) c.loop-byte.invariant c.put.ensures

pub returns : goal.returns
returns c = grows_all c.args.s.now c.loop-byte.byte-index _ _ _ _ (omega arith) c.loop-byte.invariant
