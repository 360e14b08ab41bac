use Rattle.chains.proofs.Steps.{Built}
use Rattle.laws.specs.Bits.{bit, under}
use Rattle.chains.proofs.bits.merge.Given as goal

abbrev pub invariant-loop-i : goal.invariant-loop-i
invariant-loop-i l = Built l.n (under l.mask (bit l.x) (bit l.y)) l.word l.i
