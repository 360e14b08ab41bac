use Rattle.chains.proofs.Adding.{Summed}
use Rattle.chains.proofs.add.add_word.Given as goal

abbrev pub invariant-loop-i : goal.invariant-loop-i
invariant-loop-i l = Summed l.n l.panel l.w l.word l.i
