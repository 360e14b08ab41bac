-- The invariant: a walk along the response bits beside the flags, and the count so far.
use Rattle.sweeps.specs.Rules.{hit, mark}
use Rattle.sweeps.proofs.Along.{Walk, Tally}
use Rattle.sweeps.proofs.marks.Given as goal

abbrev pub invariant-loop-i : goal.invariant-loop-i
invariant-loop-i l = Walk (mark l.p) l.h l.initial.responses l.responses l.i × Tally (hit l.p) l.h l.initial.responses l.n l.i
