-- The host's loop. Invariant: what is answered and what is left to answer give the whole round. Measure: how many words are left.
use mathlib.Core.Path.{◌≡◌}
use mathlib.Core.Bool.{true}
use Rattle.handout.proofs.Working.{Working, left}
use Rattle.handout.proofs.work.Given as goal

abbrev pub invariant-loop-taken : goal.invariant-loop-taken
invariant-loop-taken l =
    Working l.x l.f l.verdicts l.width l.words l.initial.responses l.responses l.report.done l.report.faulty × (l.taken ≡ true)

abbrev pub decreases-loop-taken : goal.decreases-loop-taken
decreases-loop-taken l = left l.x l.verdicts l.responses
