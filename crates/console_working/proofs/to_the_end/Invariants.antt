-- The steps taken, and what is left of the run.
use Rattle.jobs.specs.Runs.{state}
use Rattle.console_working.specs.Jobs.{most}
use Rattle.console_working.proofs.Running.{Left}
use Rattle.console_working.proofs.to_the_end.Given as goal

abbrev pub invariant-loop-taken : goal.invariant-loop-taken
invariant-loop-taken l = Left most l.taken (state l.width l.initial.words l.initial.responses l.initial.held) (state l.width l.words l.responses l.held)
