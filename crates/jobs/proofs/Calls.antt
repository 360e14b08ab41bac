-- What a step answers and leaves, from what its callees ensure.
use mathlib.Core.Path.{◌≡◌}
use Rattle.std.specs.Prelude.{Ok, Some}
use Rattle.machine.specs.Machine.{Machine}
use Rattle.machine.specs.Refusals.{pulse_check}
use Rattle.job_plans.specs.declared.Job.{Job}
use Rattle.job_plans.specs.declared.Command.{Command}
use Rattle.job_plans.specs.Places.{step_check}
use Rattle.job_plans.specs.Commands.{command}
use Rattle.job_plans.proofs.Places.{good, fair_held}
use Rattle.jobs.proofs.Taken.{passes}

-- ---- a step that is not turned down

module _ (m : Machine) (o : Job) (ok : step_check m (Some o) ≡ Ok tt) where
  -- the command k that was given passes 1 to 7
  pub pulse_passes : (k : Command) → k ≡ command o → pulse_check m k.panel k.lines ≡ Ok tt
  pulse_passes k ke = rw ke (passes m o (good m (Some o) ok).machine (fair_held m o ok))
