use Rattle.job_plans.proofs.Shifts as shifts
use Rattle.jobs.proofs.commands.scaled.Goals as goal

pub returns : goal.returns
returns c = rw (c.low_bits.ensures, c.from.ensures) (shifts.masked _ c.args.p c.requires.1)
