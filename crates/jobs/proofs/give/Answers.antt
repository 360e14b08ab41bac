use Rattle.machine.specs.Machine.{machine}
use Rattle.job_plans.proofs.Places as standing
use Rattle.jobs.proofs.Calls as giving
use Rattle.jobs.proofs.give.Goals as goal

pub command_of-command-requires : goal.command_of-command-requires
command_of-command-requires c =
    let a = c.args in
    let m = machine a.width a.words.now a.responses.now in record {
      n_bound = standing.narrow m a.o c.requires;
      o_value = standing.fair_held m a.o c.requires;
    }

pub give-count-requires : goal.give-count-requires
give-count-requires c =
    let a = c.args in
    let m = machine a.width a.words.now a.responses.now in
    let k = c.command_of-command in
    giving.pulse_passes m a.o c.requires k.result k.ensures

pub next_of-requires : goal.next_of-requires
next_of-requires c =
    let a = c.args in
    let m = machine a.width a.words.now a.responses.now in
    standing.few m a.o c.requires
