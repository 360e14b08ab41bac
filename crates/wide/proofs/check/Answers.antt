-- 1 to 3, and then the rest.
use mathlib.Core.Path.{sym}
use Rattle.machine.specs.Machine.{machine}
use Rattle.wide.proofs.Accepted.{machine_width}
use Rattle.wide.proofs.check.Goals as goal

pub check_rest-requires : goal.check_rest-requires
check_rest-requires c =
    machine_width (machine c.args.width c.args.words.now c.args.responses.now) (sym c.in_ok-check_machine.ensures)
