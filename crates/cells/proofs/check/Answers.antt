use mathlib.Core.Path.{sym}
use Rattle.machine.proofs.Refusals as checks
use Rattle.cells.proofs.check.Goals as goal

pub bad_codes-requires : goal.bad_codes-requires
bad_codes-requires c = (checks.sound _ (sym c.in_ok-check_machine.ensures)).width
