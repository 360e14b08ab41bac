use Rattle.array.specs.Refusals.{bad_registers}
use Rattle.array.proofs.bad_registers.Goals as goal

pub returns : goal.returns
unfolding bad_registers
returns c = rw (c.too_wide.ensures, c.too_wide-2.ensures, c.too_wide-3.ensures)
