use mathlib.Core.Path.{refl}
use Rattle.machine.specs.Refusals.{bad_address}
use Rattle.machine.proofs.bad_address.Goals as goal

pub returns : goal.returns
unfolding bad_address
returns c = refl
