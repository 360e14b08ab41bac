use mathlib.Core.Path.{refl}
use Rattle.machine.specs.Refusals.{bad_size}
use Rattle.machine.proofs.bad_size.Goals as goal

pub returns : goal.returns
unfolding bad_size
returns c = refl
