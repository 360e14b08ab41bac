use mathlib.Core.Path.{refl}
use Rattle.machine.specs.Refusals.{bad_width}
use Rattle.machine.proofs.bad_width.Goals as goal

pub returns : goal.returns
unfolding bad_width
returns c = refl
