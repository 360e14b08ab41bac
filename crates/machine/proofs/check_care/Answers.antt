use mathlib.Core.Path.{ap, ◌∙◌}
use Rattle.machine.specs.declared.Refusal.TheVariants.{BitsClash}
use Rattle.machine.specs.Refusals.{refuse}
use Rattle.machine.proofs.check_care.Goals as goal

pub returns : goal.returns
returns c = c.refuse.ensures ∙ ap (refuse BitsClash) c.in_care.ensures
