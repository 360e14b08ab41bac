use Rattle.lines.proofs.Growing.{nothing}
use Rattle.lines.proofs.empty.Goals as goal

pub returns : goal.returns
returns c = nothing
