use Rattle.chains.proofs.Steps as steps
use Rattle.array.specs.Words.{words}
use Rattle.array.specs.Selectors.{selected}
use Rattle.array.specs.Operations.{loaded_at}
use Rattle.array_cells.proofs.read_cells.Given as goal

abbrev pub invariant-loop-i : goal.invariant-loop-i
invariant-loop-i l = steps.Built l.width (loaded_at l.mask l.old (selected l.selector l.form) (words l.ones l.xs l.selectors)) l.value l.i
