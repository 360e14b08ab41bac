use Rattle.array.specs.Selectors.{selected}
use Rattle.array_cells.proofs.Bus as bus
use Rattle.array_cells.proofs.bus_at.Given as goal

abbrev pub invariant-loop-k : goal.invariant-loop-k
invariant-loop-k l = bus.Gathered (selected l.selector l.form) l.ones l.xs l.selectors l.i l.on l.k
