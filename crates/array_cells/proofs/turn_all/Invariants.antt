use Rattle.array.specs.Operations as operations
use Rattle.array.proofs.Walks.{Walk}
use Rattle.array_cells.proofs.turn_all.Given as goal

abbrev pub invariant-loop-k : goal.invariant-loop-k
invariant-loop-k l = Walk (operations.word_after l.width l.registers l.operation) (operations.counted l.width l.registers l.operation) l.initial.ones l.initial.xs l.initial.selectors l.ones l.xs l.selectors l.counted l.k
