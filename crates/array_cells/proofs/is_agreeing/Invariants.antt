use mathlib.Core.Path.{◌≡◌}
use mathlib.Core.Bool.{true, not}
use Rattle.laws.specs.Bits.{every}
use Rattle.array.specs.Cells.{mismatch}
use Rattle.array.specs.Words.{word, cell_at}
use Rattle.array.specs.Operations.{argument_at}
use Rattle.array_cells.proofs.is_agreeing.Given as goal

-- no cell below the index mismatches
abbrev pub invariant-loop-i : goal.invariant-loop-i
invariant-loop-i l = every l.i (λ i. not (mismatch (argument_at l.datum l.mask i) (cell_at (word l.word.ones l.word.xs l.word.selectors) i))) ≡ true
