use Prim.Native.Nat.{ℕ}
use Rattle.chains.proofs.Steps as steps
use Rattle.array.specs.declared.Cell.{Cell}
use Rattle.array.specs.declared.Kind.{Kind}
use Rattle.array.specs.Cells.{one_of, x_of}
use Rattle.array.specs.Words.{Word, word}
use Rattle.array.specs.Operations.{written_at}
use Rattle.array_cells.proofs.write_cells.Given as goal

-- bit i of a plane, after the write
abbrev pub plane : (Cell → ℕ) → Kind → ℕ → ℕ → Word → ℕ → ℕ
plane f kind datum mask w i = f (written_at kind datum mask w i)

abbrev pub invariant-loop-i : goal.invariant-loop-i
invariant-loop-i l =
    let w = word l.word.ones l.word.xs l.word.selectors in
    steps.Built l.width (plane one_of l.kind l.datum l.mask w) l.ones l.i × steps.Built l.width (plane x_of l.kind l.datum l.mask w) l.xs l.i
