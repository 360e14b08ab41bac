use native.Mathlib.Omega.{arith}
use Rattle.lines.proofs.Growing.{one_kept, one_lost}
use Rattle.lines.proofs.put.Goals as goal

pub returns-then-line-kept : goal.returns-then-line-kept
returns-then-line-kept c = λ lent t h. one_kept lent t _ _ _ h (omega arith)

pub returns-else-line-kept : goal.returns-else-line-kept
returns-else-line-kept c = λ lent t h. one_lost lent t _ _ _ h (omega arith)
