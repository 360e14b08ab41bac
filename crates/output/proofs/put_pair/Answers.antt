use Rattle.output.proofs.Digits.{two_digits}
use Rattle.output.proofs.put_pair.Goals as goal

pub returns : goal.returns
returns c = rw c.from.ensures at (rw two_digits at c.put_hex.ensures)
