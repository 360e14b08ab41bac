use Rattle.output.specs.Digits.{decimal_digits}
use Rattle.output.proofs.Puts.{puts₂}
use Rattle.output.proofs.put_named.Goals as goal

pub returns : goal.returns
returns c = let s = c.args in puts₂ s.name.now (decimal_digits 20 s.x) s.at s.out.now c.put-n.ensures c.put_decimal.ensures
