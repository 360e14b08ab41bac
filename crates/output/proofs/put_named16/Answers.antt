use Rattle.output.specs.Digits.{hex_digits}
use Rattle.output.proofs.Puts.{puts₂}
use Rattle.output.proofs.put_named16.Goals as goal

pub returns : goal.returns
returns c = let s = c.args in puts₂ s.name.now (hex_digits 16 s.x) s.at s.out.now c.put-n.ensures c.put_hex.ensures
