use Rattle.output.specs.Digits.{pair}
use Rattle.output.proofs.Puts.{puts₂}
use Rattle.output.proofs.put_named2.Goals as goal

pub returns : goal.returns
returns c = let s = c.args in puts₂ s.name.now (pair s.x) s.at s.out.now c.put-n.ensures c.put_pair.ensures
