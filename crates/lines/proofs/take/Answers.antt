use mathlib.Core.Path.{refl}
use native.Mathlib.Omega.{arith}
use Rattle.lines.specs.Pieces.{between}
use Rattle.lines.proofs.Growing.{grows_part, grows_whole}
use Rattle.lines.proofs.take.Goals as goal

pub returns-in-Some : goal.returns-in-Some
returns-in-Some c = let a = c.args in let n = c.in-Some in record {
  by_index = grows_part (between a.reader.now.from a.reader.now.to a.chunk.now) n.end _ _ _ _ n.ensures.0 c.extend.ensures;
  reader_value = λ h. (rw n.ensures.0, refl);
}

pub returns-in-None : goal.returns-in-None
returns-in-None c = let a = c.args in let n = c.in-None in record {
  by_index = grows_whole (between a.reader.now.from a.reader.now.to a.chunk.now) _ _ _ _ n.ensures c.extend-in-None.ensures;
  reader_value = λ h. let z : ⊥ = omega (arith, n.ensures) in absurd z;
}
