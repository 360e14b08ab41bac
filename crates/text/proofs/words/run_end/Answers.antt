use native.Mathlib.Omega.{arith}
use mathlib.Core.Path.{sym, ◌∙◌}
use Rattle.text.specs.Words.{is_space}
use Rattle.text.proofs.Runs.{passes, stops, at_end}
use Rattle.text.proofs.words.run_end.Goals as goal

pub returns-then-not-is_space : goal.returns-then-not-is_space
returns-then-not-is_space c = let l = c.loop-i in let a = c.args in let z = stops (is_space a.spaces) a.line.now l.i (omega arith) (sym c.is_space.ensures ∙ c.if-not-is_space.true) in (omega arith, omega arith, omega (arith, l.invariant, z))

pub loop-i-preserved : goal.loop-i-preserved
loop-i-preserved c = let l = c.loop-i in let a = c.args in let z = passes (is_space a.spaces) a.line.now l.i (omega arith) (sym c.is_space.ensures ∙ c.if-not-is_space.false) in omega (arith, l.invariant, z)

pub returns : goal.returns
returns c = let l = c.loop-i in let a = c.args in let z = at_end (is_space a.spaces) a.line.now l.i (omega arith) in (omega arith, omega arith, omega (arith, l.invariant, z))
