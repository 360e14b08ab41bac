use mathlib.Core.Path.{◌≡◌}
use Rattle.machine.specs.Machine.{bottom}
use Rattle.chains.proofs.syllables.bottom_of.Given as goal

abbrev pub invariant-loop-below : goal.invariant-loop-below
invariant-loop-below l = bottom l.sdr l.below ≡ bottom l.sdr l.i
