use mathlib.Core.Path.{◌≡◌}
use lib.ListN.{length, drop}
use Rattle.output.proofs.Puts.{Rest}
use Rattle.output.proofs.put.Given as goal

abbrev pub invariant-loop-byte : goal.invariant-loop-byte
invariant-loop-byte l = (length l.out ≡ length l.initial.out) × Rest l.s l.at l.initial.out (drop l.byte-index l.s) l.out l.n
