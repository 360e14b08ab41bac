use mathlib.Core.Path.{◌≡◌}
use lib.ListN.{length}
use Rattle.output.specs.Digits.{hex_digits}
use Rattle.output.proofs.Puts.{Rest}
use Rattle.output.proofs.put_hex.Given as goal

abbrev pub invariant-loop-left : goal.invariant-loop-left
invariant-loop-left l = (length l.out ≡ length l.initial.out) × Rest (hex_digits l.digits l.x) l.at l.initial.out (hex_digits l.left l.x) l.out l.n
