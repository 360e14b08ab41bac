use Prim.Native.Nat.{◌-◌}
use mathlib.Core.Path.{◌≡◌}
use lib.ListN.{length}
use Rattle.listing.specs.Lists.{words_text}
use Rattle.output.proofs.Puts.{Rest}
use Rattle.listing.proofs.put_lines.Given as goal

abbrev pub invariant-loop-i : goal.invariant-loop-i
invariant-loop-i l = (length l.out ≡ length l.initial.out) × Rest (words_text l.n 0 l.words l.responses) l.initial.end l.initial.out (words_text (l.n - l.i) l.i l.words l.responses) l.out l.end
