-- Word after word: the lines raised so far, with the words still to come, name what all words name.
use Prim.Native.Nat.{◌-◌, ◌≤◌}
use mathlib.Core.Path.{◌≡◌}
use lib.ListN.{length, drop}
use Rattle.text.specs.Words.{words_of}
use Rattle.console_pulsing.specs.Lines.{lines_from, lines_of}
use Rattle.console_pulsing.proofs.read_lines.Given as goal

abbrev pub invariant-loop-at : goal.invariant-loop-at
invariant-loop-at l = (l.at ≤ length l.rest) × (lines_from l.lines (words_of (drop l.at l.rest)) ≡ lines_of (words_of l.rest))

abbrev pub decreases-loop-at : goal.decreases-loop-at
decreases-loop-at l = length l.rest - l.at
