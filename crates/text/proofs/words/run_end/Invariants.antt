use Prim.Native.Nat.{◌+◌}
use mathlib.Core.Path.{◌≡◌}
use lib.ListN.{drop}
use Rattle.text.specs.Words.{ahead, is_space, end_of}
use Rattle.text.proofs.words.run_end.Given as goal

abbrev pub invariant-loop-i : goal.invariant-loop-i
invariant-loop-i l = l.i + ahead (is_space l.spaces) (drop l.i l.line) ≡ end_of l.spaces l.line l.at
