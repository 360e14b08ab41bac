use Prim.Native.Nat.{◌≤◌}
use mathlib.Core.Path.{◌≡◌}
use lib.ListN.{length, drop, replicate}
use lib.Seq.{sets}
use Rattle.text.specs.Rows.{fitting, numbers_of}
use Rattle.text.specs.Words.{words_of}
use Rattle.text.proofs.arguments.read.Given as goal

abbrev pub invariant-loop-i : goal.invariant-loop-i
invariant-loop-i l = (l.at ≤ length l.line) × (fitting (drop l.i l.letters) (words_of (drop l.at l.line)) ≡ fitting l.letters (words_of l.line)) × (length l.letters ≤ 16 → sets l.values l.i (numbers_of (drop l.i l.letters) (words_of (drop l.at l.line))) ≡ sets (replicate 16 0) 0 (numbers_of l.letters (words_of l.line)))
