use Prim.Native.Nat.{◌+◌, ◌-◌, ◌≤◌}
use mathlib.Core.Path.{◌≡◌}
use lib.ListN.{length, drop}
use Rattle.text.specs.Words.{place_of, words_of}
use Rattle.text.proofs.words.which.Given as goal

abbrev pub invariant-loop-at : goal.invariant-loop-at
invariant-loop-at l = (l.number ≤ l.at) × (l.at ≤ length l.names) × (l.number + place_of l.word (words_of (drop l.at l.names)) ≡ place_of l.word (words_of l.names))

abbrev pub decreases-loop-at : goal.decreases-loop-at
decreases-loop-at l = length l.names - l.at
