-- The invariant: a walk along the response bits beside the words, the count so far, and h's length. One turn is one block.
use Rattle.std.proofs.Common.{◌≡◌, ◌-◌, length}
use Rattle.sweeps.specs.Rules.{found, answer}
use Rattle.sweeps.proofs.Along.{Walk, Tally}
use Rattle.sweeps.proofs.search.Given as goal

abbrev pub invariant-loop-i : goal.invariant-loop-i
invariant-loop-i l = Walk (answer l.m l.p) l.words l.initial.responses l.responses l.i × Tally (found l.m l.p) l.words l.initial.responses l.n l.i × (length l.h ≡ 64)

abbrev pub decreases-loop-i : goal.decreases-loop-i
decreases-loop-i l = l.all - l.i
