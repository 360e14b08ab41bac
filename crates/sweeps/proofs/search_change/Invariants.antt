-- The invariant: a walk along the words and one along the response bits, both from the lists at entry, and the count so far. One turn is one block.
use Rattle.std.proofs.Common.{◌≡◌, ◌-◌, length}
use Rattle.sweeps.specs.Rules.{found, answer, changed}
use Rattle.sweeps.proofs.Along.{Walk, Tally}
use Rattle.sweeps.proofs.search_change.Given as goal

abbrev pub invariant-loop-i : goal.invariant-loop-i
invariant-loop-i l =
    Walk (changed l.write l.add l.q l.p) l.initial.responses l.initial.words l.words l.i
    × Walk (answer l.m l.p) l.initial.words l.initial.responses l.responses l.i
    × Tally (found l.m l.p) l.initial.words l.initial.responses l.n l.i
    × (length l.h ≡ 64)
    × (length l.g ≡ 64)

abbrev pub decreases-loop-i : goal.decreases-loop-i
decreases-loop-i l = l.all - l.i
