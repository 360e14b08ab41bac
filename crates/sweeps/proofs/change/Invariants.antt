-- The invariant: a walk along the words beside their response bits, and the count so far. One turn is one block.
use Rattle.std.proofs.Common.{◌≡◌, ◌-◌, length}
use Rattle.sweeps.specs.Rules.{changed, takes}
use Rattle.sweeps.proofs.Along.{Walk, Tally}
use Rattle.sweeps.proofs.change.Given as goal

abbrev pub invariant-loop-i : goal.invariant-loop-i
invariant-loop-i l =
    Walk (changed l.write l.add l.q l.p) l.responses l.initial.words l.words l.i
    × Tally (takes l.p) l.responses l.initial.words l.n l.i
    × (length l.g ≡ 64)

abbrev pub decreases-loop-i : goal.decreases-loop-i
decreases-loop-i l = l.all - l.i
