-- The invariant: the choices of the words passed stand in g, and the count so far.
use Rattle.std.proofs.Common.{◌≡◌, ℕ, ◌<◌, length, get_or}
use Rattle.sweeps.specs.Rules.{chosen, choice}
use Rattle.sweeps.proofs.Along.{Tally}
use Rattle.sweeps.proofs.choices.Given as goal

abbrev pub invariant-loop-i : goal.invariant-loop-i
invariant-loop-i l =
    ((j : ℕ) → j < l.i → get_or l.g j 0 ≡ choice l.p (get_or l.responses j 0))
    × (length l.g ≡ 64)
    × Tally (λ x r. chosen l.p r) l.responses l.responses l.n l.i
