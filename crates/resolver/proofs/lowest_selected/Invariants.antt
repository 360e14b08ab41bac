-- No response below i is selected: the lowest from i on is the lowest of all.
use mathlib.Core.Path.{◌≡◌}
use lib.ListN.{drop}
use Rattle.machine.specs.Machine.{selected}
use Rattle.machine.specs.Resolution.{lowest}
use Rattle.resolver.proofs.lowest_selected.Given as goal

abbrev pub invariant-loop-i : goal.invariant-loop-i
invariant-loop-i l =
    lowest (selected l.key l.care) 0 l.responses ≡ lowest (selected l.key l.care) l.i (drop l.i l.responses)
