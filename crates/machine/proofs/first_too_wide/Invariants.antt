use mathlib.Core.Path.{◌≡◌}
use lib.ListN.{drop}
use Rattle.machine.specs.Resolution.{lowest}
use Rattle.machine.specs.Refusals.{too_wide}
use Rattle.machine.proofs.first_too_wide.Given as goal

-- the words from the index on have the lowest of all
abbrev pub invariant-loop-i : goal.invariant-loop-i
invariant-loop-i l = lowest (too_wide l.width) 0 l.words ≡ lowest (too_wide l.width) l.i (drop l.i l.words)
