use mathlib.Core.Path.{◌≡◌}
use mathlib.Core.Bool.{◌&&◌}
use lib.Dec.{eqb}
use Rattle.laws.specs.Lists.{all}
use Rattle.array.specs.Words.{words}
use Rattle.array.proofs.Walks.{words_from}
use Rattle.array.proofs.Words.{apart}
use Rattle.array.proofs.bad_cells.Given as goal

-- what is in common so far, and the words from the index on, say it of all
abbrev pub invariant-loop-k : goal.invariant-loop-k
invariant-loop-k l = (eqb l.common 0 && all apart (words_from l.ones l.xs l.selectors l.k)) ≡ all apart (words l.ones l.xs l.selectors)
