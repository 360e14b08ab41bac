use mathlib.Core.Path.{◌≡◌}
use Rattle.array.specs.Words.{words, lowest_word}
use Rattle.array.specs.Refusals.{word_too_wide, first_too_wide}
use Rattle.array.proofs.Walks.{words_from}
use Rattle.array.proofs.first_too_wide.Given as goal

-- the words from the index on have the lowest of all
abbrev pub invariant-loop-k : goal.invariant-loop-k
invariant-loop-k l = lowest_word (word_too_wide l.width) l.k (words_from l.ones l.xs l.selectors l.k) ≡ first_too_wide l.width (words l.ones l.xs l.selectors)
