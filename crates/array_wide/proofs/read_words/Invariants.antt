use mathlib.Core.Path.{◌≡◌}
use lib.Bits.{bit_or}
use Rattle.array.specs.Words.{words}
use Rattle.array.specs.Selectors.{selected}
use Rattle.array.proofs.Walks.{Walk, words_from}
use Rattle.array_wide.specs.Rules.{union}
use Rattle.array_wide.proofs.read_words.Given as goal

abbrev pub invariant-loop-k : goal.invariant-loop-k
invariant-loop-k l =
    Walk (λ w. w) (λ w. selected l.selector l.form w.selectors) l.ones l.xs l.selectors l.ones l.xs l.selectors l.count l.k
    × (bit_or l.value (union (selected l.selector l.form) (words_from l.ones l.xs l.selectors l.k)) ≡ union (selected l.selector l.form) (words l.ones l.xs l.selectors))
