use Rattle.array.specs.Words.{word}
use Rattle.array.specs.Selectors.{marked}
use Rattle.array.proofs.Walks.{Walk}
use Rattle.array_wide.specs.Rules.{agreeing}
use Rattle.array_wide.proofs.search_words.Given as goal

abbrev pub invariant-loop-k : goal.invariant-loop-k
invariant-loop-k l =
    Walk (λ w. word w.ones w.xs (marked l.wanted l.destination l.combine (agreeing l.datum l.mask w) w.selectors)) (agreeing l.datum l.mask)
    l.ones l.xs l.initial.selectors l.ones l.xs l.selectors l.count l.k
