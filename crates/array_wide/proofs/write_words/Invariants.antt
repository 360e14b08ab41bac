use Rattle.laws.specs.Bits.{pick}
use Rattle.array.specs.Words.{word}
use Rattle.array.specs.Selectors.{selected}
use Rattle.array.proofs.Walks.{Walk}
use Rattle.array_wide.specs.Rules.{filled}
use Rattle.array_wide.proofs.write_words.Given as goal

abbrev pub invariant-loop-k : goal.invariant-loop-k
invariant-loop-k l =
    Walk
    (λ w. word (pick (selected l.selector l.form w.selectors) (filled l.mask l.fill w.ones) w.ones)
    (pick (selected l.selector l.form w.selectors) (filled l.mask l.xfill w.xs) w.xs) w.selectors)
    (λ w. selected l.selector l.form w.selectors) l.initial.ones l.initial.xs l.selectors l.ones l.xs l.selectors l.count l.k
