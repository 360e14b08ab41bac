use mathlib.Core.Path.{◌≡◌, refl}
use mathlib.Core.Bool.{true, false}
use Prim.Native.Nat.{◌+◌}
use native.Mathlib.Omega.{arith}
use borrow.Author.Rules.{rules}
use Rattle.std.proofs.lemmas.Iterator.{cases_from_all, YieldsList-from_range}
use Rattle.machine.specs.Search.{code_at, or_equal}
use Rattle.machine.specs.Cells.{status_of, wants, accepted}
use Rattle.chains.specs.Walks.{syllable}
use Rattle.chains.proofs.Steps.{every_over}
use Rattle.chains.proofs.search.is_accepted.Goals as goal

pub returns : goal.returns
unfolding accepted
returns c =
    let a = c.args in
    every_over (λ i. wants (code_at a.panel i) (or_equal a.panel i) (status_of a.panel a.w (syllable a.y.low a.y.width))) a.y.low a.y.width c.all.result
    (cases_from_all _ _ _ (λ i. wants (code_at a.panel i) (or_equal a.panel i) (status_of a.panel a.w (syllable a.y.low a.y.width)) ≡ true) (λ i. wants (code_at a.panel i) (or_equal a.panel i) (status_of a.panel a.w (syllable a.y.low a.y.width)) ≡ false) c.all.ensures.ran
    (YieldsList-from_range a.y.low (a.y.low + a.y.width) a.y.width refl (omega arith)) (λ x q k. search rules) (λ x q k. search rules))
