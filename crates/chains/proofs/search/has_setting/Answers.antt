use mathlib.Core.Path.{◌≡◌, refl}
use mathlib.Core.Bool.{true, false}
use Prim.Native.Nat.{◌+◌}
use native.Mathlib.Omega.{arith}
use borrow.Author.Rules.{rules}
use Rattle.std.proofs.lemmas.Iterator.{cases_from_all, YieldsList-from_range}
use Rattle.machine.specs.Search.{code_at, or_equal}
use Rattle.chains.specs.Walks.{or_setting}
use Rattle.chains.proofs.Steps.{every_over}
use Rattle.chains.proofs.search.has_setting.Goals as goal

pub returns : goal.returns
returns c =
    let a = c.args in
    every_over (λ i. or_setting a.wanted (code_at a.panel i) (or_equal a.panel i)) a.y.low a.y.width c.all.result
    (cases_from_all _ _ _ (λ i. or_setting a.wanted (code_at a.panel i) (or_equal a.panel i) ≡ true) (λ i. or_setting a.wanted (code_at a.panel i) (or_equal a.panel i) ≡ false) c.all.ensures.ran
    (YieldsList-from_range a.y.low (a.y.low + a.y.width) a.y.width refl (omega arith)) (λ x q k. search rules) (λ x q k. search rules))
