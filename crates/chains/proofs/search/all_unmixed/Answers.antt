use mathlib.Core.Path.{◌≡◌, refl}
use mathlib.Core.Bool.{true, false}
use native.Mathlib.Omega.{arith}
use borrow.Author.Rules.{rules}
use Rattle.std.proofs.lemmas.Iterator.{cases_from_all, YieldsList-from_range}
use Rattle.machine.specs.Search.{unmixed}
use Rattle.chains.specs.Walks.{here}
use Rattle.chains.proofs.Steps.{all_here}
use Rattle.chains.proofs.search.all_unmixed.Goals as goal

pub returns : goal.returns
returns c =
    let a = c.args in
    all_here (unmixed a.panel) a.n a.panel.sdr c.all.result
    (cases_from_all _ _ _ (λ i. here (unmixed a.panel) a.n a.panel.sdr i ≡ true) (λ i. here (unmixed a.panel) a.n a.panel.sdr i ≡ false) c.all.ensures.ran
    (YieldsList-from_range 0 a.n a.n refl (omega arith)) (λ x q k. search rules) (λ x q k. search rules))
