use mathlib.Core.Path.{◌≡◌, refl}
use mathlib.Core.Bool.{true, false}
use native.Mathlib.Omega.{arith}
use borrow.Author.Rules.{rules}
use Rattle.std.proofs.lemmas.Iterator.{cases_from_all, YieldsList-from_range}
use Rattle.machine.specs.Cells.{accepted}
use Rattle.chains.specs.Walks.{here}
use Rattle.chains.proofs.Steps.{all_here}
use Rattle.chains.proofs.search.all_accepted.Goals as goal

pub returns : goal.returns
returns c =
    let a = c.args in
    all_here (accepted a.panel a.w) a.n a.panel.sdr c.all.result
    (cases_from_all _ _ _ (λ i. here (accepted a.panel a.w) a.n a.panel.sdr i ≡ true) (λ i. here (accepted a.panel a.w) a.n a.panel.sdr i ≡ false) c.all.ensures.ran
    (YieldsList-from_range 0 a.n a.n refl (omega arith)) (λ x q k. search rules) (λ x q k. search rules))
