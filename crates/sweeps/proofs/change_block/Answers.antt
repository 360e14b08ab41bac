-- Where neither is asked for, nothing changes.
use Rattle.std.proofs.Common.{◌≡◌, ℕ, Bool, true, false, eqb, refl}
use Rattle.laws.specs.Bits.{pick}
use Rattle.sweeps.specs.declared.Changes.{Changes}
use Rattle.sweeps.specs.Rules.{gated, new}
use Rattle.sweeps.proofs.Along.{along_same}
use Rattle.sweeps.proofs.change_block.Goals as goal

unchanged : (q : Changes) (x w : ℕ) → gated false false q x w ≡ w
unfolding gated new
unchanged q x w = same (eqb x 1)
  where
    same : (t : Bool) → pick t w w ≡ w
    same true = refl
    same false = refl

pub returns-in-false-false : goal.returns-in-false-false
returns-in-false-false c =
    let a = c.args in
    rw (c.in-false-false.is-0, c.in-false-false.is-1) (along_same _ (unchanged a.q) a.g.now a.words.now)
