use Rattle.std.proofs.Common.{◌≡◌, ℕ, Bool, eqb, get_or, ap, ◌∙◌, rules}
use Rattle.laws.specs.Bits.{pick}
use Rattle.sweeps.specs.declared.Changes.{Changes}
use Rattle.sweeps.specs.Rules.{gated, new}
use Rattle.sweeps.proofs.Along.{start, step, finish}
use Rattle.sweeps.proofs.multi.Invariants.{held}
use Rattle.sweeps.proofs.multi.Goals as goal

kept_is : (write add : Bool) (q : Changes) (x w : ℕ) {y z : ℕ} → y ≡ pick (eqb x 1) z w → z ≡ new write add q w → y ≡ gated write add q x w
unfolding gated
kept_is write add q x w e h = e ∙ ap (λ (z : ℕ). pick (eqb x 1) z w) h

pub loop-i-init : goal.loop-i-init
loop-i-init g c = start _ _ _

pub loop-i-preserved : goal.loop-i-preserved
loop-i-preserved g c =
    let a = c.args in
    step (gated (held g.row.WRITE) (held g.row.ADD) a.q) a.g.now a.words.now c.loop-i.words c.loop-i.i c.loop-i.invariant c.kept.result (search rules) (search rules)
    (kept_is (held g.row.WRITE) (held g.row.ADD) a.q (get_or a.g.now c.loop-i.i 0) (get_or c.loop-i.words c.loop-i.i 0) c.kept.ensures c.new_word.ensures)

pub returns : goal.returns
returns g c = finish _ _ _ _ c.loop-i.i c.loop-i.invariant (search rules)
