-- A syllable's cells from its top bit down.
use mathlib.Core.Path.{◌≡◌}
use Rattle.machine.specs.declared.Status.TheVariants.{Equal}
use Rattle.chains.specs.Walks.{syllable}
use Rattle.explainer.specs.Reasons.{down_through}
use Rattle.explainer.proofs.down_through.Given as goal

abbrev pub invariant-loop-j : goal.invariant-loop-j
invariant-loop-j l =
    down_through l.panel l.w l.top (syllable l.y.low l.y.width) l.j l.status ≡ down_through l.panel l.w l.top (syllable l.y.low l.y.width) l.y.width Equal
