-- From the topmost syllable down.
use mathlib.Core.Path.{◌≡◌}
use Rattle.explainer.specs.Reasons.{topmost}
use Rattle.explainer.proofs.topmost.Given as goal

abbrev pub invariant-loop-t : goal.invariant-loop-t
invariant-loop-t l = topmost l.n l.panel l.w l.t ≡ topmost l.n l.panel l.w l.n
