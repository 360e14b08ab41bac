-- The invariant: a walk along the response bits.
use Rattle.sweeps.specs.Rules.{flipped}
use Rattle.sweeps.proofs.Along.{Walk}
use Rattle.sweeps.proofs.flip.Given as goal

abbrev pub invariant-loop-response : goal.invariant-loop-response
invariant-loop-response l = Walk (λ x r. flipped l.p r) l.initial.responses l.initial.responses l.responses l.response-index
