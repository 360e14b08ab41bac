use Rattle.std.proofs.Common.{sym, ◌∙◌, rules}
use Rattle.sweeps.specs.Rules.{flipped}
use Rattle.sweeps.proofs.Along.{start, step, finish, each_is}
use Rattle.sweeps.proofs.flip.Goals as goal

pub loop-response-init : goal.loop-response-init
loop-response-init c = start _ _ _

pub loop-response-preserved : goal.loop-response-preserved
loop-response-preserved c =
    let a = c.args in
    step (λ x r. flipped a.p r) a.responses.now a.responses.now c.loop-response.responses c.loop-response.response-index c.loop-response.invariant c.flipped_of.result
    (search rules) (search rules) c.flipped_of.ensures

pub returns : goal.returns
returns c = finish _ _ _ _ c.loop-response.response-index c.loop-response.invariant (search rules) ∙ sym (each_is _ _)
