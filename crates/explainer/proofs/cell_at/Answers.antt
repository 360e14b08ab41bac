use Rattle.explainer.proofs.cell_at.Goals as goal

pub returns : goal.returns
returns c = rw (c.code_at.ensures, c.bit_of.ensures.0, c.bit_of-2.ensures.0) at c.pass_on.ensures
