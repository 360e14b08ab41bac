use Rattle.jobs.proofs.Phases as phases
use Rattle.jobs.proofs.commands.plus.Goals as goal

pub returns : goal.returns
returns c =
    let u = c.response_bit-under in
    let b = c.bit_of in
    let l = c.low_bits in
    rw (c.blank.ensures, c.raising.ensures)
    (phases.plus_is c.args.y u.result l.result b.result c.args.v c.args.s c.requires.width_nonzero.0 c.requires.width_nonzero.1 c.requires.width_nonzero.2 u.ensures (rw (← c.from.ensures) l.ensures) b.ensures)
