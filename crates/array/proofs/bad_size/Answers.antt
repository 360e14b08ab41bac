use Rattle.array.specs.Refusals.{bad_sizes}
use Rattle.array.proofs.bad_size.Goals as goal

pub returns : goal.returns
unfolding bad_sizes
returns c = rw (c.bad_size.ensures, c.bad_size-2.ensures)
