use Rattle.machine.specs.Cells.{cells_match}
use Rattle.chains.proofs.search.is_match.Goals as goal

pub returns : goal.returns
unfolding cells_match
returns c = rw (c.is_selected.ensures, c.all_accepted.ensures)
