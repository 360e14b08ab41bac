use Rattle.image_layout.specs.Format.{value}
use Rattle.entry_forms.proofs.records.no_job.Goals as goal

pub returns : goal.returns
unfolding value
returns c = rw (c.none.ensures, c.none-2.ensures, c.none-3.ensures)
