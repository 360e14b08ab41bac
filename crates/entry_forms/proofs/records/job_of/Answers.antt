use Rattle.entry_forms.proofs.Recorded.{job_read}
use Rattle.entry_forms.proofs.records.job_of.Goals as goal

pub returns : goal.returns
returns c = rw (c.unwrap_or.ensures, c.held_of.ensures, c.no_job.ensures) (job_read c.args.job.now)
