use Rattle.job_tally.proofs.Extremes as extremes
use lib.ListN.{drop}
use Rattle.job_tally.proofs.totals.extreme_of.Given as goal

abbrev pub invariant-loop-k : goal.invariant-loop-k
invariant-loop-k l = extremes.Seen l.o l.small l.words l.responses (drop l.k l.words) (drop l.k l.responses) l.best
