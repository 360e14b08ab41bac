use borrow.Author.Rules.{rules}
use Rattle.machine.proofs.Refusals.{above, never}
use Rattle.machine.proofs.too_wide.Goals as goal

pub returns-then-width-lt64 : goal.returns-then-width-lt64
returns-then-width-lt64 c = above c.args.width c.args.x

pub returns-else-width-lt64 : goal.returns-else-width-lt64
returns-else-width-lt64 c = never c.args.width c.args.x (search rules) c.ranges.x.fits
