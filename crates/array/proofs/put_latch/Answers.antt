use mathlib.Core.Bool.{true, false}
use Rattle.array.proofs.Selectors.{put_p, put_s}
use borrow.Author.Rules.{rules}
use Rattle.array.proofs.put_latch.Goals as goal

pub returns-then-on : goal.returns-then-on
returns-then-on c = rw (c.in-P.is, c.if-on.true) (put_p c.args.byte true (search rules))

pub returns-else-on : goal.returns-else-on
returns-else-on c = rw (c.in-P.is, c.if-on.false) (put_p c.args.byte false (search rules))

pub returns-then-on-2 : goal.returns-then-on-2
returns-then-on-2 c = rw (c.in-S.is, c.if-on-2.true) (put_s c.args.byte true (search rules))

pub returns-else-on-2 : goal.returns-else-on-2
returns-else-on-2 c = rw (c.in-S.is, c.if-on-2.false) (put_s c.args.byte false (search rules))
