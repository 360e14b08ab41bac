use Rattle.listing.specs.Lists.{named, named16}
use Rattle.output.proofs.Puts.{puts₂}
use Rattle.console_replies.proofs.put_pulsed.Goals as goal

pub returns : goal.returns
returns c = let s = c.args in puts₂ (named "count " s.count) (named16 " read " s.read) 0 s.out.now c.put_named-n.ensures c.put_named16.ensures
