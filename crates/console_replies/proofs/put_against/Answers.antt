use Rattle.listing.specs.Lists.{named}
use Rattle.output.proofs.Puts.{puts₂}
use Rattle.console_replies.proofs.put_against.Goals as goal

pub returns : goal.returns
returns c =
    let s = c.args in
    puts₂ (named "syllable " s.syllable.0) (named " against at " s.bit.0) 0 s.out.now (rw c.from.ensures at c.put_named-n.ensures) (rw c.from-2.ensures at c.put_named.ensures)
