use Rattle.text.specs.Ascii.{ascii}
use Rattle.listing.specs.Lists.{named}
use Rattle.output.proofs.Puts.{puts₂}
use Rattle.console_replies.proofs.put_equal.Goals as goal

pub returns : goal.returns
returns c = let s = c.args in puts₂ (named "syllable " s.syllable.0) (ascii " equal to the bottom") 0 s.out.now (rw c.from.ensures at c.put_named-n.ensures) c.put.ensures
