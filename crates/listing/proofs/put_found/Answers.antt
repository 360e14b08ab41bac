use Rattle.listing.specs.Lists.{named, words_text}
use Rattle.output.proofs.Puts.{puts₃}
use Rattle.listing.proofs.put_found.Goals as goal

pub returns-in-Ok : goal.returns-in-Ok
returns-in-Ok c = let s = c.args in let m = c.in-Ok.loaded in rw c.in-Ok.is (puts₃ (named "words " m.words) (named " width " m.width) (words_text m.words 0 s.words.now s.responses.now) 0 s.out.now c.put_named-head.ensures (rw c.from.ensures at c.put_named-at.ensures) c.put_lines.ensures)
