use Rattle.text.specs.Ascii.{ascii}
use Rattle.output.specs.Digits.{pair, hex_digits}
use Rattle.listing.specs.Lists.{named}
use Rattle.array_replies.proofs.Answers.{spaced}
use Rattle.array_replies.proofs.put_line.Goals as goal

pub returns : goal.returns
returns c = let s = c.args in spaced (named "\n" s.i) (ascii " ") (hex_digits 16 s.one) (hex_digits 16 s.x) (pair s.selectors) s.at s.out.now c.put_named-number.ensures c.put_named16-plane.ensures c.put_named16-planes.ensures c.put_named2.ensures
