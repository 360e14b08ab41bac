use Rattle.text.specs.Ascii.{ascii}
use Rattle.output.specs.Digits.{hex_digits}
use Rattle.output.specs.Digits.{pair}
use Rattle.listing.specs.Lists.{named}
use Rattle.listing.proofs.Answers.{spaced}
use Rattle.listing.proofs.put_line.Goals as goal

pub returns : goal.returns
returns c = let s = c.args in spaced (named "\n" s.i) (ascii " ") (hex_digits 16 s.word) (pair s.response) s.at s.out.now c.put_named-number.ensures c.put_named16-content.ensures c.put_response.ensures
