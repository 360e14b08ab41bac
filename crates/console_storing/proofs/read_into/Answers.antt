-- The digits are bytes of the image.
use mathlib.Core.Path.{refl}
use lib.ListN.{drop}
use Rattle.text.specs.Words.{words_of}
use Rattle.console_storing.proofs.Digits.{image_holds}
use Rattle.console_storing.proofs.Reading.{an_image}
use Rattle.console_storing.proofs.read_into.Goals as goal

pub read-requires : goal.read-requires
read-requires c =
    let a = c.args in
    let d = c.in-Some.ensures in (image_holds (words_of (drop a.at a.rest.now)) a.bytes.now _ d.value _ d.bytes_after _ refl).0

pub returns-in-Some : goal.returns-in-Some
returns-in-Some c =
    let a = c.args in
    let d = c.in-Some.ensures in
    let q = an_image (words_of (drop a.at a.rest.now)) a.bytes.now _ d.value _ d.bytes_after a.board a.w a.r a.words.now a.responses.now _ refl _ _ _ (c.read.ensures.value, (c.read.ensures.words_after, c.read.ensures.responses_after)) in record {
      value = q.0;
      words_after = q.1.0;
      responses_after = q.1.1.0;
      bytes_after = q.1.1.1;
    }
