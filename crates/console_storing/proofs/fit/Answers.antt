-- One of the lengths is bad or missing, or both are there.
use mathlib.Core.Path.{refl}
use native.Mathlib.Omega.{arith}
use Rattle.console_storing.proofs.Fitting.{way, first_bad, second_bad, both_good}
use Rattle.console_storing.proofs.fit.Goals as goal

pub returns-in_default : goal.returns-in_default
returns-in_default c =
    let a = c.args in
    let p = c.next-first in
    let q = c.next-second in
    let n = c.read_one in
    let t = first_bad a.board a.words.now a.responses.now a.bytes.now (way a.rest.now p.result q.result p.ensures.value q.ensures.value (omega arith) n.result _ n.ensures refl) c.in_default.is _ c.bad_line.ensures in record {
      value = t.0;
      words_after = t.1.0;
      responses_after = t.1.1.0;
      bytes_after = t.1.1.1;
    }

pub returns-in_default-read_one : goal.returns-in_default-read_one
returns-in_default-read_one c =
    let a = c.args in
    let p = c.next-first in
    let q = c.next-second in
    let n = c.read_one in
    let m = c.read_one-2 in
    let t = second_bad a.board a.words.now a.responses.now a.bytes.now _ c.in-Some.is (way a.rest.now p.result q.result p.ensures.value q.ensures.value (omega arith) n.result m.result n.ensures m.ensures) c.in_default-read_one.is _ c.bad_line-in_default-read_one.ensures in record {
      value = t.0;
      words_after = t.1.0;
      responses_after = t.1.1.0;
      bytes_after = t.1.1.1;
    }

pub returns : goal.returns
returns c =
    let a = c.args in
    let p = c.next-first in
    let q = c.next-second in
    let n = c.read_one in
    let m = c.read_one-2 in
    let i = c.read_into.ensures in
    let t = both_good a.board a.words.now a.responses.now a.bytes.now _ c.in-Some.is (way a.rest.now p.result q.result p.ensures.value q.ensures.value (omega arith) n.result m.result n.ensures m.ensures) _ c.in-Some-read_one.is _ _ _ _ (i.value, (i.words_after, (i.responses_after, i.bytes_after))) in record {
      value = t.0;
      words_after = t.1.0;
      responses_after = t.1.1.0;
      bytes_after = t.1.1.1;
    }
