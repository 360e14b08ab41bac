use native.Mathlib.Omega.{arith}
use Rattle.console_storing.proofs.Digits.{two_words, one_word}
use mathlib.Core.Bool.{not as opposite}
use mathlib.Core.Path.{ap as along}
use Rattle.console_storing.proofs.read_digits.Goals as goal

pub returns-then-not-none_left : goal.returns-then-not-none_left
returns-then-not-none_left c = let a = c.args in let p = c.next-word in let n = c.none_left in let q = two_words a.rest.now a.at (omega arith) p.result p.ensures.value (omega arith) n.result n.ensures a.bytes.now (along opposite c.if-not-none_left.true) in record {
  value = q.0;
  bytes_after = q.1;
}

pub returns : goal.returns
returns c = let a = c.args in let p = c.next-word in let n = c.none_left in let f = c.bytes in let q = one_word a.rest.now a.at (omega arith) p.result p.ensures.value (omega arith) n.result n.ensures a.bytes.now (along opposite c.if-not-none_left.false) f.result f.ensures.value _ f.ensures.out_after in record {
  value = q.0;
  bytes_after = q.1;
}
