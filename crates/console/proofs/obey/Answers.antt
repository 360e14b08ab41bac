use native.Mathlib.Omega.{arith}
use Rattle.console.specs.Obeying.{desk}
use Rattle.console.proofs.Arms.{obey_none, obey_name}
use Rattle.console.proofs.obey.Goals as goal

pub returns-then-word : goal.returns-then-word
returns-then-word c = let a = c.args in let n = c.next-word in let q = obey_none (desk a.board a.words.now a.responses.now a.bytes.now) a.line.now n.result n.ensures.value (omega arith) _ c.bad_line.ensures in record {
  value = q.0;
  words_after = q.1.0;
  responses_after = q.1.1.0;
  bytes_after = q.1.1.1;
}

pub returns : goal.returns
returns c = let a = c.args in let n = c.next-word in let q = obey_name (desk a.board a.words.now a.responses.now a.bytes.now) a.line.now n.result n.ensures.value (omega arith) _ _ _ _ c.by_name.ensures.value c.by_name.ensures.words_after c.by_name.ensures.responses_after c.by_name.ensures.bytes_after in record {
  value = q.0;
  words_after = q.1.0;
  responses_after = q.1.1.0;
  bytes_after = q.1.1.1;
}
