use native.Mathlib.Omega.{arith}
use mathlib.Core.Path.{refl}
use borrow.Author.Rules.{rules}
use Rattle.text.specs.Words.{words_of}
use Rattle.console.specs.Obeying.{desk}
use Rattle.console.proofs.Arms.{name_arm, name_other}
use Rattle.console.proofs.by_name.Goals as goal

pub returns-in-0 : goal.returns-in-0
returns-in-0 c = let a = c.args in let q = name_arm (desk a.board a.words.now a.responses.now a.bytes.now) a.name.now (words_of a.rest.now) c.which.result c.which.ensures 0 (omega arith) _ _ _ _ c.make.ensures.value c.make.ensures.words_after c.make.ensures.responses_after refl in record {
  value = q.0;
  words_after = q.1.0;
  responses_after = q.1.1.0;
  bytes_after = q.1.1.1;
}

pub returns-in-1 : goal.returns-in-1
returns-in-1 c = let a = c.args in let q = name_arm (desk a.board a.words.now a.responses.now a.bytes.now) a.name.now (words_of a.rest.now) c.which.result c.which.ensures 1 (omega arith) _ _ _ _ c.lend.ensures.value refl c.lend.ensures.responses_after refl in record {
  value = q.0;
  words_after = q.1.0;
  responses_after = q.1.1.0;
  bytes_after = q.1.1.1;
}

pub returns-in-2 : goal.returns-in-2
returns-in-2 c = let a = c.args in let q = name_arm (desk a.board a.words.now a.responses.now a.bytes.now) a.name.now (words_of a.rest.now) c.which.result c.which.ensures 2 (omega arith) _ _ _ _ c.resume.ensures.value c.resume.ensures.words_after c.resume.ensures.responses_after c.resume.ensures.bytes_after in record {
  value = q.0;
  words_after = q.1.0;
  responses_after = q.1.1.0;
  bytes_after = q.1.1.1;
}

pub returns-in-3 : goal.returns-in-3
returns-in-3 c = let a = c.args in let q = name_arm (desk a.board a.words.now a.responses.now a.bytes.now) a.name.now (words_of a.rest.now) c.which.result c.which.ensures 3 (omega arith) _ _ _ _ c.fit.ensures.value c.fit.ensures.words_after c.fit.ensures.responses_after c.fit.ensures.bytes_after in record {
  value = q.0;
  words_after = q.1.0;
  responses_after = q.1.1.0;
  bytes_after = q.1.1.1;
}

pub returns-in_default : goal.returns-in_default
returns-in_default c = let a = c.args in let q = name_other (desk a.board a.words.now a.responses.now a.bytes.now) a.name.now (words_of a.rest.now) c.which.result c.which.ensures (search rules) _ _ _ _ c.on_machine.ensures.value c.on_machine.ensures.words_after c.on_machine.ensures.responses_after c.on_machine.ensures.bytes_after in record {
  value = q.0;
  words_after = q.1.0;
  responses_after = q.1.1.0;
  bytes_after = q.1.1.1;
}
