use native.Mathlib.Omega.{arith}
use mathlib.Core.Path.{refl}
use borrow.Author.Rules.{rules}
use Rattle.text.specs.Words.{words_of}
use Rattle.console.specs.Obeying.{desk}
use Rattle.console.proofs.Arms.{change_arm, change_other}
use Rattle.console.proofs.change.Goals as goal

pub returns-in-0 : goal.returns-in-0
returns-in-0 c = let a = c.args in let q = change_arm (desk a.board a.words.now a.responses.now a.bytes.now) a.name.now (words_of a.rest.now) c.which.result c.which.ensures 0 (omega arith) _ _ _ _ c.load.ensures refl refl refl in record {
  value = q.0;
  words_after = q.1.0;
  responses_after = q.1.1.0;
  bytes_after = q.1.1.1;
}

pub returns-in-1 : goal.returns-in-1
returns-in-1 c = let a = c.args in let q = change_arm (desk a.board a.words.now a.responses.now a.bytes.now) a.name.now (words_of a.rest.now) c.which.result c.which.ensures 1 (omega arith) _ _ _ _ c.write_job.ensures refl refl refl in record {
  value = q.0;
  words_after = q.1.0;
  responses_after = q.1.1.0;
  bytes_after = q.1.1.1;
}

pub returns-in-2 : goal.returns-in-2
returns-in-2 c = let a = c.args in let q = change_arm (desk a.board a.words.now a.responses.now a.bytes.now) a.name.now (words_of a.rest.now) c.which.result c.which.ensures 2 (omega arith) _ _ _ _ c.drop_job.ensures refl refl refl in record {
  value = q.0;
  words_after = q.1.0;
  responses_after = q.1.1.0;
  bytes_after = q.1.1.1;
}

pub returns-in-3 : goal.returns-in-3
returns-in-3 c = let a = c.args in let q = change_arm (desk a.board a.words.now a.responses.now a.bytes.now) a.name.now (words_of a.rest.now) c.which.result c.which.ensures 3 (omega arith) _ _ _ _ c.start.ensures refl refl refl in record {
  value = q.0;
  words_after = q.1.0;
  responses_after = q.1.1.0;
  bytes_after = q.1.1.1;
}

pub returns-in-4 : goal.returns-in-4
returns-in-4 c = let a = c.args in let q = change_arm (desk a.board a.words.now a.responses.now a.bytes.now) a.name.now (words_of a.rest.now) c.which.result c.which.ensures 4 (omega arith) _ _ _ _ c.step.ensures.value c.step.ensures.words_after c.step.ensures.responses_after refl in record {
  value = q.0;
  words_after = q.1.0;
  responses_after = q.1.1.0;
  bytes_after = q.1.1.1;
}

pub returns-in-5 : goal.returns-in-5
returns-in-5 c = let a = c.args in let q = change_arm (desk a.board a.words.now a.responses.now a.bytes.now) a.name.now (words_of a.rest.now) c.which.result c.which.ensures 5 (omega arith) _ _ _ _ c.run.ensures.value c.run.ensures.words_after c.run.ensures.responses_after refl in record {
  value = q.0;
  words_after = q.1.0;
  responses_after = q.1.1.0;
  bytes_after = q.1.1.1;
}

pub returns-in_default : goal.returns-in_default
returns-in_default c = let a = c.args in let q = change_other (desk a.board a.words.now a.responses.now a.bytes.now) a.name.now (words_of a.rest.now) c.which.result c.which.ensures (search rules) _ _ _ _ c.mark.ensures.value c.mark.ensures.words_after c.mark.ensures.responses_after c.mark.ensures.bytes_after in record {
  value = q.0;
  words_after = q.1.0;
  responses_after = q.1.1.0;
  bytes_after = q.1.1.1;
}
