use native.Mathlib.Omega.{arith}
use mathlib.Core.Path.{refl}
use borrow.Author.Rules.{rules}
use Rattle.text.specs.Words.{words_of}
use Rattle.console.specs.Obeying.{desk}
use Rattle.console.proofs.Arms.{mark_arm, mark_other}
use Rattle.console.proofs.mark.Goals as goal

pub returns-in-0 : goal.returns-in-0
returns-in-0 c = let a = c.args in let q = mark_arm (desk a.board a.words.now a.responses.now a.bytes.now) a.name.now (words_of a.rest.now) c.which.result c.which.ensures 0 (omega arith) _ _ _ _ c.write_word.ensures.value c.write_word.ensures.words_after refl refl in record {
  value = q.0;
  words_after = q.1.0;
  responses_after = q.1.1.0;
  bytes_after = q.1.1.1;
}

pub returns-in-1 : goal.returns-in-1
returns-in-1 c = let a = c.args in let q = mark_arm (desk a.board a.words.now a.responses.now a.bytes.now) a.name.now (words_of a.rest.now) c.which.result c.which.ensures 1 (omega arith) _ _ _ _ c.write_response.ensures.value refl c.write_response.ensures.responses_after refl in record {
  value = q.0;
  words_after = q.1.0;
  responses_after = q.1.1.0;
  bytes_after = q.1.1.1;
}

pub returns-in-2 : goal.returns-in-2
returns-in-2 c = let a = c.args in let q = mark_arm (desk a.board a.words.now a.responses.now a.bytes.now) a.name.now (words_of a.rest.now) c.which.result c.which.ensures 2 (omega arith) _ _ _ _ c.pulse.ensures.value c.pulse.ensures.words_after c.pulse.ensures.responses_after refl in record {
  value = q.0;
  words_after = q.1.0;
  responses_after = q.1.1.0;
  bytes_after = q.1.1.1;
}

pub returns-in-3 : goal.returns-in-3
returns-in-3 c = let a = c.args in let q = mark_arm (desk a.board a.words.now a.responses.now a.bytes.now) a.name.now (words_of a.rest.now) c.which.result c.which.ensures 3 (omega arith) _ _ _ _ c.pulse-in-3.ensures.value c.pulse-in-3.ensures.words_after c.pulse-in-3.ensures.responses_after refl in record {
  value = q.0;
  words_after = q.1.0;
  responses_after = q.1.1.0;
  bytes_after = q.1.1.1;
}

pub returns-in-4 : goal.returns-in-4
returns-in-4 c = let a = c.args in let q = mark_arm (desk a.board a.words.now a.responses.now a.bytes.now) a.name.now (words_of a.rest.now) c.which.result c.which.ensures 4 (omega arith) _ _ _ _ c.answer.ensures.value refl c.answer.ensures.responses_after refl in record {
  value = q.0;
  words_after = q.1.0;
  responses_after = q.1.1.0;
  bytes_after = q.1.1.1;
}

pub returns-in-5 : goal.returns-in-5
returns-in-5 c = let a = c.args in let q = mark_arm (desk a.board a.words.now a.responses.now a.bytes.now) a.name.now (words_of a.rest.now) c.which.result c.which.ensures 5 (omega arith) _ _ _ _ c.answer-in-5.ensures.value refl c.answer-in-5.ensures.responses_after refl in record {
  value = q.0;
  words_after = q.1.0;
  responses_after = q.1.1.0;
  bytes_after = q.1.1.1;
}

pub returns-in_default : goal.returns-in_default
returns-in_default c = let a = c.args in let q = mark_other (desk a.board a.words.now a.responses.now a.bytes.now) a.name.now (words_of a.rest.now) c.which.result c.which.ensures (search rules) _ _ c.look.ensures.value c.look.ensures.bytes_after in record {
  value = q.0;
  words_after = q.1.0;
  responses_after = q.1.1.0;
  bytes_after = q.1.1.1;
}
