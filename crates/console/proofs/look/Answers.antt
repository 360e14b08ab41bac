use native.Mathlib.Omega.{arith}
use mathlib.Core.Path.{refl}
use borrow.Author.Rules.{rules}
use Rattle.text.specs.Words.{words_of}
use Rattle.console.specs.Obeying.{desk}
use Rattle.console.proofs.Arms.{look_arm, look_other}
use Rattle.console.proofs.look.Goals as goal

pub returns-in-0 : goal.returns-in-0
returns-in-0 c = let a = c.args in let q = look_arm (desk a.board a.words.now a.responses.now a.bytes.now) a.name.now (words_of a.rest.now) c.which.result c.which.ensures 0 (omega arith) _ _ c.tell_panel.ensures refl in record {
  value = q.0;
  bytes_after = q.1;
}

pub returns-in-1 : goal.returns-in-1
returns-in-1 c = let a = c.args in let q = look_arm (desk a.board a.words.now a.responses.now a.bytes.now) a.name.now (words_of a.rest.now) c.which.result c.which.ensures 1 (omega arith) _ _ c.resolve.ensures refl in record {
  value = q.0;
  bytes_after = q.1;
}

pub returns-in-2 : goal.returns-in-2
returns-in-2 c = let a = c.args in let q = look_arm (desk a.board a.words.now a.responses.now a.bytes.now) a.name.now (words_of a.rest.now) c.which.result c.which.ensures 2 (omega arith) _ _ c.resolve-in-2.ensures refl in record {
  value = q.0;
  bytes_after = q.1;
}

pub returns-in-3 : goal.returns-in-3
returns-in-3 c = let a = c.args in let q = look_arm (desk a.board a.words.now a.responses.now a.bytes.now) a.name.now (words_of a.rest.now) c.which.result c.which.ensures 3 (omega arith) _ _ c.show.ensures refl in record {
  value = q.0;
  bytes_after = q.1;
}

pub returns-in-4 : goal.returns-in-4
returns-in-4 c = let a = c.args in let q = look_arm (desk a.board a.words.now a.responses.now a.bytes.now) a.name.now (words_of a.rest.now) c.which.result c.which.ensures 4 (omega arith) _ _ c.total.ensures refl in record {
  value = q.0;
  bytes_after = q.1;
}

pub returns-in-5 : goal.returns-in-5
returns-in-5 c = let a = c.args in let q = look_arm (desk a.board a.words.now a.responses.now a.bytes.now) a.name.now (words_of a.rest.now) c.which.result c.which.ensures 5 (omega arith) _ _ c.store.ensures.value c.store.ensures.bytes_after in record {
  value = q.0;
  bytes_after = q.1;
}

pub returns-in-6 : goal.returns-in-6
returns-in-6 c = let a = c.args in let q = look_arm (desk a.board a.words.now a.responses.now a.bytes.now) a.name.now (words_of a.rest.now) c.which.result c.which.ensures 6 (omega arith) _ _ c.store-in-6.ensures.value c.store-in-6.ensures.bytes_after in record {
  value = q.0;
  bytes_after = q.1;
}

pub returns-in-7 : goal.returns-in-7
returns-in-7 c = let a = c.args in let q = look_arm (desk a.board a.words.now a.responses.now a.bytes.now) a.name.now (words_of a.rest.now) c.which.result c.which.ensures 7 (omega arith) _ _ c.room.ensures.value c.room.ensures.bytes_after in record {
  value = q.0;
  bytes_after = q.1;
}

pub returns-in-8 : goal.returns-in-8
returns-in-8 c = let a = c.args in let q = look_arm (desk a.board a.words.now a.responses.now a.bytes.now) a.name.now (words_of a.rest.now) c.which.result c.which.ensures 8 (omega arith) _ _ c.why.ensures refl in record {
  value = q.0;
  bytes_after = q.1;
}

pub returns-in_default : goal.returns-in_default
returns-in_default c = let a = c.args in let q = look_other (desk a.board a.words.now a.responses.now a.bytes.now) a.name.now (words_of a.rest.now) c.which.result c.which.ensures (search rules) in record {
  value = q.0;
  bytes_after = q.1;
}
