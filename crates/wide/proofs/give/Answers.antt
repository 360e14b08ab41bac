-- A sweep, and the addressed word stored after it.
use native.Mathlib.Omega.{arith}
use Rattle.wide.proofs.Accepted.{accepted}
use Rattle.wide.proofs.Swept.{in_range, with_address, without_address}
use Rattle.wide.proofs.give.Goals as goal

pub offset_bounds-words-at : goal.offset_bounds-words-at
offset_bounds-words-at c =
    let a = c.args in
    let ok = accepted a.width a.panel a.lines a.words.now a.responses.now c.requires in
    omega (arith, in_range a.width a.panel a.lines a.words.now a.responses.now ok c.if-lines.true)

pub bounds-words-at : goal.bounds-words-at
bounds-words-at c =
    let a = c.args in
    let ok = accepted a.width a.panel a.lines a.words.now a.responses.now c.requires in
    in_range a.width a.panel a.lines a.words.now a.responses.now ok c.if-lines.true

pub bounds-responses-at : goal.bounds-responses-at
bounds-responses-at c =
    let a = c.args in
    let ok = accepted a.width a.panel a.lines a.words.now a.responses.now c.requires in
    omega (arith, in_range a.width a.panel a.lines a.words.now a.responses.now ok c.if-lines.true)

pub new_at-word-requires : goal.new_at-word-requires
new_at-word-requires c =
    let a = c.args in
    let ok = accepted a.width a.panel a.lines a.words.now a.responses.now c.requires in record {
      fit = ok.fit;
      w_bound = ok.words a.panel.address.0;
    }

pub sweep-n-requires : goal.sweep-n-requires
sweep-n-requires c =
    let a = c.args in
    accepted a.width a.panel a.lines a.words.now a.responses.now c.requires

pub offset_bounds-words-at-then-lines : goal.offset_bounds-words-at-then-lines
offset_bounds-words-at-then-lines c =
    let a = c.args in
    let ok = accepted a.width a.panel a.lines a.words.now a.responses.now c.requires in
    omega (arith, in_range a.width a.panel a.lines a.words.now a.responses.now ok c.if-lines.true)

pub bounds-words-at-then-lines : goal.bounds-words-at-then-lines
bounds-words-at-then-lines c =
    let a = c.args in
    let ok = accepted a.width a.panel a.lines a.words.now a.responses.now c.requires in
    omega (arith, in_range a.width a.panel a.lines a.words.now a.responses.now ok c.if-lines.true)

pub returns-then-lines : goal.returns-then-lines
returns-then-lines c =
    let a = c.args in
    let ok = accepted a.width a.panel a.lines a.words.now a.responses.now c.requires in
    let w = c.sweep-n in
    let x = c.new_at-word in let q = with_address a.width a.panel a.lines a.words.now a.responses.now ok w.result x.result w.new.words w.new.responses (in_range a.width a.panel a.lines a.words.now a.responses.now ok c.if-lines.true) x.ensures
    w.ensures.value w.ensures.words_after w.ensures.responses_after in record {
      value = q.0;
      words_after = q.1.0;
      responses_after = q.1.1;
    }

pub sweep-requires : goal.sweep-requires
sweep-requires c =
    let a = c.args in
    accepted a.width a.panel a.lines a.words.now a.responses.now c.requires

pub returns-else-lines : goal.returns-else-lines
returns-else-lines c =
    let a = c.args in
    let ok = accepted a.width a.panel a.lines a.words.now a.responses.now c.requires in
    let w = c.sweep in let q = without_address a.width a.panel a.lines a.words.now a.responses.now ok w.result w.new.words w.new.responses c.if-lines.false w.ensures.value w.ensures.words_after w.ensures.responses_after in record {
      value = q.0;
      words_after = q.1.0;
      responses_after = q.1.1;
    }
