use native.Mathlib.Omega.{arith}
use Rattle.output.proofs.Puts.{puts₂}
use Rattle.array_replies.specs.Texts.{head_text, words_text}
use Rattle.array_replies.proofs.Loops.{words_left, words_less, words_all}
use borrow.Author.Rules.{rules}
use Rattle.array_replies.proofs.put_list.Goals as goal

pub loop-i-init : goal.loop-i-init
loop-i-init c =
    let a = c.args in let p = c.put_head-end in (search rules, words_left a.ones.now a.xs.now a.selectors.now a.rack.words p.result p.new.out)

pub loop-i-preserved : goal.loop-i-preserved
loop-i-preserved c =
    let l = c.loop-i in let a = c.args in
    (search rules, words_less a.ones.now a.xs.now a.selectors.now a.rack.words l.i _ _ (omega arith) l.invariant.0 l.invariant.1 c.put_entry-end.ensures)

pub returns : goal.returns
returns c =
    let l = c.loop-i in let a = c.args in let k = a.rack in
    puts₂ (head_text k) (words_text k.words 0 a.ones.now a.xs.now a.selectors.now) 0 a.out.now c.put_head-end.ensures
    (words_all a.ones.now a.xs.now a.selectors.now k.words l.i (omega arith) l.invariant.1)
