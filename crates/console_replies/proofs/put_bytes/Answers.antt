-- A byte more is put, or all are.
use native.Mathlib.Omega.{arith}
use Rattle.text.specs.Ascii.{ascii}
use Rattle.console_replies.specs.Texts.{pairs_text}
use Rattle.output.proofs.Puts.{puts₂, all_left}
use Rattle.console_replies.proofs.Loops.{pairs_less, pairs_all}
use borrow.Author.Rules.{rules}
use Rattle.console_replies.proofs.put_bytes.Goals as goal

pub loop-byte-init : goal.loop-byte-init
loop-byte-init c = (search rules, all_left _ _ _)

pub loop-byte-preserved : goal.loop-byte-preserved
loop-byte-preserved c = let l = c.loop-byte in let a = c.args in (search rules, pairs_less a.bytes.now l.byte-index _ _ (omega arith) l.invariant.0 l.invariant.1 c.put_pair-n.ensures)

pub returns : goal.returns
returns c = let l = c.loop-byte in let a = c.args in puts₂ (ascii "image ") (pairs_text a.bytes.now) 0 a.out.now c.put-n.ensures (pairs_all a.bytes.now l.byte-index (omega arith) l.invariant.1)
