use native.Mathlib.Omega.{arith}
use Rattle.listing.proofs.Loops.{words_less, words_all}
use borrow.Author.Rules.{rules}
use Rattle.listing.proofs.put_lines.Goals as goal

pub loop-i-preserved : goal.loop-i-preserved
loop-i-preserved c = let l = c.loop-i in let a = c.args in (search rules, words_less a.words.now a.responses.now a.n l.i _ _ (omega arith) l.invariant.0 l.invariant.1 c.put_entry-end.ensures)

pub returns : goal.returns
returns c = let l = c.loop-i in let a = c.args in words_all a.words.now a.responses.now a.n l.i (omega arith) l.invariant.1
