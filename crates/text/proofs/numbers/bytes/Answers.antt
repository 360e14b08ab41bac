use mathlib.Core.Path.{ap, ◌∙◌}
use native.Mathlib.Omega.{arith}
use lib.ListN.{set}
use Rattle.text.proofs.Pairs.{begun, odd, full, no_pair, one_pair, all_read}
use borrow.Author.Rules.{rules}
use Rattle.text.proofs.numbers.bytes.Goals as goal

pub loop-i-init : goal.loop-i-init
loop-i-init c = (search rules, omega arith, omega arith, omega arith, begun _ _)

pub returns-then-s-i-lt2 : goal.returns-then-s-i-lt2
returns-then-s-i-lt2 c = let l = c.loop-i in let a = c.args in let q = odd a.out.now a.s.now l.out l.n l.i l.invariant.4 (omega arith) (omega arith) in record {
  value = q.0;
  out_after = q.1;
}

pub returns-then-out-n : goal.returns-then-out-n
returns-then-out-n c = let l = c.loop-i in let a = c.args in let q = full a.out.now a.s.now l.out l.n l.i l.invariant.4 (omega arith) (omega arith) (omega arith) in record {
  value = q.0;
  out_after = q.1;
}

pub returns-in_err-value : goal.returns-in_err-value
returns-in_err-value c = let l = c.loop-i in let a = c.args in let q = no_pair a.out.now a.s.now l.out l.n l.i l.invariant.4 (omega arith) (omega arith) c.pair.result c.pair.ensures c.in_err-value.was in record {
  value = c.from_residual.ensures ∙ q.0;
  out_after = q.1;
}

pub loop-i-preserved : goal.loop-i-preserved
loop-i-preserved c = let l = c.loop-i in let a = c.args in (search rules, omega arith, omega arith, omega arith, one_pair a.out.now a.s.now l.out l.n l.i l.invariant.4 (omega arith) (omega arith) c.pair.result c.pair.ensures (omega arith) _ c.in_ok-value.was _ (ap (set l.out l.n) c.byte.ensures))

pub returns : goal.returns
returns c = let l = c.loop-i in let a = c.args in let q = all_read a.out.now a.s.now l.out l.n l.i l.invariant.4 (omega arith) (omega arith) in record {
  value = q.0;
  out_after = q.1;
}
