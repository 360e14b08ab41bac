-- A turn is taken, or is the first that is refused; or none is left.
use native.Mathlib.Omega.{arith}
use Rattle.console_working.specs.Jobs.{most}
use Rattle.console_working.proofs.Running.{finished, went_on, refused, stopped}
use Rattle.console_working.proofs.to_the_end.Goals as goal

pub returns-in-Err : goal.returns-in-Err
returns-in-Err c =
    let l = c.loop-taken in
    let e = c.in-Err in
    let q = refused most c.args.width _ l.words l.responses l.held l.taken l.invariant _ _ e.ensures.words_after e.ensures.responses_after e.why e.ensures.value c.if-taken-eq0.true in record {
      value = q.0;
      held_after = q.1.0;
      words_after = q.1.1.0;
      responses_after = q.1.1.1;
    }

pub returns-in-Err-2 : goal.returns-in-Err-2
returns-in-Err-2 c =
    let l = c.loop-taken in
    let e = c.in-Err-2 in
    let q = stopped most c.args.width _ l.words l.responses l.held l.taken l.invariant _ _ e.ensures.words_after e.ensures.responses_after _ e.ensures.value (omega arith) in record {
      value = q.0;
      held_after = q.1.0;
      words_after = q.1.1.0;
      responses_after = q.1.1.1;
    }

pub loop-taken-preserved : goal.loop-taken-preserved
loop-taken-preserved c =
    let l = c.loop-taken in
    let e = c.in-Ok in
    went_on most c.args.width _ l.words l.responses l.held l.taken l.invariant _ _ e.ensures.words_after e.ensures.responses_after (omega arith) e.step e.ensures.value

pub returns : goal.returns
returns c =
    let l = c.loop-taken in
    let q = finished most c.args.width _ l.words l.responses l.held l.taken l.invariant (omega arith) (omega arith) in record {
      value = q.0;
      held_after = q.1.0;
      words_after = q.1.1.0;
      responses_after = q.1.1.1;
    }
