use mathlib.Core.Path.{◌∙◌}
use Rattle.machine.proofs.Refusals.{handed}
use Rattle.jobs.specs.Runs.{state}
use Rattle.image.proofs.WriteCalls.{write_refused, write_done}
use Rattle.image.proofs.writing.write.Goals as goal

pub returns-in_err-check_write : goal.returns-in_err-check_write
returns-in_err-check_write c =
    let a = c.args in
    let q = write_refused (state a.width a.words.now a.responses.now a.held) a.out.now _ c.in_err-check_write.ensures in
    record { value = handed _ _ c.from_residual.ensures.1 ∙ q.0; out_after = q.1 }

pub returns : goal.returns
returns c =
    let a = c.args in
    let q = write_done (state a.width a.words.now a.responses.now a.held) a.out.now _ _ _ _ c.in_ok-check_write.ensures c.put_machine-at.ensures c.put_held.ensures in
    record { value = q.0; out_after = q.1 }
