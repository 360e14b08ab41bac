-- Where the checks are passed, the pulse's results; where not, the refusal, and nothing has changed.
use mathlib.Core.Path.{sym, ◌∙◌}
use Rattle.machine.specs.Machine.{machine}
use Rattle.machine.proofs.Refusals.{handed}
use Rattle.wide.proofs.Answers.{done, turned_down}
use Rattle.wide.proofs.pulse.Goals as goal

pub returns-in_err-check : goal.returns-in_err-check
returns-in_err-check c =
    let a = c.args in let q = turned_down (machine a.width a.words.now a.responses.now) a.panel a.lines _ (sym c.in_err-check.ensures) in record {
      value = handed _ _ c.from_residual.ensures.1 ∙ q.0;
      words_after = q.1.0;
      responses_after = q.1.1;
    }

pub give-count-requires : goal.give-count-requires
give-count-requires c = sym c.in_ok-check.ensures

pub returns : goal.returns
returns c =
    let a = c.args in
    let r = c.give-count in let q = done (machine a.width a.words.now a.responses.now) a.panel a.lines r.result c.read_word-read.result _ _ (sym c.in_ok-check.ensures) r.ensures.value
    c.read_word-read.ensures r.ensures.words_after r.ensures.responses_after in record {
      value = q.0;
      words_after = q.1.0;
      responses_after = q.1.1;
    }
