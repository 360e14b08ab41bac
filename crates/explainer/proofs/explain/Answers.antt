-- The checks, then the reason of that word.
use mathlib.Core.Path.{sym, ◌∙◌}
use native.Mathlib.Omega.{arith}
use Rattle.machine.specs.Machine.{machine}
use Rattle.machine.proofs.Refusals.{handed}
use Rattle.explainer.specs.Reasons.{explained}
use Rattle.explainer.proofs.Answers.{number_within, number_small, response_within, narrow, unmixed_all}
use Rattle.explainer.proofs.explain.Goals as goal

pub returns-in_err-check : goal.returns-in_err-check
unfolding explained
returns-in_err-check c = handed _ _ c.from_residual.ensures.1 ∙ rw (sym c.in_err-check.ensures)

pub offset_bounds-words-k : goal.offset_bounds-words-k
offset_bounds-words-k c =
    let a = c.args in
    omega (arith, number_small (machine a.width a.words.now a.responses.now) a.panel a.word (sym c.in_ok-check.ensures))

pub bounds-words-k : goal.bounds-words-k
bounds-words-k c =
    let a = c.args in
    number_within (machine a.width a.words.now a.responses.now) a.panel a.word (sym c.in_ok-check.ensures)

pub bounds-responses-k : goal.bounds-responses-k
bounds-responses-k c =
    let a = c.args in
    response_within (machine a.width a.words.now a.responses.now) a.panel a.word (sym c.in_ok-check.ensures)

pub reason_of-requires : goal.reason_of-requires
reason_of-requires c =
    let a = c.args in
    let m = machine a.width a.words.now a.responses.now in record {
      n_bound = narrow m a.panel a.word (sym c.in_ok-check.ensures);
      sdr_value = unmixed_all m a.panel a.word (sym c.in_ok-check.ensures);
    }

pub returns : goal.returns
unfolding explained
returns c = rw (sym c.in_ok-check.ensures, c.reason_of.ensures)
