use mathlib.Core.Path.{sym, ◌∙◌}
use Rattle.machine.proofs.Refusals as checks
use Rattle.cells.proofs.Turns as turns
use Rattle.cells.proofs.pulse.Goals as goal

pub returns-in_err-check : goal.returns-in_err-check
returns-in_err-check c =
    let a = c.args in let q = turns.call_refused a.width a.words.now a.responses.now a.panel a.lines _ (sym c.in_err-check.ensures) in record {
      value = checks.handed _ _ c.from_residual.ensures.1 ∙ q.0;
      words_after = q.1.0;
      responses_after = q.1.1;
    }

pub turn_all-count-requires : goal.turn_all-count-requires
turn_all-count-requires c =
    let g = checks.clean _ _ _ (sym c.in_ok-check.ensures) in record {
      width_value = g.sound.width;
      lines_value = g.codes;
      responses_len = checks.size_same _ _ g.sound.size;
    }

pub returns : goal.returns
returns c =
    let a = c.args in let t = c.turn_all-count in
    let q = turns.call_done a.width a.words.now a.responses.now a.panel a.lines t.result c.read_word-read.result t.new.words t.new.responses
    (sym c.in_ok-check.ensures) t.ensures.value c.read_word-read.ensures t.ensures.words_after t.ensures.responses_after in record {
      value = q.0;
      words_after = q.1.0;
      responses_after = q.1.1;
    }
