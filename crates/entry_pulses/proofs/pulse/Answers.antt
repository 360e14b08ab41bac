use mathlib.Core.Path.{◌≡◌, ap, ap₂, ◌∙◌}
use lib.ListN.{length}
use borrow.Author.Rules.{rules}
use Rattle.std.specs.Prelude.{Err}
use Rattle.machine.specs.Machine.{machine}
use Rattle.machine.specs.Refusals.{answer_of, told}
use Rattle.entry_forms.specs.Numbers.{tell_in}
use Rattle.entry_pulses.specs.Entries.{pulse_told, pulse_numbers}
use Rattle.entry_pulses.proofs.Entries.{pulse_given, pulse_answers, pulse_refuses}
use Rattle.entry_pulses.proofs.pulse.Goals.{in-Ok, in-Err}
use Rattle.entry_pulses.proofs.pulse.Goals as goal

pub returns-clause-value : goal.returns-clause-value
unfolding pulse_told
returns-clause-value g c =
    let a = c.args in
    let m = machine a.width a.words.now a.responses.now in
    let given : c.match-check_pulse.given ≡ pulse_given m a.registers.now a.lines (length a.answer.now) = elim c.match-check_pulse.branch [
      | in-Ok w ↦ w.given-is ∙ w.pulse-given.ensures.value ∙ ap₂ (answer_of m) c.panel_of-panel.ensures c.lines_of-raised.ensures
          ∙ pulse_answers m a.registers.now a.lines (length a.answer.now) (search rules)
      | in-Err w ↦ w.given-is ∙ ap Err (search rules) ∙ pulse_refuses m a.registers.now a.lines (length a.answer.now) w.in-Err.why (search rules)
    ] in
    c.tell_pulse.ensures.value ∙ ap (λ g. (told g).refusal) given

pub returns-clause-answer_after : goal.returns-clause-answer_after
unfolding pulse_told
returns-clause-answer_after g c =
    let a = c.args in
    let m = machine a.width a.words.now a.responses.now in
    let given : c.match-check_pulse.given ≡ pulse_given m a.registers.now a.lines (length a.answer.now) = elim c.match-check_pulse.branch [
      | in-Ok w ↦ w.given-is ∙ w.pulse-given.ensures.value ∙ ap₂ (answer_of m) c.panel_of-panel.ensures c.lines_of-raised.ensures
          ∙ pulse_answers m a.registers.now a.lines (length a.answer.now) (search rules)
      | in-Err w ↦ w.given-is ∙ ap Err (search rules) ∙ pulse_refuses m a.registers.now a.lines (length a.answer.now) w.in-Err.why (search rules)
    ] in
    c.tell_pulse.ensures.answer_after ∙ ap (λ g. tell_in (pulse_numbers (told g)) a.answer.now) given
