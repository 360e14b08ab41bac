use mathlib.Core.Path.{◌≡◌, ap, ◌∙◌}
use lib.ListN.{length}
use borrow.Author.Rules.{rules}
use Rattle.std.specs.Prelude.{Err}
use Rattle.machine.specs.Machine.{machine}
use Rattle.explainer.specs.Reasons.{told}
use Rattle.entry_forms.specs.Numbers.{tell_in}
use Rattle.entry_pulses.specs.Entries.{explained_told, explained_numbers}
use Rattle.entry_pulses.proofs.Entries.{explain_given, explain_answers, explain_refuses}
use Rattle.entry_pulses.proofs.dushvaneth_explain.Goals.{in-Ok, in-Err}
use Rattle.entry_pulses.proofs.dushvaneth_explain.Goals as goal

pub returns : goal.returns
unfolding explained_told
returns c =
    let a = c.args in
    let m = machine a.width a.words.now a.responses.now in
    let given : c.match-check_explain.given ≡ explain_given m a.registers.now a.word (length a.answer.now) = elim c.match-check_explain.branch [
      | in-Ok w ↦ w.given-is ∙ w.explain-given.ensures ∙ rw c.panel_of-panel.ensures (explain_answers m a.registers.now a.word (length a.answer.now) (search rules))
      | in-Err w ↦ w.given-is ∙ ap Err (search rules) ∙ explain_refuses m a.registers.now a.word (length a.answer.now) w.in-Err.why (search rules)
    ] in
    record {
      value = c.tell_explained.ensures.value ∙ ap (λ g. (told g).refusal) given;
      answer_after = c.tell_explained.ensures.answer_after ∙ ap (λ g. tell_in (explained_numbers (told g)) a.answer.now) given;
    }
