use mathlib.Core.Path.{sym, ◌∙◌}
use Rattle.panel.proofs.Numbered as numbered
use Rattle.panel.proofs.load.Goals as goal

pub returns-then-takes : goal.returns-then-takes
returns-then-takes c =
    let a = c.args in
    numbered.taken a.register a.value c.response_of-narrow.result a.panel _ (sym c.takes.ensures ∙ c.if-takes.true)
    c.response_of-narrow.ensures c.load_own.ensures

pub returns-else-takes : goal.returns-else-takes
returns-else-takes c =
    let a = c.args in
    numbered.not_taken a.register a.value a.panel (sym c.takes.ensures ∙ c.if-takes.false)
