-- 5 is looked for where 4 is passed.
use mathlib.Core.Path.{sym, ◌∙◌}
use Rattle.machine.specs.declared.Refusal.TheVariants.{PanelTooWide}
use Rattle.machine.proofs.Refusals.{not_refused}
use Rattle.wide.proofs.Accepted.{fit}
use Rattle.wide.proofs.check_rest.Goals as goal

pub bad_codes-requires : goal.bad_codes-requires
bad_codes-requires c =
    fit c.args.width c.args.panel c.requires.0 c.requires.1
    (sym c.bad_panel.ensures ∙ not_refused PanelTooWide c.bad_panel.result (sym c.in_ok-refuse.ensures))
