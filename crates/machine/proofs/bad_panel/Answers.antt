use Rattle.machine.specs.Refusals.{bad_panel}
use Rattle.machine.proofs.bad_panel.Goals as goal

pub returns : goal.returns
unfolding bad_panel
returns c =
    rw (
      c.too_wide.ensures,
      c.too_wide-2.ensures,
      c.too_wide-3.ensures,
      c.too_wide-4.ensures,
      c.too_wide-5.ensures,
      c.too_wide-6.ensures,
    )
