-- What passes the checks has buffers of one length and a width that is no bad one.
use mathlib.Core.Path.{sym, ◌∙◌}
use Rattle.array.proofs.Refusals.{sound, same_xs, same_selectors}
use Rattle.array_cells.proofs.operate.Goals as goal

pub registers_after-loaded-requires : goal.registers_after-loaded-requires
registers_after-loaded-requires c =
    let s = sound _ _ (sym c.check_call.ensures ∙ c.in_ok-check_call.was) in record {
      xs_len = (same_xs s, same_selectors s);
      width_value = s.width;
    }

pub turn_all-count-requires : goal.turn_all-count-requires
turn_all-count-requires c =
    let s = sound _ _ (sym c.check_call.ensures ∙ c.in_ok-check_call.was) in record {
      xs_len = (same_xs s, same_selectors s);
      width_value = s.width;
    }
