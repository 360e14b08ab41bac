use mathlib.Core.Path.{◌∙◌}
use native.Mathlib.Omega.{arith}
use Rattle.array_console.proofs.Loads.{unnamed, misread, wellread}
use Rattle.array_console.proofs.load.Goals as goal

pub returns-in_default : goal.returns-in_default
returns-in_default c =
    let a = c.args in let e = c.in_default.ensures.place_value in
    c.ended.ensures ∙ unnamed a.rack a.rest.now (rw e.0 at e.1)

pub returns-in_default-read : goal.returns-in_default-read
returns-in_default-read c =
    let a = c.args in let r = c.in-Ok in let e = r.ensures in
    c.ended-in_default-read.ensures ∙ misread a.rack a.rest.now r.register (rw e.place_value.0 at e.place_value.1, e.place_value.0, e.to_in_bounds) c.in_default-read.ensures.right_value

pub returns : goal.returns
returns c =
    let a = c.args in let r = c.in-Ok in let e = r.ensures in let n = c.in-Some in
    wellread a.rack a.rest.now r.register (rw e.place_value.0 at e.place_value.1, e.place_value.0, e.to_in_bounds) n.ensures.right_value n.row (n.ensures.values_value (omega arith))
    _ c.sink_at-sink.ensures _ c.load-registers.ensures _ c.ended-2.ensures
