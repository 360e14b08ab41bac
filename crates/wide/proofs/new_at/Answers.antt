-- The addressed word is written once and added to once, whichever lines ask for it.
use Prim.Native.Nat.{◌^◌, ◌<◌}
use native.Mathlib.Omega.{arith}
use Rattle.machine.specs.Machine.{response_bits}
use Rattle.wide.proofs.Swept.{at_address}
use Rattle.wide.proofs.new_at.Goals as goal

pub returns : goal.returns
returns c =
    let care : c.args.panel.care < 2 ^ response_bits = omega (arith, c.well_formed) in
    let target : c.args.panel.target < 2 ^ response_bits = omega (arith, c.well_formed) in
    at_address c.args.width c.args.panel c.requires.fit care target c.args.lines c.args.w c.args.r c.requires.w_bound _ _
    c.make_changes-changes.ensures c.make_tags.ensures c.chosen_of-chosen.ensures c.new_word.ensures
