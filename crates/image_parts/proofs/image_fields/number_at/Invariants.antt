use Prim.Native.Nat.{◌+◌, ◌-◌, ◌*◌, ◌^◌, ◌<◌}
use mathlib.Core.Path.{◌≡◌}
use lib.ListN.{take, drop}
use Rattle.image_layout.specs.Format.{value}
use Rattle.image_parts.proofs.image_fields.number_at.Given as goal

abbrev pub invariant-loop-i : goal.invariant-loop-i
invariant-loop-i l = (l.number ≡ value (take (l.k - l.i) (drop (l.at + l.i) l.image))) × (l.number < 2 ^ (8 * (l.k - l.i)))
