use Prim.Native.Nat.{◌+◌, ◌-◌}
use mathlib.Core.Path.{◌≡◌, sym}
use native.Mathlib.Omega.{arith}
use lib.ListN.{get_or}
use lib.Pow.{pow_pos}
use Rattle.image_layout.proofs.Format.{value_none, value_down, pow_down, pow_room}
use Rattle.image_parts.proofs.image_fields.number_at.Goals as goal

pub loop-i-init : goal.loop-i-init
loop-i-init c = (value_none c.args.k _, pow_pos _)

pub overflow_mul-number : goal.overflow_mul-number
overflow_mul-number c = let l = c.loop-i in let a = c.args in omega (arith, pow_room a.k l.i (omega arith) (omega arith))

pub overflow_add-number : goal.overflow_add-number
overflow_add-number c =
    let l = c.loop-i in
    let a = c.args in
    omega (arith, c.from.ensures, c.type_inv.image (a.at + (l.i - 1)), pow_room a.k l.i (omega arith) (omega arith))

pub loop-i-preserved : goal.loop-i-preserved
loop-i-preserved c =
    let l = c.loop-i in
    let a = c.args in
    let e : c.from.result ≡ get_or a.image.now (a.at + (l.i - 1)) 0 = c.from.ensures in (
      rw e (sym (rw (← l.invariant.0) at (value_down a.image.now a.at a.k l.i (omega arith) (omega arith) (omega arith)))),
      omega (arith, e, c.type_inv.image (a.at + (l.i - 1)), pow_down a.k l.i (omega arith) (omega arith)),
    )
