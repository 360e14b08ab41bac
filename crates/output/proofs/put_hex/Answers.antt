use Prim.Native.Nat.{◌-◌}
use mathlib.Core.Path.{◌≡◌}
use mathlib.Core.List.{[], ◌∷◌}
use native.Mathlib.Omega.{arith}
use Rattle.output.specs.Digits.{hex_digits}
use Rattle.output.proofs.Digits.{next_digit, no_digit}
use Rattle.output.proofs.Puts.{one_less, byte_put, none_left}
use borrow.Author.Rules.{rules}
use Rattle.output.proofs.put_hex.Goals as goal

pub loop-left-preserved : goal.loop-left-preserved
loop-left-preserved c =
    let l = c.loop-left in
    let x = c.args.x in
    let d = c.hex_digit in
    let p = c.put_byte-n in (
      search rules,
      one_less (d.result ∷ []) (hex_digits (l.left - 1) x) p.new.out p.result l.invariant.0
          (rw (next_digit l.left (l.left - 1) x d.result (omega arith) d.ensures) at l.invariant.1)
          (byte_put d.result l.n l.out p.new.out p.result p.ensures),
    )

pub returns : goal.returns
returns c =
    let l = c.loop-left in
    let z : l.left ≡ 0 = omega arith in none_left (rw (z, no_digit c.args.x) at l.invariant.1)
