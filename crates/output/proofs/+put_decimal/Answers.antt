use Prim.Native.Nat.{◌/◌, ◌+◌, ◌%◌}
use mathlib.Core.Path.{◌≡◌}
use native.Mathlib.Omega.{arith}
use Rattle.output.specs.Digits.{decimal_digits}
use Rattle.output.proofs.Digits.{one_digit, one_more_digit}
use Rattle.output.proofs.Puts.{puts₂, byte_put}
use Rattle.output.proofs.+put_decimal.Goals as goal

pub returns-then-x-lt10 : goal.returns-then-x-lt10
returns-then-x-lt10 t c =
    let a = c.args in
    let m : a.x % 10 ≡ a.x = omega arith in
    rw (one_digit 19 a.x (omega arith)) (byte_put (48 + a.x) a.at a.out.now _ _ (rw m at c.put_byte.ensures))

pub returns : goal.returns
returns t c =
    let a = c.args in
    rw (one_more_digit a.x (omega arith) (omega arith)) (puts₂ (decimal_digits 20 (a.x / 10)) _ a.at a.out.now c.put_decimal-n.ensures (byte_put _ _ _ _ _ c.put_byte-2.ensures))
