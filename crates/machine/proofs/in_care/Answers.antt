-- Care has no bit above a response's last.
use Prim.Native.Nat.{ℕ, ◌/◌, ◌%◌, ◌^◌, ◌≤◌, ◌<◌}
use mathlib.Core.Path.{◌≡◌, sym, ap}
use mathlib.Core.Bool.{false}
use native.Mathlib.Nat.{div-eq_of_lt}
use native.Mathlib.Omega.{arith}
use lib.Dec.{eqb}
use lib.Pow.{pow_mono}
use Rattle.laws.specs.Bits.{bit}
use borrow.Author.Rules.{rules}
use Rattle.machine.proofs.in_care.Goals as goal

no_bit : (x i k : ℕ) → x < 2 ^ k → k ≤ i → false ≡ eqb (bit x i) 1
no_bit x i k h g =
    let small : x < 2 ^ i = omega (arith, pow_mono {i = k} {j = i} g) in
    let z : x / 2 ^ i ≡ 0 = div-eq_of_lt small in
    sym (ap (λ (y : ℕ). eqb (y % 2) 1) z)

pub returns-else-i-lt-RESPONSE_BITS : goal.returns-else-i-lt-RESPONSE_BITS
returns-else-i-lt-RESPONSE_BITS c = no_bit c.args.care c.args.x.0 8 (search rules) (search rules)
