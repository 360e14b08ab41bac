-- The adding cells give each syllable word plus addend modulo 2 to its width.
use Prim.Native.Nat.{ℕ, zero, suc, ◌+◌, ◌*◌, ◌/◌, ◌%◌, ◌^◌}
use mathlib.Core.Path.{◌≡◌, refl, sym, ap, ◌∙◌}
use native.Mathlib.Nat.{pow-suc}
use native.Mathlib.Omega.{arith}
use lib.Pow.{low}
use Rattle.laws.specs.Bits.{number}
use Rattle.laws.proofs.Bits.{number_lt}
use Rattle.machine.specs.Cells.{carry, sum_bit}

-- what the lowest k cells keep, and the carry that they pass on
pub carried : (w a : ℕ → ℕ) (k : ℕ) → carry w a k * 2 ^ k + number k (sum_bit w a) ≡ number k w + number k a
unfolding carry number
carried w a zero = refl
carried w a (suc k) =
    let x : ℕ = w k + a k + carry w a k in
    let e : x / 2 * 2 + x % 2 ≡ x = omega arith in
    rw (pow-suc 2 k) (omega (arith, carried w a k, ap (λ (z : ℕ). z * 2 ^ k) e))

pub cells_add_lem : (w a : ℕ → ℕ) (k : ℕ) → number k (sum_bit w a) ≡ (number k w + number k a) % 2 ^ k
cells_add_lem w a k =
    sym (low (carry w a k) k (number_lt k (sum_bit w a) (λ j g. omega arith))) ∙ ap (λ (x : ℕ). x % 2 ^ k) (carried w a k)
