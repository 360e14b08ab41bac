-- Shifts and masks of the code as the powers of two that the definitions name.
use Prim.Native.Nat.{ℕ, ◌+◌, ◌-◌, ◌*◌, ◌%◌, ◌^◌, ◌≤◌, ◌<◌}
use mathlib.Core.Path.{◌≡◌, sym, ap, ◌∙◌}
use native.Mathlib.Omega.{arith}
use lib.Bits.{bit_and, and_mask}
use lib.Pow.{shl_exact, ones_lt, high_ones, mod-mod-pow}

pub one_shifted : (k w : ℕ) → k < w → 1 * 2 ^ k % 2 ^ w ≡ 2 ^ k
one_shifted k w h = shl_exact {a = 1} 1 k w (omega arith) (omega arith) ∙ omega arith

-- what a shift drops at bit 64 a mask below would have dropped
pub masked : (x w : ℕ) → w ≤ 64 → bit_and (x % 2 ^ 64) (2 ^ w - 1) ≡ x % 2 ^ w
masked x w h =
    let e : (64 - w) + w ≡ 64 = omega arith in
    and_mask (x % 2 ^ 64) w ∙ ap (λ (k : ℕ). x % 2 ^ k % 2 ^ w) (sym e) ∙ mod-mod-pow x (64 - w) w

-- a run of w ones from bit lo up
pub run : (lo w : ℕ) → lo + w ≤ 64 → (2 ^ w - 1) * 2 ^ lo % 2 ^ 64 ≡ 2 ^ (w + lo) - 2 ^ lo
run lo w h = shl_exact w lo 64 (ones_lt w) (omega arith) ∙ sym (high_ones w lo)
