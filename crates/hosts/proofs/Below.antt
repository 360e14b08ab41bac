-- Digits are below 2, whichever of two is picked.
use Prim.Native.Nat.{ℕ, ◌-◌, ◌<◌}
use mathlib.Core.Bool.{Bool, true, false}
use native.Mathlib.Omega.{arith}
use Rattle.laws.specs.Bits.{bit, pick, digit}
use Rattle.laws.proofs.Digits.{bit_lt}
use Rattle.laws.proofs.Bits.{digit_at}

pub bit_below : (x i : ℕ) → bit x i < 2
bit_below x i = bit_lt (digit_at x i)

pub digit_below : (b : Bool) → digit b < 2
digit_below true = omega arith
digit_below false = omega arith

pub flip_below : {b : ℕ} → b < 2 → 1 - b < 2
flip_below h = omega arith

pub either_below : (t : Bool) {a b n : ℕ} → a < n → b < n → pick t a b < n
either_below true h g = h
either_below false h g = g
