-- The lowest binary digit, and the rest: the step of every induction over bits.
use Prim.Native.Nat.{ℕ, zero, suc, ◌+◌, ◌*◌, ◌/◌, ◌%◌, ◌^◌, ◌<◌, min, max}
use mathlib.Core.Path.{◌≡◌, refl, sym, ap, ◌∙◌}
use mathlib.Core.Logic.{◌⊎◌, inl, inr, ⊎_elim}
use native.Mathlib.Nat.{pow-suc, div-div-eq-div-mul, mul_comm}
use native.Mathlib.Omega.{arith}
use lib.Arith.{mod-mul}
use lib.Pow.{pow_pos}
use lib.Bits.{bit_and, bit_or, bit_xor, differ, and_step, or_step, xor_step}

-- a digit is 0 or 1: a match on it puts the numeral into the goal, which then computes
pub data Bit : ℕ → Type 0 where
  off : Bit zero
  on : Bit (suc zero)

pub digit : (n : ℕ) → n < 2 → Bit n
digit zero h = off
digit (suc zero) h = on
digit (suc (suc n)) h = absurd (omega arith)

pub low : (n : ℕ) → Bit (n % 2)
low n = digit (n % 2) (omega arith)

pub bit_lt : {n : ℕ} → Bit n → n < 2
bit_lt off = omega arith
bit_lt on = omega arith

-- three ways
pub tri : (a b : ℕ) → (a < b) ⊎ ((a ≡ b) ⊎ (b < a))
tri zero zero = inr (inl refl)
tri zero (suc b) = inl (omega arith)
tri (suc a) zero = inr (inr (omega arith))
tri (suc a) (suc b) =
    ⊎_elim (λ h. inl (omega arith)) (⊎_elim (λ e. inr (inl (ap suc e))) (λ h. inr (inr (omega arith)))) (tri a b)

-- ---- the lowest bit of a number and of masks

pub mod_suc : (n k : ℕ) → n % 2 ^ suc k ≡ (n / 2 % 2 ^ k) * 2 + n % 2
mod_suc n k = ap (λ (m : ℕ). n % m) (pow-suc 2 k) ∙ mod-mul n (pow_pos k) (omega arith)

pub div_suc : (n k : ℕ) → n / 2 ^ suc k ≡ n / 2 / 2 ^ k
div_suc n k = ap (λ (m : ℕ). n / m) (pow-suc 2 k ∙ mul_comm (2 ^ k) 2) ∙ sym (div-div-eq-div-mul n 2 (2 ^ k))

differ_lt : (x y : ℕ) → Bit x → Bit y → differ x y < 2
differ_lt x y off off = omega arith
differ_lt x y off on = omega arith
differ_lt x y on off = omega arith
differ_lt x y on on = omega arith

pub and_half : (a b : ℕ) → bit_and a b / 2 ≡ bit_and (a / 2) (b / 2)
and_half a b = omega (arith, and_step a b)

pub and_low : (a b : ℕ) → bit_and a b % 2 ≡ min (a % 2) (b % 2)
and_low a b = omega (arith, and_step a b)

pub or_half : (a b : ℕ) → bit_or a b / 2 ≡ bit_or (a / 2) (b / 2)
or_half a b = omega (arith, or_step a b)

pub or_low : (a b : ℕ) → bit_or a b % 2 ≡ max (a % 2) (b % 2)
or_low a b = omega (arith, or_step a b)

pub xor_half : (a b : ℕ) → bit_xor a b / 2 ≡ bit_xor (a / 2) (b / 2)
xor_half a b = omega (arith, xor_step a b, differ_lt (a % 2) (b % 2) (low a) (low b))

pub xor_low : (a b : ℕ) → bit_xor a b % 2 ≡ differ (a % 2) (b % 2)
xor_low a b = omega (arith, xor_step a b, differ_lt (a % 2) (b % 2) (low a) (low b))
