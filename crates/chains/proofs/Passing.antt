-- What one cell passes to the next: the bottom of a syllable, codes, statuses, carries.
use Prim.Native.Nat.{ℕ, zero, suc, ◌+◌, ◌-◌, ◌/◌, ◌%◌, ◌≤◌, ◌<◌}
use mathlib.Core.Path.{◌≡◌, refl, ◌∙◌}
use native.Mathlib.Numerals.{add-one}
use native.Mathlib.Omega.{arith}
use borrow.Author.Tests.{eq-eqb, ne_eqb}
use Rattle.laws.specs.Bits.{bit}
use Rattle.machine.specs.declared.Status.{Status}
use Rattle.machine.specs.Machine.{bottom}
use Rattle.machine.specs.Cells.{passed, carry, sum_bit}

-- ---- down to the bottom of a syllable

pub bottom_here : (s i : ℕ) → 0 < i → bit s (i - 1) ≡ 1 → i - 1 + 1 ≡ bottom s i
unfolding bottom
bottom_here s zero h g = absurd (omega arith)
bottom_here s (suc i) h g =
    let e : suc i - 1 ≡ i = omega arith in
    let k : suc i - 1 + 1 ≡ suc i = omega arith in
    k ∙ rw (eq-eqb (bit s i) 1 (rw e at g)) refl

pub bottom_lower : (s i : ℕ) → 0 < i → (bit s (i - 1) ≡ 1 → ⊥) → bottom s (i - 1) ≡ bottom s i
unfolding bottom
bottom_lower s zero h g = absurd (omega arith)
bottom_lower s (suc i) h g = let e : suc i - 1 ≡ i = omega arith in rw (ne_eqb (bit s i) 1 (rw e at g), e)

pub bottom_zero : (s i : ℕ) → i ≡ 0 → 0 ≡ bottom s i
unfolding bottom
bottom_zero s i h = rw h

-- ---- from the top to the bottom

pub above_step : (f : ℕ → Status → Status) (whole t u : Status) (j : ℕ) → passed f j t ≡ whole → 0 < j → u ≡ f (j - 1) t → passed f (j - 1) u ≡ whole
unfolding passed
above_step f whole t u zero h l g = absurd (omega arith)
above_step f whole t u (suc j) h l g = let e : suc j - 1 ≡ j = omega arith in rw (g, e) h

pub above_done : (f : ℕ → Status → Status) (whole t : Status) (j : ℕ) → passed f j t ≡ whole → j ≡ 0 → t ≡ whole
unfolding passed
above_done f whole t j h e = rw e at h

-- ---- from the bottom to the top

pub record Below (w a : ℕ → ℕ) (c j : ℕ) : Type 0 where
  pub is : c ≡ carry w a j
  pub one : c ≤ 1

module _ (w a : ℕ → ℕ) where
  pub below_start : Below w a 0 0
  unfolding carry
  below_start = record { is = refl; one = omega arith }

  module _ (c j x y : ℕ) (h : Below w a c j) (ex : x ≡ w j) (ey : y ≡ a j) where
    pub below_keep : (x + y + c) % 2 ≡ sum_bit w a j
    below_keep = rw (ex, ey, h.is)

    pub below_step : x ≤ 1 → y ≤ 1 → Below w a ((x + y + c) / 2) (j + 1)
    unfolding carry
    below_step hx hy = rw (add-one j) (record { is = rw (ex, ey, h.is); one = omega (arith, h.one) })
