-- The syllables that the commands of jobs make: one of the whole word where SDR is 0, and a cut above P where SDR is P's top bit.
use Prim.Native.Nat.{ℕ, zero, suc, ◌+◌, ◌-◌, ◌^◌, ◌≤◌, ◌<◌}
use mathlib.Core.Path.{◌≡◌, refl, ap}
use mathlib.Core.Bool.{or-true}
use mathlib.Core.Logic.{◌⊎◌, inl, inr}
use mathlib.Core.List.{[], ◌∷◌}
use native.Mathlib.Omega.{arith}
use borrow.Author.Tests.{eq-eqb, ne_eqb}
use Rattle.laws.specs.Bits.{bit}
use Rattle.laws.proofs.Digits.{tri}
use Rattle.laws.proofs.Bits.{bit_none}
use Rattle.machine.specs.Machine.{Syllable, is_top, bottom, down_from, keep, tops, syllables}
use Rattle.machine.proofs.Machine.{bottom_on, bottom_off}
use Rattle.ends.proofs.Agreeing.{one_here, one_there}

-- a syllable from its lowest bit and its width
abbrev pub from : ℕ → ℕ → Syllable
from low width = record { low = low; width = width }

-- no one of SDR below bit i
pub bottom_none : (s i : ℕ) → ((j : ℕ) → j < i → bit s j ≡ 0) → bottom s i ≡ 0
unfolding bottom
bottom_none s zero h = refl
bottom_none s (suc i) h = rw (h i (omega arith)) (bottom_none s i (λ j g. h j (omega arith)))

-- no one of SDR from bit i up: one syllable is left
tops_none : (n s m i : ℕ) → i + suc m ≡ n → ((j : ℕ) → i ≤ j → bit s j ≡ 0) → tops n s i (suc m) ≡ from (bottom s i) (n - bottom s i) ∷ []
unfolding tops bottom
tops_none n s zero i e h =
    rw (eq-eqb (suc i) n (omega arith), or-true) (ap (λ (k : ℕ). from (bottom s i) (k - bottom s i) ∷ []) (omega arith))
tops_none n s (suc m) i e h =
    let z = h i (omega arith) in
    rw (z, ne_eqb (suc i) n (λ q. omega arith))
    (rw (bottom_off s i z) at (tops_none n s m (suc i) (omega arith) (λ j g. h j (omega arith))))

-- "Registers not mentioned are 0": a search of a job has one syllable
pub whole : (n : ℕ) → 0 < n → syllables n 0 ≡ from 0 n ∷ []
whole zero h = absurd (omega arith)
whole (suc n) h =
    let z : suc n - 0 ≡ suc n = omega arith in
    rw (bottom_none 0 0 (λ j g. bit_none j), z) at (tops_none (suc n) 0 n 0 (omega arith) (λ j g. bit_none j))

-- ---- SDR of one bit t

-- up to bit t the syllables begin with that of bit t
tops_first : (n t m i : ℕ) → i + m ≡ n → i ≤ t → t < n → tops n (2 ^ t) i m ≡ from 0 (suc t) ∷ tops n (2 ^ t) (suc t) (n - suc t)
unfolding tops
tops_first n t zero i e l g = absurd (omega arith)
tops_first n t (suc m) i e l g = go (tri i t) (λ h. tops_first n t m (suc i) (omega arith) h g)
  where
    below : (i : ℕ) → i ≤ t → bottom (2 ^ t) i ≡ 0
    below i l = bottom_none (2 ^ t) i (λ j g. one_there t j (λ q. omega arith))

    go : (i < t) ⊎ ((i ≡ t) ⊎ (t < i)) → (suc i ≤ t → tops n (2 ^ t) (suc i) m ≡ from 0 (suc t) ∷ tops n (2 ^ t) (suc t) (n - suc t))
        → keep (is_top n (2 ^ t) i) (down_from (2 ^ t) i) (tops n (2 ^ t) (suc i) m) ≡ from 0 (suc t) ∷ tops n (2 ^ t) (suc t) (n - suc t)
    go (inl h) later = rw (one_there t i (λ q. omega arith), ne_eqb (suc i) n (λ q. omega arith)) (later (omega arith))
    go (inr (inl h)) later =
        let k : m ≡ n - suc t = omega arith in
        let z : suc t - 0 ≡ suc t = omega arith in
        rw (h, k, one_here t, below t (omega arith), z)
    go (inr (inr h)) later = absurd (omega arith)

-- what is left above bit t: nothing, or one syllable
pub above : (n t : ℕ) → t < n → syllables n (2 ^ t) ≡ from 0 (suc t) ∷ tops n (2 ^ t) (suc t) (n - suc t)
above n t h = tops_first n t n 0 (omega arith) (omega arith) h

pub rest : (n t m : ℕ) → suc t + suc m ≡ n → tops n (2 ^ t) (suc t) (suc m) ≡ from (suc t) (suc m) ∷ []
rest n t m e =
    let z : n - suc t ≡ suc m = omega arith in
    rw (bottom_on (2 ^ t) t (one_here t), z) at (tops_none n (2 ^ t) m (suc t) e (λ j g. one_there t j (λ q. omega arith)))

pub rest_none : (n s i : ℕ) → tops n s i 0 ≡ []
unfolding tops
rest_none n s i = refl
