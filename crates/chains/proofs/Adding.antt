-- The adding cells of all syllables, from the lowest up.
use Prim.Native.Nat.{ℕ, suc, ◌+◌, ◌-◌, ◌*◌, ◌%◌, ◌^◌, ◌≤◌, ◌<◌}
use mathlib.Core.Path.{◌≡◌, refl, sym, ap, ◌∙◌}
use mathlib.Core.Bool.{Bool, true, false}
use mathlib.Core.List.{List}
use native.Mathlib.Nat.{pow-suc, mul-le-mul_right}
use native.Mathlib.Numerals.{add-one}
use native.Mathlib.Omega.{arith}
use lib.Pow.{pow_pos, pow-add, pow_mono, shl_exact}
use borrow.Author.Tests.{ne_eqb}
use Rattle.laws.specs.Bits.{bit, pick}
use Rattle.laws.proofs.Digits.{Bit, off, on}
use Rattle.laws.proofs.Bits.{digit_at, number_lt}
use Rattle.machine.specs.declared.Panel.{Panel}
use Rattle.machine.specs.Machine.{Syllable, is_top, bottom, down_from, keep, tops}
use Rattle.machine.specs.Pulse.{addend, sums, added}
use Rattle.machine.proofs.Sums.{cells_add_lem}
use Rattle.machine.proofs.Machine.{bottom_le, bottom_on, bottom_off}
use Rattle.chains.specs.Walks.{kept, kept_at}

pub kept_lt : (p : Panel) (w : ℕ) (y : Syllable) → kept p w y < 2 ^ y.width
unfolding kept
kept_lt p w y = number_lt y.width _ (λ j g. omega arith)

module _ (n : ℕ) (p : Panel) (w : ℕ) where
  -- one syllable of the sum
  sums_keep : (t : Bool) (i : ℕ) (ys : List Syllable)
      → sums p w (keep t (down_from p.sdr i) ys) ≡ pick t (kept p w (down_from p.sdr i) * 2 ^ bottom p.sdr i) 0 + sums p w ys
  unfolding sums kept
  sums_keep true i ys =
      ap (λ (x : ℕ). x * 2 ^ bottom p.sdr i + sums p w ys)
      (sym (cells_add_lem (λ j. bit w (bottom p.sdr i + j)) (λ j. addend p (bottom p.sdr i + j)) (suc i - bottom p.sdr i)))
  sums_keep false i ys = omega arith

  sums_next : (i m : ℕ) → sums p w (tops n p.sdr i (suc m)) ≡ kept_at n p w i + sums p w (tops n p.sdr (suc i) m)
  unfolding tops kept_at
  sums_next i m = sums_keep (is_top n p.sdr i) i (tops n p.sdr (suc i) m)

  -- a syllable's sum stays below the bit above its top
  next_lt : (x i : ℕ) → x < 2 ^ bottom p.sdr i → x + kept_at n p w i < 2 ^ suc i
  unfolding kept_at
  next_lt x i h = go (is_top n p.sdr i)
    where
      b : ℕ
      b = bottom p.sdr i

      go : (t : Bool) → x + pick t (kept p w (down_from p.sdr i) * 2 ^ b) 0 < 2 ^ suc i
      go true =
          let s : kept p w (down_from p.sdr i) + 1 ≤ 2 ^ (suc i - b) = omega (arith, kept_lt p w (down_from p.sdr i)) in
          let e : suc i - b + b ≡ suc i = omega (arith, bottom_le p.sdr i) in
          omega (arith, mul-le-mul_right (2 ^ b) s, pow-add 2 (suc i - b) b, ap (λ (z : ℕ). 2 ^ z) e, h)
      go false = omega (arith, pow_mono (bottom_le p.sdr i), pow-suc 2 i, h)

-- after the syllables with tops below bit i: x is their sum
pub record Summed (n : ℕ) (p : Panel) (w x i : ℕ) : Type 0 where
  pub is : x + sums p w (tops n p.sdr i (n - i)) ≡ added n p w
  pub small : i < n → x < 2 ^ bottom p.sdr i

module _ (n : ℕ) (p : Panel) (w : ℕ) where
  pub summed_start : Summed n p w 0 0
  unfolding added
  summed_start =
      let e : n - 0 ≡ n = omega arith in
      record { is = omega (arith, ap (λ (m : ℕ). sums p w (tops n p.sdr 0 m)) e); small = λ h. pow_pos (bottom p.sdr 0) }

  module _ (x i : ℕ) (h : Summed n p w x i) (l : i < n) where
    pub summed_room : n ≤ 64 → (y : ℕ) → y ≡ kept_at n p w i → x + y < 2 ^ 64
    summed_room g y e = let k : suc i ≤ 64 = omega arith in omega (arith, next_lt n p w x i (h.small l), pow_mono k, e)

    no_top : bit p.sdr i ≡ 0 → suc i < n → kept_at n p w i ≡ 0
    unfolding kept_at
    no_top e g = rw (ne_eqb (bit p.sdr i) 1 (λ q. omega arith), ne_eqb (suc i) n (λ q. omega arith))

    small_next : suc i < n → x + kept_at n p w i < 2 ^ bottom p.sdr (suc i)
    small_next g = go (bit p.sdr i) (digit_at p.sdr i) refl
      where
        go : (t : ℕ) → Bit t → bit p.sdr i ≡ t → x + kept_at n p w i < 2 ^ bottom p.sdr (suc i)
        go t on e = rw (bottom_on p.sdr i e) (next_lt n p w x i (h.small l))
        go t off e = rw (bottom_off p.sdr i e, no_top e g) (omega (arith, h.small l))

    pub summed_step : (y : ℕ) → y ≡ kept_at n p w i → Summed n p w (x + y) (i + 1)
    summed_step y e =
        let m : n - i ≡ suc (n - suc i) = omega arith in
        rw (add-one i, e) (record {
          is = omega (arith, h.is, ap (λ (k : ℕ). sums p w (tops n p.sdr i k)) m, sums_next n p w i (n - suc i));
          small = small_next;
        })

  pub summed_done : (x i : ℕ) → Summed n p w x i → n ≤ i → x ≡ added n p w
  unfolding sums tops
  summed_done x i h g = let e : n - i ≡ 0 = omega arith in omega (arith, rw e at h.is)

-- ---- one syllable, at its place

pub kept_on : (n : ℕ) (p : Panel) (w i r : ℕ) (y : Syllable) → is_top n p.sdr i ≡ true → i < 64 → y ≡ down_from p.sdr i → r ≡ kept p w y
    → r * 2 ^ y.low % 2 ^ 64 ≡ kept_at n p w i
unfolding kept_at
kept_on n p w i r y h g e q =
    let b = bottom p.sdr i in
    let k : r ≡ kept p w (down_from p.sdr i) = q ∙ ap (kept p w) e in
    ap (λ (z : Syllable). r * 2 ^ z.low % 2 ^ 64) e
    ∙ shl_exact (suc i - b) b 64 (rw k (kept_lt p w (down_from p.sdr i))) (omega (arith, bottom_le p.sdr i))
    ∙ rw (k, h) refl

pub kept_off : (n : ℕ) (p : Panel) (w i : ℕ) → is_top n p.sdr i ≡ false → 0 ≡ kept_at n p w i
unfolding kept_at
kept_off n p w i h = rw h
