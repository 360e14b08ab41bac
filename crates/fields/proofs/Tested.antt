-- The word-wide search with all that does not depend on the word worked out beforehand: seven operations and one comparison for each word.
-- Document 01, 'One pulse', Search. A law for every width.
use Prim.Native.Nat.{ℕ, ◌+◌, ◌-◌, ◌/◌, ◌%◌, ◌^◌, ◌≤◌, ◌<◌, min, max}
use mathlib.Core.Path.{◌≡◌, refl, sym, ap, ap₂, ◌∙◌}
use mathlib.Core.Bool.{true}
use native.Mathlib.Nat.{mod-eq_of_lt, mod-lt}
use native.Mathlib.Omega.{arith}
use lib.Dec.{eqb}
use lib.Arith.{bin_ind}
use lib.Pow.{pow_pos, pow_mono}
use lib.Bits.{bit_and, bit_or, bit_xor, differ, and_le_l, and_le_r, and_zero_r, xor_lt, or_lt, xor_self, xor_comm, xor_zero_r}
use Rattle.laws.proofs.Digits.{Bit, off, on, low, and_half, and_low, xor_half, xor_low}
use Rattle.laws.proofs.Bits.{digit_at, same_bits, and_bit, or_bit, xor_bit, not_bit}
use Rattle.fields.specs.Fields.{fields, add_in, above_in}
use Rattle.fields.specs.Codes.{one_in}
use Rattle.fields.proofs.Shape.{bits_fields, above_lt}
use Rattle.fields.proofs.Blocks.{halves, eqb_cong}
use Rattle.fields.proofs.Turned.{exact, larger, limit, plain_in}
use Rattle.fields.proofs.Search.{swap, majority, limit_lt, search_word}

-- ---- a mask taken into both sides of an xor

spread_low : {w c f m : ℕ} → Bit w → Bit c → Bit f → Bit m → differ (min w (min c m)) (min f m) ≡ min (differ (min w c) f) m
spread_low off off off off = refl
spread_low off off off on = refl
spread_low off off on off = refl
spread_low off off on on = refl
spread_low off on off off = refl
spread_low off on off on = refl
spread_low off on on off = refl
spread_low off on on on = refl
spread_low on off off off = refl
spread_low on off off on = refl
spread_low on off on off = refl
spread_low on off on on = refl
spread_low on on off off = refl
spread_low on on off on = refl
spread_low on on on off = refl
spread_low on on on on = refl

spread : (m w c f : ℕ) → bit_xor (bit_and w (bit_and c m)) (bit_and f m) ≡ bit_and (bit_xor (bit_and w c) f) m
spread = bin_ind (λ (m : ℕ). (w c f : ℕ) → bit_xor (bit_and w (bit_and c m)) (bit_and f m) ≡ bit_and (bit_xor (bit_and w c) f) m)
    (λ w c f. simp (and_zero_r))
    (λ m ih w c f. halves (simp (and_half, xor_half) (ih (w / 2) (c / 2) (f / 2))) (simp (and_low, xor_low) (spread_low (low w) (low c) (low f) (low m))))

-- an xor undone
twice : (y x : ℕ) → bit_xor y (bit_xor y x) ≡ x
twice y x = ap (bit_xor y) (xor_comm y x) ∙ swap y x y ∙ ap (bit_xor x) (xor_self y) ∙ xor_zero_r x

-- ---- the tops that are asked for and fail to carry

carries_low : {a u c d : ℕ} → Bit a → Bit u → Bit c → Bit d
    → differ (min (min (differ a u) d) (differ c a)) (min d (1 - a)) ≡ min d (1 - max (min a u) (min (max a u) c))
carries_low off off off off = refl
carries_low off off off on = refl
carries_low off off on off = refl
carries_low off off on on = refl
carries_low off on off off = refl
carries_low off on off on = refl
carries_low off on on off = refl
carries_low off on on on = refl
carries_low on off off off = refl
carries_low on off off on = refl
carries_low on off on off = refl
carries_low on off on on = refl
carries_low on on off off = refl
carries_low on on off on = refl
carries_low on on on off = refl
carries_low on on on on = refl

module _ (a u c d : ℕ) (ha : a < 2 ^ 64) (hu : u < 2 ^ 64) (hc : c < 2 ^ 64) (hd : d < 2 ^ 64) where
  abbrev g : ℕ
  g = majority a u c

  g_lt : g < 2 ^ 64
  g_lt = or_lt 64 (bit_and a u) (bit_and (bit_or a u) c) (omega (arith, and_le_r a u)) (omega (arith, and_le_r (bit_or a u) c))

  carries : bit_xor (bit_and (bit_and (bit_xor a u) d) (bit_xor c a)) (bit_and d (2 ^ 64 - 1 - a)) ≡ bit_and d (2 ^ 64 - 1 - g)
  carries =
      let x = bit_and (bit_and (bit_xor a u) d) (bit_xor c a) in
      let y = bit_and d (2 ^ 64 - 1 - a) in
      let hx : x < 2 ^ 64 = omega (arith, and_le_l (bit_and (bit_xor a u) d) (bit_xor c a), and_le_r (bit_xor a u) d) in
      let hy : y < 2 ^ 64 = omega (arith, and_le_l d (2 ^ 64 - 1 - a)) in
      let hz : bit_and d (2 ^ 64 - 1 - g) < 2 ^ 64 = omega (arith, and_le_l d (2 ^ 64 - 1 - g)) in
      sym (mod-eq_of_lt (xor_lt 64 x y hx hy))
      ∙ same_bits 64 (bit_xor x y) (bit_and d (2 ^ 64 - 1 - g)) (λ i k.
      simp (xor_bit, and_bit, or_bit, not_bit 64 a i ha k, not_bit 64 g i g_lt k)
      (carries_low (digit_at a i) (digit_at u i) (digit_at c i) (digit_at d i)))
      ∙ mod-eq_of_lt hz

  -- those that fail are the tops of f
  pub these_fail : (f : ℕ) → eqb (bit_and (bit_and (bit_xor a u) d) (bit_xor c a)) (bit_xor (bit_and d (2 ^ 64 - 1 - a)) f) ≡ eqb (bit_and d (2 ^ 64 - 1 - g)) f
  these_fail f =
      let x = bit_and (bit_and (bit_xor a u) d) (bit_xor c a) in
      let y = bit_and d (2 ^ 64 - 1 - a) in
      eqb_cong x (bit_xor y f) (bit_and d (2 ^ 64 - 1 - g)) f
      (λ e. sym carries ∙ ap (λ (z : ℕ). bit_xor z y) e ∙ xor_comm (bit_xor y f) y ∙ twice y f)
      (λ e. sym (twice y x) ∙ ap (bit_xor y) (xor_comm y x ∙ carries ∙ e))

-- ---- the test

-- `low` and `need` are masks; flip and limit are the panel's
abbrev pub test_of : ℕ → ℕ → ℕ → ℕ → ℕ → ℕ → ℕ
test_of care flip limit low need w =
    bit_and (bit_xor (bit_and w (bit_and care need)) (bit_and (bit_xor flip limit) need))
    (bit_xor ((bit_and limit low + bit_xor (bit_and w (bit_and care low)) (bit_and flip low)) % 2 ^ 64) limit)

abbrev pub flip_of : ℕ → ℕ → ℕ → ℕ → ℕ
flip_of n a b c = bit_xor (2 ^ n - 1) (bit_xor (larger a b) (bit_and c (exact a b)))

test_is : (care flip k l d w f : ℕ) → k < 2 ^ 64 → d < 2 ^ 64 → bit_xor (bit_and w care) flip < 2 ^ 64
    → let u = bit_xor (bit_and w care) flip in
    eqb (test_of care flip k l d w) (bit_xor (bit_and d (2 ^ 64 - 1 - k)) f) ≡ eqb (bit_and d (2 ^ 64 - 1 - majority k u ((bit_and k l + bit_and u l) % 2 ^ 64))) f
test_is care flip k l d w f hk hd hu =
    let x = bit_and w care in
    let u = bit_xor x flip in
    let turn : bit_xor x (bit_xor flip k) ≡ bit_xor k u = ap (bit_xor x) (xor_comm flip k) ∙ swap x k flip in
    ap₂ (λ (y z : ℕ). eqb (bit_and y (bit_xor ((bit_and k l + z) % 2 ^ 64) k)) (bit_xor (bit_and d (2 ^ 64 - 1 - k)) f))
    (spread d w care (bit_xor flip k) ∙ ap (λ (y : ℕ). bit_and y d) turn) (spread l w care flip)
    ∙ these_fail k u ((bit_and k l + bit_and u l) % 2 ^ 64) d hk hu (mod-lt (bit_and k l + bit_and u l) (pow_pos 64)) hd f

module _ (n t : ℕ) (pos : 0 < n) (fits : n ≤ 64) (ht : t < 2 ^ n) (top : t / 2 ^ (n - 1) % 2 ≡ 1) where
  pub tested_word : (a b e c w : ℕ) → a < 2 ^ n → b < 2 ^ n → one_in (fields n t) a b ≡ true
      → let k = limit a b c (add_in (fields n t) (exact a b) (2 ^ n - 1) 0) in
      let need = above_in (fields n t) (bit_or a b) 0 0 in
      eqb (test_of (bit_or a b) (flip_of n a b c) k (2 ^ 64 - 1 - t) need w) (bit_xor (bit_and need (2 ^ 64 - 1 - k)) (above_in (fields n t) e 0 0)) ≡ plain_in (fields n t) a b e w c
  tested_word a b e c w ha hb one =
      let big : 2 ^ n ≤ 2 ^ 64 = pow_mono fits in
      let k = limit a b c (add_in (fields n t) (exact a b) (2 ^ n - 1) 0) in
      let need = above_in (fields n t) (bit_or a b) 0 0 in
      let hk : k < 2 ^ n = limit_lt n a b c (add_in (fields n t) (exact a b) (2 ^ n - 1) 0) ha hb in
      let hd : need < 2 ^ n = rw (bits_fields n t) at (above_lt (fields n t) (bit_or a b) 0 0) in
      let ab : bit_and a b < 2 ^ n = omega (arith, and_le_l a b) in
      let ex : exact a b < 2 ^ n = xor_lt n b (bit_and a b) hb ab in
      let tail : bit_xor (larger a b) (bit_and c (exact a b)) < 2 ^ n =
      xor_lt n (larger a b) (bit_and c (exact a b)) (xor_lt n a (bit_and a b) ha ab) (omega (arith, and_le_r c (exact a b))) in
      let ones : 2 ^ n - 1 < 2 ^ n = omega (arith, pow_pos n) in
      let cared : bit_and w (bit_or a b) < 2 ^ n = omega (arith, and_le_r w (bit_or a b), or_lt n a b ha hb) in
      let hu : bit_xor (bit_and w (bit_or a b)) (flip_of n a b c) < 2 ^ n = xor_lt n _ _ cared (xor_lt n (2 ^ n - 1) _ ones tail) in
      test_is (bit_or a b) (flip_of n a b c) k (2 ^ 64 - 1 - t) need w (above_in (fields n t) e 0 0) (omega arith) (omega arith) (omega arith)
      ∙ search_word n t pos fits ht top a b e c w ha hb one
