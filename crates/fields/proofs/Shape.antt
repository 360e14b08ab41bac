-- The fields of a word of n bits have n bits, and bit n-1 starts one whether or not the register says so.
use Prim.Native.Nat.{ℕ, zero, suc, ◌+◌, ◌-◌, ◌*◌, ◌/◌, ◌%◌, ◌^◌, ◌≤◌, ◌<◌, max}
use mathlib.Core.Path.{◌≡◌, refl, ap, ap₂, ◌∙◌}
use mathlib.Core.List.{List, [], ◌∷◌}
use mathlib.Core.Bool.{Bool, true, false}
use native.Mathlib.Nat.{max-zero, pow-suc, mod-lt, mul-le-mul_right}
use native.Mathlib.Omega.{arith}
use lib.Dec.{ltb}
use lib.Pow.{pow_pos, pow-lt, pow-add, shl-shr}
use lib.Bits.{bit_or, or_lt, or_shr}
use Rattle.laws.specs.Bits.{digit}
use Rattle.laws.proofs.Digits.{Bit, off, on, low, or_half, or_low}
use Rattle.fields.specs.Fields.{grow, fields, bits, add_in, above_in}
use Rattle.fields.specs.Tops.{Topped, tops_of}

bits_grow : (d : ℕ) (ks : List ℕ) → Bit d → bits (grow d ks) ≡ suc (bits ks)
unfolding bits
bits_grow d [] off = refl
bits_grow d (k ∷ ks) off = omega arith
bits_grow d ks on = omega arith

pub bits_fields : (n s : ℕ) → bits (fields n s) ≡ n
unfolding fields bits
bits_fields zero s = refl
bits_fields (suc n) s = bits_grow (s % 2) (fields n (s / 2)) (low s) ∙ ap suc (bits_fields n (s / 2))

grow_one : (d e : ℕ) → Bit d → Bit e → grow d [] ≡ grow e []
grow_one d e off off = refl
grow_one d e off on = refl
grow_one d e on off = refl
grow_one d e on on = refl

pub fields_top : (m s : ℕ) → fields (suc m) (bit_or s (2 ^ m)) ≡ fields (suc m) s
unfolding fields
fields_top zero s = grow_one (bit_or s 1 % 2) (s % 2) (low (bit_or s 1)) (low s)
fields_top (suc m) s =
    let half : 2 ^ suc m / 2 ≡ 2 ^ m = omega arith in
    let even : 2 ^ suc m % 2 ≡ 0 = omega arith in
    ap₂ grow (or_low s (2 ^ suc m) ∙ ap (max (s % 2)) even ∙ max-zero (s % 2))
    (ap (fields (suc m)) (or_half s (2 ^ suc m) ∙ ap (bit_or (s / 2)) half) ∙ fields_top m (s / 2))

-- the tops and SDR have the same fields
pub same_fields : (n s : ℕ) → 0 < n → fields n (tops_of n s) ≡ fields n s
same_fields zero s h = absurd (omega arith)
same_fields (suc m) s h = ap (λ (x : ℕ). fields (suc m) (bit_or s (2 ^ x))) (omega arith) ∙ fields_top m s

pub topped : (n s : ℕ) → 0 < n → n ≤ 64 → s < 2 ^ n → Topped n (tops_of n s)
topped n s h k g =
    record {
      pos = h;
      wide = k;
      within = or_lt n s (2 ^ (n - 1)) g (pow-lt (omega arith));
      top =
          ap (λ (x : ℕ). x % 2) (or_shr s (2 ^ (n - 1)) (n - 1) ∙ ap (bit_or (s / 2 ^ (n - 1))) (one_over (n - 1)))
          ∙ or_low (s / 2 ^ (n - 1)) 1
          ∙ omega arith;
    }
  where
    one_over : (k : ℕ) → 2 ^ k / 2 ^ k ≡ 1
    one_over k = ap (λ (x : ℕ). x / 2 ^ k) (omega arith) ∙ shl-shr 1 k

-- a sum by fields has no bit above them
pub add_lt : (ks : List ℕ) (w a c : ℕ) → add_in ks w a c < 2 ^ bits ks
unfolding add_in bits
add_lt [] w a c = omega arith
add_lt (k ∷ ks) w a c =
    let h : add_in ks (w / 2 ^ suc k) (a / 2 ^ suc k) 0 + 1 ≤ 2 ^ bits ks = omega (arith, add_lt ks (w / 2 ^ suc k) (a / 2 ^ suc k) 0) in
    rw (pow-add 2 (bits ks) (suc k)) (omega (arith, mod-lt (w + a + c) (pow_pos (suc k)), mul-le-mul_right (2 ^ suc k) h))

-- nor have the ones at tops
pub above_lt : (ks : List ℕ) (q p c : ℕ) → above_in ks q p c < 2 ^ bits ks
unfolding above_in bits
above_lt [] q p c = omega arith
above_lt (k ∷ ks) q p c =
    let h : above_in ks (q / 2 ^ suc k) (p / 2 ^ suc k) 0 + 1 ≤ 2 ^ bits ks = omega (arith, above_lt ks (q / 2 ^ suc k) (p / 2 ^ suc k) 0) in
    rw (pow-add 2 (bits ks) (suc k))
    (omega (arith, at_top (ltb (p % 2 ^ suc k) (q % 2 ^ suc k + c)) k, mul-le-mul_right (2 ^ suc k) h))
  where
    at_top : (i : Bool) (k : ℕ) → digit i * 2 ^ k < 2 ^ suc k
    at_top true k = omega (arith, pow_pos k, pow-suc 2 k)
    at_top false k = omega (arith, pow_pos k, pow-suc 2 k)
