-- Adding by syllables is one sum of whole words with the tops put right: "no carry crosses a syllable's top".
-- Document 01, 'One pulse', Add. Laws for every width.
use Prim.Native.Nat.{ℕ, zero, suc, ◌+◌, ◌-◌, ◌*◌, ◌/◌, ◌%◌, ◌^◌, ◌≤◌, ◌<◌, min}
use mathlib.Core.Path.{◌≡◌, refl, sym, ap, ap₂, ◌∙◌}
use mathlib.Core.List.{List, [], ◌∷◌}
use native.Mathlib.Nat.{mod-one, pow-suc}
use native.Mathlib.Omega.{arith}
use lib.Pow.{pow_pos, mod-mod-pow}
use lib.Arith.{lt-one}
use lib.Bits.{bit_and, bit_xor, differ, and_step, and_le_l, xor_mod}
use Rattle.fields.specs.Fields.{grow, fields, add_in}
use Rattle.laws.proofs.Digits.{Bit, off, on, low, digit, bit_lt, mod_suc, div_suc, and_half, and_low, xor_half, xor_low}

-- ---- bit by bit

-- a top lets no carry out
abbrev pub cut : ℕ → ℕ → ℕ
cut zero c = c
cut (suc d) c = zero

-- n bits, with a carry into the lowest
unfoldable cells_add : ℕ → ℕ → ℕ → ℕ → ℕ → ℕ
cells_add zero s w a c = zero
cells_add (suc n) s w a c = cells_add n (s / 2) (w / 2) (a / 2) (cut (s % 2) ((w % 2 + a % 2 + c) / 2)) * 2 + (w % 2 + a % 2 + c) % 2

grown : (d : ℕ) (ks : List ℕ) (w a c : ℕ) → Bit d
    → add_in ks (w / 2) (a / 2) (cut d ((w % 2 + a % 2 + c) / 2)) * 2 + (w % 2 + a % 2 + c) % 2 ≡ add_in (grow d ks) w a c
unfolding add_in
grown d [] w a c off = omega arith
grown d (k ∷ ks) w a c off =
    let e : (w + a + c) / 2 ≡ w / 2 + a / 2 + (w % 2 + a % 2 + c) / 2 = omega arith in
    simp (mod_suc (w + a + c) (suc k), div_suc w (suc k), div_suc a (suc k), e) (rw (pow-suc 2 (suc k)) (omega arith))
grown d ks w a c on = omega arith

cells_add_lem : (n s w a c : ℕ) → cells_add n s w a c ≡ add_in (fields n s) w a c
unfolding cells_add fields add_in
cells_add_lem zero s w a c = refl
cells_add_lem (suc n) s w a c =
    ap (λ (x : ℕ). x * 2 + (w % 2 + a % 2 + c) % 2) (cells_add_lem n (s / 2) (w / 2) (a / 2) (cut (s % 2) ((w % 2 + a % 2 + c) / 2)))
    ∙ grown (s % 2) (fields n (s / 2)) w a c (low s)

-- ---- the word-wide sum

-- w less the bits of t
abbrev pub clear : ℕ → ℕ → ℕ
clear w t = w - bit_and w t

unfoldable pub keep : ℕ → ℕ → ℕ → ℕ → ℕ
keep zero x y c = (x + y + c) % 2
keep (suc d) x y c = c

keep_lt : (x y d c : ℕ) → Bit d → Bit c → keep d x y c < 2
unfolding keep
keep_lt x y d c off q = omega arith
keep_lt x y d c on q = bit_lt q

digits : (A B : ℕ) {x y d c : ℕ} → Bit x → Bit y → Bit d → Bit c
    → (A * 2 + (x - min x d)) + (B * 2 + (y - min y d)) + c ≡ (A + B + cut d ((x + y + c) / 2)) * 2 + keep d x y c
unfolding keep
digits A B off off off off = omega arith
digits A B off off off on = omega arith
digits A B off off on off = omega arith
digits A B off off on on = omega arith
digits A B off on off off = omega arith
digits A B off on off on = omega arith
digits A B off on on off = omega arith
digits A B off on on on = omega arith
digits A B on off off off = omega arith
digits A B on off off on = omega arith
digits A B on off on off = omega arith
digits A B on off on on = omega arith
digits A B on on off off = omega arith
digits A B on on off on = omega arith
digits A B on on on off = omega arith
digits A B on on on on = omega arith

pub clear_step : (w t : ℕ) → clear w t ≡ clear (w / 2) (t / 2) * 2 + (w % 2 - min (w % 2) (t % 2))
clear_step w t = omega (arith, and_step w t, and_le_l (w / 2) (t / 2))

unfoldable pub sum : ℕ → ℕ → ℕ → ℕ → ℕ
sum w a t c = clear w t + clear a t + c

sum_step : (w a t c : ℕ) → Bit c
    → sum w a t c ≡ sum (w / 2) (a / 2) (t / 2) (cut (t % 2) ((w % 2 + a % 2 + c) / 2)) * 2 + keep (t % 2) (w % 2) (a % 2) c
unfolding sum
sum_step w a t c q =
    ap₂ (λ (x y : ℕ). x + y + c) (clear_step w t) (clear_step a t)
    ∙ digits (clear (w / 2) (t / 2)) (clear (a / 2) (t / 2)) (low w) (low a) (low t) q

keep_low : (x y d c : ℕ) → Bit x → Bit y → Bit d → Bit c → differ (keep d x y c) (min (differ x y) d) ≡ (x + y + c) % 2
unfolding keep
keep_low x y d c off off off off = refl
keep_low x y d c off off off on = refl
keep_low x y d c off off on off = refl
keep_low x y d c off off on on = refl
keep_low x y d c off on off off = refl
keep_low x y d c off on off on = refl
keep_low x y d c off on on off = refl
keep_low x y d c off on on on = refl
keep_low x y d c on off off off = refl
keep_low x y d c on off off on = refl
keep_low x y d c on off on off = refl
keep_low x y d c on off on on = refl
keep_low x y d c on on off off = refl
keep_low x y d c on on off on = refl
keep_low x y d c on on on off = refl
keep_low x y d c on on on on = refl

pub carry : (x y d c : ℕ) → Bit x → Bit y → Bit d → Bit c → Bit (cut d ((x + y + c) / 2))
carry x y d c p q off r = digit ((x + y + c) / 2) (omega (arith, bit_lt p, bit_lt q, bit_lt r))
carry x y d c p q on r = off

pub sum_half : (w a t c : ℕ) → Bit c → sum w a t c / 2 ≡ sum (w / 2) (a / 2) (t / 2) (cut (t % 2) ((w % 2 + a % 2 + c) / 2))
sum_half w a t c q = omega (arith, sum_step w a t c q, keep_lt (w % 2) (a % 2) (t % 2) c (low t) q)

pub sum_low : (w a t c : ℕ) → Bit c → sum w a t c % 2 ≡ keep (t % 2) (w % 2) (a % 2) c
sum_low w a t c q = omega (arith, sum_step w a t c q, keep_lt (w % 2) (a % 2) (t % 2) c (low t) q)

-- one sum of whole words, and the tops put right
wide_add : (n s w a c : ℕ) → Bit c → cells_add n s w a c ≡ bit_xor (sum w a s c) (bit_and (bit_xor w a) s) % 2 ^ n
unfolding cells_add
wide_add zero s w a c q = sym (mod-one _)
wide_add (suc n) s w a c q =
    ap (λ (x : ℕ). x * 2 + (w % 2 + a % 2 + c) % 2) (wide_add n (s / 2) (w / 2) (a / 2) _ (carry _ _ _ c (low w) (low a) (low s) q))
    ∙ sym (simp (mod_suc, xor_half, xor_low, and_half, and_low, sum_half w a s c q, sum_low w a s c q, keep_low (w % 2) (a % 2) (s % 2) c (low w) (low a) (low s) q))

-- ---- in words of 64 bits

flip : (x d : ℕ) → Bit x → Bit d → min x (1 - d) ≡ x - min x d
flip x d off off = refl
flip x d off on = refl
flip x d on off = refl
flip x d on on = refl

pub and_not : (m w t : ℕ) → w < 2 ^ m → t < 2 ^ m → bit_and w (2 ^ m - 1 - t) ≡ clear w t
and_not zero w t h g = rw (lt-one h) refl
and_not (suc m) w t h g =
    and_step w (2 ^ suc m - 1 - t)
    ∙ ap₂ (λ (x y : ℕ). bit_and (w / 2) x * 2 + min (w % 2) y) half odd
    ∙ ap₂ (λ (x y : ℕ). x * 2 + y) (and_not m (w / 2) (t / 2) (omega arith) (omega arith)) (flip (w % 2) (t % 2) (low w) (low t))
    ∙ sym (clear_step w t)
  where
    half : (2 ^ suc m - 1 - t) / 2 ≡ 2 ^ m - 1 - t / 2
    half = omega (arith, pow_pos m)

    odd : (2 ^ suc m - 1 - t) % 2 ≡ 1 - t % 2
    odd = omega (arith, pow_pos m)

-- bits that a wrapped sum loses are not looked at
pub unwrap : (n x : ℕ) → n ≤ 64 → x % 2 ^ 64 % 2 ^ n ≡ x % 2 ^ n
unwrap n x h = lows (64 - n) (omega arith)
  where
    lows : (j : ℕ) → j + n ≡ 64 → x % 2 ^ 64 % 2 ^ n ≡ x % 2 ^ n
    lows j e = ap (λ (m : ℕ). x % 2 ^ m % 2 ^ n) (sym e) ∙ mod-mod-pow x j n

pub xor_wrap : (n x y : ℕ) → n ≤ 64 → bit_xor (x % 2 ^ 64) y % 2 ^ n ≡ bit_xor x y % 2 ^ n
xor_wrap n x y h =
    xor_mod (x % 2 ^ 64) y n ∙ ap (λ (z : ℕ). bit_xor z (y % 2 ^ n)) (unwrap n x h) ∙ sym (xor_mod x y n)

pub word_add : (n s w a : ℕ) → n ≤ 64 → s < 2 ^ 64 → w < 2 ^ 64 → a < 2 ^ 64
    → bit_xor ((bit_and w (2 ^ 64 - 1 - s) + bit_and a (2 ^ 64 - 1 - s)) % 2 ^ 64) (bit_and (bit_xor w a) s) % 2 ^ n ≡ add_in (fields n s) w a 0
unfolding sum
word_add n s w a h hs hw ha =
    let e : clear w s + clear a s ≡ clear w s + clear a s + 0 = omega arith in
    xor_wrap n (bit_and w (2 ^ 64 - 1 - s) + bit_and a (2 ^ 64 - 1 - s)) (bit_and (bit_xor w a) s) h
    ∙ ap₂ (λ (x y : ℕ). bit_xor (x + y) (bit_and (bit_xor w a) s) % 2 ^ n) (and_not 64 w s hw hs) (and_not 64 a s ha hs)
    ∙ ap (λ (x : ℕ). bit_xor x (bit_and (bit_xor w a) s) % 2 ^ n) e
    ∙ sym (wide_add n s w a 0 off)
    ∙ cells_add_lem n s w a 0
