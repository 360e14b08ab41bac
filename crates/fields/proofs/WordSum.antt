-- Adding by syllables with no mask at the end: the highest bit is a top, so the lower bits of word and addend never carry past it.
-- Document 01, 'One pulse', Add; "a 64-bit syllable at 2^64-1 plus 1 gives 0". A law for every width.
use Prim.Native.Nat.{ℕ, zero, suc, ◌+◌, ◌-◌, ◌*◌, ◌%◌, ◌^◌, ◌≤◌, ◌<◌}
use mathlib.Core.Path.{◌≡◌, sym, ap, ◌∙◌}
use mathlib.Core.List.{List}
use native.Mathlib.Nat.{mod-eq_of_lt, pow-suc}
use native.Mathlib.Omega.{arith}
use lib.Pow.{pow_pos, pow_mono, not_mod}
use lib.Bits.{bit_and, bit_xor, and_le_l, and_le_r, xor_lt, or_lt, or_add_and, and_mod}
use Rattle.fields.specs.Fields.{fields, add_in}
use Rattle.fields.specs.Tops.{tops_of}
use Rattle.fields.proofs.Sums.{word_add}
use Rattle.fields.proofs.Shape.{same_fields}

twice : (m : ℕ) → 0 < m → 2 ^ (m - 1) * 2 ≡ 2 ^ m
twice zero h = absurd (omega arith)
twice (suc m) h = ap (λ (x : ℕ). 2 ^ x * 2) (omega arith) ∙ sym (pow-suc 2 m)

-- a word of n bits less its tops is below bit n-1
below_top : (n t w : ℕ) → 0 < n → n ≤ 64 → t < 2 ^ n → 2 ^ (n - 1) ≤ t → w < 2 ^ n → bit_and w (2 ^ 64 - 1 - t) < 2 ^ (n - 1)
below_top n t w pos fits ht up hw =
    let x = 2 ^ 64 - 1 - t in
    let e : 64 - n + n ≡ 64 = omega arith in
    let m : x % 2 ^ n ≡ 2 ^ n - 1 - t = ap (λ (k : ℕ). (2 ^ k - 1 - t) % 2 ^ n) (sym e) ∙ not_mod (64 - n) n ht in
    let b : bit_and w x < 2 ^ n = omega (arith, and_le_l w x) in
    let f : bit_and w x ≡ bit_and (w % 2 ^ n) (x % 2 ^ n) = sym (mod-eq_of_lt b) ∙ and_mod w x n in
    omega (arith, f, m, and_le_r (w % 2 ^ n) (x % 2 ^ n), twice n pos, pow_pos (n - 1))

pub sum_word : (n s w a : ℕ) → 0 < n → n ≤ 64 → s < 2 ^ n → w < 2 ^ n → a < 2 ^ n
    → let t = tops_of n s in
    bit_xor ((bit_and w (2 ^ 64 - 1 - t) + bit_and a (2 ^ 64 - 1 - t)) % 2 ^ 64) (bit_and (bit_xor w a) t) ≡ add_in (fields n s) w a 0
sum_word n s w a pos fits hs hw ha =
    let t = tops_of n s in
    let half : 2 ^ (n - 1) * 2 ≡ 2 ^ n = twice n pos in
    let ht : t < 2 ^ n = or_lt n s (2 ^ (n - 1)) hs (omega (arith, pow_pos (n - 1))) in
    let up : 2 ^ (n - 1) ≤ t = omega (arith, or_add_and s (2 ^ (n - 1)), and_le_l s (2 ^ (n - 1))) in
    let big : 2 ^ n ≤ 2 ^ 64 = pow_mono fits in
    let x = bit_and w (2 ^ 64 - 1 - t) + bit_and a (2 ^ 64 - 1 - t) in
    let hx : x < 2 ^ n = omega (arith, below_top n t w pos fits ht up hw, below_top n t a pos fits ht up ha) in
    let whole : x % 2 ^ 64 ≡ x = mod-eq_of_lt (omega arith) in
    let small : x % 2 ^ 64 < 2 ^ n = omega arith in
    sym (mod-eq_of_lt (xor_lt n (x % 2 ^ 64) (bit_and (bit_xor w a) t) small (omega (arith, and_le_r (bit_xor w a) t))))
    ∙ word_add n t w a fits (omega arith) (omega arith) (omega arith)
    ∙ ap (λ (ks : List ℕ). add_in ks w a 0) (same_fields n s pos)
