-- The bits that an add asks to flip: worked out below the tops and at the tops apart, they are those at which the sum differs from the word.
use Rattle.std.proofs.Common.{◌≡◌, ℕ, ◌-◌, ◌^◌, ◌<◌, min, sym, refl, ◌∙◌, arith}
use lib.Bits.{bit_and, bit_xor, differ, and_lt, xor_lt}
use Rattle.laws.specs.Bits.{bit}
use Rattle.laws.proofs.Digits.{Bit, off, on}
use Rattle.laws.proofs.Bits.{digit_at, number_fits, and_bit, xor_bit, not_bit}

-- of the word's bit, the addend's, whether it is a top, and what the add below the tops gives there
one_asked : {w a t s : ℕ} → Bit w → Bit a → Bit t → Bit s
    → differ (differ s (min w (1 - t))) (min a t) ≡ differ w (differ s (min (differ w a) t))
one_asked off off off off = refl
one_asked off off off on = refl
one_asked off off on off = refl
one_asked off off on on = refl
one_asked off on off off = refl
one_asked off on off on = refl
one_asked off on on off = refl
one_asked off on on on = refl
one_asked on off off off = refl
one_asked on off off on = refl
one_asked on off on off = refl
one_asked on off on on = refl
one_asked on on off off = refl
one_asked on on off on = refl
one_asked on on on off = refl
one_asked on on on on = refl

pub asked_is : (m w a t s : ℕ) → w < 2 ^ m → a < 2 ^ m → t < 2 ^ m → s < 2 ^ m
    → bit_xor (bit_xor s (bit_and w (2 ^ m - 1 - t))) (bit_and a t) ≡ bit_xor w (bit_xor s (bit_and (bit_xor w a) t))
asked_is m w a t s hw ha ht hs =
    let not_t : 2 ^ m - 1 - t < 2 ^ m = omega arith in
    sym (number_fits m _ (bit (bit_xor (bit_xor s (bit_and w (2 ^ m - 1 - t))) (bit_and a t)))
    (xor_lt m _ _ (xor_lt m s _ hs (and_lt m w _ hw not_t)) (and_lt m a t ha ht)) (λ i g. refl))
    ∙ number_fits m _ _ (xor_lt m w _ hw (xor_lt m s _ hs (and_lt m _ t (xor_lt m w a hw ha) ht)))
    (λ i g. sym (simp (xor_bit, and_bit) (rw (not_bit m t i ht g) (one_asked (digit_at w i) (digit_at a i) (digit_at t i) (digit_at s i)))))
