-- What merging by a mask makes of a word and of response bits.
use Prim.Native.Nat.{ℕ, ◌-◌, ◌^◌, ◌<◌}
use mathlib.Core.Path.{◌≡◌, refl, ap, ◌∙◌}
use mathlib.Core.Bool.{Bool, true, false, not, ◌||◌}
use native.Mathlib.Omega.{arith}
use lib.Dec.{eqb}
use lib.Bits.{bit_xor, differ}
use Rattle.laws.specs.Bits.{bit, number, pick, digit, under}
use Rattle.laws.proofs.Digits.{Bit, off, on}
use Rattle.laws.proofs.Bits.{digit_at, number_like, xor_bit, not_bit, bit_none}
use Rattle.machine.specs.Machine.{response_bits}
use Rattle.machine.specs.Search.{marked}
use Rattle.machine.specs.Pulse.{flipped, both_of}

-- all ones or none, as the bit that says whether a word matches
pub all_or_none : (m : Bool) (i : ℕ) → i < 64 → bit (pick m (2 ^ 64 - 1) 0) i ≡ digit m
all_or_none true i h = ap (λ (x : ℕ). bit x i) (omega arith) ∙ not_bit 64 0 i (omega arith) h ∙ ap (λ (x : ℕ). 1 - x) (bit_none i)
all_or_none false i h = bit_none i

pub mark_is : (target : ℕ) (m : Bool) (ones r : ℕ) → ones ≡ pick m (2 ^ 64 - 1) 0 → number response_bits (under target (bit ones) (bit r)) ≡ marked target m r
unfolding marked
mark_is target m ones r e =
    number_like response_bits _ _ (λ i h. ap (λ (x : ℕ). pick (eqb (bit target i) 1) x (bit r i)) (ap (λ (x : ℕ). bit x i) e ∙ all_or_none m i (omega arith)))

pub flip_is : (target r : ℕ) → r < 2 ^ 64 → number response_bits (under target (bit (2 ^ 64 - 1 - r)) (bit r)) ≡ flipped target r
unfolding flipped
flip_is target r g =
    number_like response_bits _ _ (λ i h. ap (λ (x : ℕ). pick (eqb (bit target i) 1) x (bit r i)) (not_bit 64 r i g (omega arith)))

-- where x asks to flip the bit is x's, and elsewhere y's
one_both : {w x y : ℕ} → Bit w → Bit x → Bit y → pick (eqb (differ x w) 1) x y ≡ pick (not (eqb x w) || not (eqb y w)) (1 - w) w
one_both off off off = refl
one_both off off on = refl
one_both off on off = refl
one_both off on on = refl
one_both on off off = refl
one_both on off on = refl
one_both on on off = refl
one_both on on on = refl

pub both_merged : (n w x y : ℕ) → number n (under (bit_xor x w) (bit x) (bit y)) ≡ both_of n w x y
both_merged n w x y =
    number_like n _ _
    (λ i h. ap (λ (d : ℕ). pick (eqb d 1) (bit x i) (bit y i)) (xor_bit x w i) ∙ one_both (digit_at w i) (digit_at x i) (digit_at y i))
