-- What the definitions that go bit by bit are as masks of whole numbers: selection, marks, flips, writes and the addend.
use Prim.Native.Nat.{ℕ, ◌-◌, ◌^◌, ◌<◌, min, max}
use mathlib.Core.Path.{◌≡◌, refl, sym, ap₂, ◌∙◌}
use mathlib.Core.Bool.{Bool, true, false, not, ◌||◌}
use native.Mathlib.Nat.{mod-eq_of_lt}
use native.Mathlib.Omega.{arith}
use lib.Dec.{eqb}
use lib.Bits.{bit_and, bit_or, bit_xor, differ, and_le_l, and_le_r, or_lt, xor_lt}
use Rattle.laws.specs.Bits.{bit, pick}
use Rattle.laws.proofs.Digits.{Bit, off, on}
use Rattle.laws.proofs.Bits.{digit_at, number_fits, every_like, every_eqb, and_bit, or_bit, xor_bit, not_bit}
use Rattle.machine.specs.declared.Panel.{Panel}
use Rattle.machine.specs.Machine.{response_bits, selected}
use Rattle.machine.specs.Search.{marked}
use Rattle.machine.specs.Pulse.{written, addend, flipped, both_of}

-- ---- one bit

one_selected : {c r k : ℕ} → Bit c → Bit r → Bit k → (eqb c 0 || eqb r k) ≡ eqb (min r c) (min k c)
one_selected off off off = refl
one_selected off off on = refl
one_selected off on off = refl
one_selected off on on = refl
one_selected on off off = refl
one_selected on off on = refl
one_selected on on off = refl
one_selected on on on = refl

one_written : {m c w : ℕ} → Bit m → Bit c → Bit w → differ w (min (differ w c) m) ≡ pick (eqb m 1) c w
one_written off off off = refl
one_written off off on = refl
one_written off on off = refl
one_written off on on = refl
one_written on off off = refl
one_written on off on = refl
one_written on on off = refl
one_written on on on = refl

one_both : {w x y : ℕ} → Bit w → Bit x → Bit y → differ w (max (differ w x) (differ w y)) ≡ pick (not (eqb x w) || not (eqb y w)) (1 - w) w
one_both off off off = refl
one_both off off on = refl
one_both off on off = refl
one_both off on on = refl
one_both on off off = refl
one_both on off on = refl
one_both on on off = refl
one_both on on on = refl

-- under a mask's bit: set, cleared, flipped, kept
one_masked : {m r : ℕ} → Bit m → Bit r
    → (max r m ≡ pick (eqb m 1) 1 r) × (min r (1 - m) ≡ pick (eqb m 1) 0 r) × (differ r m ≡ pick (eqb m 1) (1 - r) r) × (min r m ≡ pick (eqb m 1) r 0)
one_masked off off = (refl, refl, refl, refl)
one_masked off on = (refl, refl, refl, refl)
one_masked on off = (refl, refl, refl, refl)
one_masked on on = (refl, refl, refl, refl)

-- ---- all of them

pub selected_is : (key care r : ℕ) → care < 2 ^ response_bits → selected key care r ≡ eqb (bit_and r care) (bit_and key care)
unfolding selected
selected_is key care r h =
    let a : bit_and r care < 2 ^ response_bits = omega (arith, and_le_r r care) in
    let b : bit_and key care < 2 ^ response_bits = omega (arith, and_le_r key care) in
    every_like response_bits _ (λ i. eqb (bit (bit_and r care) i) (bit (bit_and key care) i))
    (λ i g. one_selected (digit_at care i) (digit_at r i) (digit_at key i) ∙ sym (ap₂ eqb (and_bit r care i) (and_bit key care i)))
    ∙ every_eqb response_bits (bit_and r care) (bit_and key care)
    ∙ ap₂ eqb (mod-eq_of_lt a) (mod-eq_of_lt b)

pub marked_is : (target : ℕ) (m : Bool) (r : ℕ) → r < 2 ^ response_bits → target < 2 ^ response_bits
    → marked target m r ≡ pick m (bit_or r target) (bit_and r (2 ^ response_bits - 1 - target))
unfolding marked
marked_is t true r hr ht =
    number_fits response_bits _ _ (or_lt response_bits r t hr ht) (λ i g. rw or_bit (one_masked (digit_at t i) (digit_at r i)).0)
marked_is t false r hr ht =
    number_fits response_bits _ _ (omega (arith, and_le_l r (2 ^ response_bits - 1 - t)))
    (λ i g. rw (and_bit, not_bit response_bits t i ht g) (one_masked (digit_at t i) (digit_at r i)).1)

pub flipped_is : (target r : ℕ) → r < 2 ^ response_bits → target < 2 ^ response_bits → flipped target r ≡ bit_xor r target
unfolding flipped
flipped_is t r hr ht =
    number_fits response_bits _ _ (xor_lt response_bits r t hr ht) (λ i g. rw xor_bit (one_masked (digit_at t i) (digit_at r i)).2)

pub written_is : (n : ℕ) (p : Panel) (w : ℕ) → w < 2 ^ n → p.comp < 2 ^ n
    → written n p w ≡ bit_xor w (bit_and (bit_xor w p.comp) p.mor)
unfolding written
written_is n p w hw hc =
    number_fits n _ _ (xor_lt n w _ hw (omega (arith, and_le_l (bit_xor w p.comp) p.mor, xor_lt n w p.comp hw hc)))
    (λ i g. simp (xor_bit, and_bit) (one_written (digit_at p.mor i) (digit_at p.comp i) (digit_at w i)))

pub both_is : (n w x y : ℕ) → w < 2 ^ n → x < 2 ^ n → y < 2 ^ n → both_of n w x y ≡ bit_xor w (bit_or (bit_xor w x) (bit_xor w y))
both_is n w x y hw hx hy =
    number_fits n _ _ (xor_lt n w _ hw (or_lt n (bit_xor w x) (bit_xor w y) (xor_lt n w x hw hx) (xor_lt n w y hw hy)))
    (λ i g. simp (xor_bit, or_bit) (one_both (digit_at w i) (digit_at x i) (digit_at y i)))

pub addend_is : (p : Panel) (i : ℕ) → bit (bit_and p.comp p.mor) i ≡ addend p i
addend_is p i = rw and_bit (one_masked (digit_at p.mor i) (digit_at p.comp i)).3
