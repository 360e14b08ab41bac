-- Two numbers that agree at the bits of a mask; masks of one bit and of two.
use Prim.Native.Nat.{ℕ, zero, suc, ◌/◌, ◌^◌, ◌<◌, max}
use mathlib.Core.Path.{◌≡◌, refl, ap, ◌∙◌}
use mathlib.Core.Bool.{Bool, true, false, ◌&&◌, ◌||◌}
use native.Mathlib.Nat.{pow-suc, div-one}
use native.Mathlib.Omega.{arith}
use lib.Dec.{eqb, eqb-suc-zero, eqb-zero-suc, eqb-suc-suc}
use lib.Bits.{bit_or}
use borrow.Author.Tests.{eq-eqb, ne_eqb, eqb-true, eqb-false}
use Rattle.laws.specs.Bits.{bit, every, digit}
use Rattle.laws.proofs.Digits.{Bit, off, on, div_suc}
use Rattle.laws.proofs.Bits.{digit_at, every_at, every_all, every_like, or_bit, bit_none}
use Rattle.machine.specs.Machine.{response_bits, selected}

-- ---- a test at every place that can fail at two places only

pub every_no : (k : ℕ) (f : ℕ → Bool) (i : ℕ) → i < k → f i ≡ false → every k f ≡ false
every_no k f i g h = go (every k f) refl
  where
    go : (t : Bool) → every k f ≡ t → t ≡ false
    go true e = cc (every_at k f e i g)
    go false e = refl

pub every_two : (k : ℕ) (f : ℕ → Bool) (s t : ℕ) → s < k → t < k → ((i : ℕ) → i < k → (i ≡ s → ⊥) → (i ≡ t → ⊥) → f i ≡ true)
    → every k f ≡ (f s && f t)
every_two k f s t hs ht h = go (f s) (f t) refl refl
  where
    at : f s ≡ true → f t ≡ true → (i : ℕ) → i < k → (a b : Bool) → eqb i s ≡ a → eqb i t ≡ b → f i ≡ true
    at p q i g true b d e = rw (eqb-true i s d) p
    at p q i g false true d e = rw (eqb-true i t e) q
    at p q i g false false d e = h i g (eqb-false i s d) (eqb-false i t e)

    go : (a b : Bool) → f s ≡ a → f t ≡ b → every k f ≡ (a && b)
    go true true p q = every_all k f (λ i g. at p q i g (eqb i s) (eqb i t) refl refl)
    go true false p q = every_no k f t ht q
    go false b p q = every_no k f s hs p

-- ---- the bits of 2 ^ t

pub one_bit : (t i : ℕ) → bit (2 ^ t) i ≡ digit (eqb i t)
one_bit zero zero = refl
one_bit zero (suc i) = rw (div_suc 1 i, eqb-suc-zero i) (bit_none i)
one_bit (suc t) zero = rw (div-one (2 ^ suc t), eqb-zero-suc t) (omega (arith, pow-suc 2 t))
one_bit (suc t) (suc i) =
    let half : 2 ^ suc t / 2 ≡ 2 ^ t = omega (arith, pow-suc 2 t) in
    rw (div_suc (2 ^ suc t) i, half, eqb-suc-suc i t) (one_bit t i)

pub one_here : (t : ℕ) → bit (2 ^ t) t ≡ 1
one_here t = one_bit t t ∙ ap digit (eq-eqb t t refl)

pub one_there : (t i : ℕ) → (i ≡ t → ⊥) → bit (2 ^ t) i ≡ 0
one_there t i h = one_bit t i ∙ ap digit (ne_eqb i t h)

-- ---- agreement under a mask, over k bits

abbrev pub agrees : ℕ → ℕ → ℕ → ℕ → Bool
agrees k mask x y = every k (λ i. eqb (bit mask i) 0 || eqb (bit x i) (bit y i))

pub agrees_none : (k x y : ℕ) → agrees k 0 x y ≡ true
agrees_none k x y = every_all k _ (λ i g. rw (bit_none i))

pub agrees_one : (k t x y : ℕ) → t < k → agrees k (2 ^ t) x y ≡ eqb (bit x t) (bit y t)
agrees_one k t x y h =
    every_two k _ t t h h (λ i g a b. rw (one_there t i a)) ∙ rw (one_here t) (same (eqb (bit x t) (bit y t)))
  where
    same : (b : Bool) → (b && b) ≡ b
    same true = refl
    same false = refl

pub agrees_two : (k s t x y : ℕ) → s < k → t < k
    → agrees k (bit_or (2 ^ s) (2 ^ t)) x y ≡ (eqb (bit x s) (bit y s) && eqb (bit x t) (bit y t))
agrees_two k s t x y hs ht =
    every_two k _ s t hs ht (λ i g a b. rw (or_bit (2 ^ s) (2 ^ t) i, one_there s i a, one_there t i b))
    ∙ rw (or_bit (2 ^ s) (2 ^ t) s, one_here s, or_bit (2 ^ s) (2 ^ t) t, one_here t) (both (digit_at (2 ^ t) s) (digit_at (2 ^ s) t))
  where
    both : {a b : ℕ} → Bit a → Bit b
        → ((eqb (max 1 a) 0 || eqb (bit x s) (bit y s)) && (eqb (max b 1) 0 || eqb (bit x t) (bit y t))) ≡ (eqb (bit x s) (bit y s) && eqb (bit x t) (bit y t))
    both off off = refl
    both off on = refl
    both on off = refl
    both on on = refl

-- bits outside the mask do not count
pub agrees_like : (k mask x z y : ℕ) → ((i : ℕ) → i < k → (bit mask i ≡ 0 → ⊥) → bit z i ≡ bit x i) → agrees k mask z y ≡ agrees k mask x y
agrees_like k mask x z y h = every_like k _ _ (λ i g. go i g (eqb (bit mask i) 0) refl)
  where
    go : (i : ℕ) → i < k → (t : Bool) → eqb (bit mask i) 0 ≡ t → (t || eqb (bit z i) (bit y i)) ≡ (t || eqb (bit x i) (bit y i))
    go i g true e = refl
    go i g false e = rw (h i g (eqb-false (bit mask i) 0 e))

-- ---- selection

pub selected_one : (y r : ℕ) → y < response_bits → selected (2 ^ y) (2 ^ y) r ≡ eqb (bit r y) 1
unfolding selected
selected_one y r h = agrees_one response_bits y r (2 ^ y) h ∙ rw (one_here y)

pub selected_like : (key care r q : ℕ) → ((i : ℕ) → i < response_bits → (bit care i ≡ 0 → ⊥) → bit q i ≡ bit r i) → selected key care q ≡ selected key care r
unfolding selected
selected_like key care r q h = agrees_like response_bits care r q key h
