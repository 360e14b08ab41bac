-- Sums over places: the ones of a number as the code counts them, its zeros, and the pairs of a product.
use Prim.Native.Nat.{ℕ, zero, suc, ◌+◌, ◌-◌, ◌%◌, ◌^◌, ◌≤◌, ◌<◌, min}
use mathlib.Core.Path.{◌≡◌, refl, sym, ap, ap₂, ◌∙◌}
use mathlib.Core.List.{List, [], ◌∷◌}
use mathlib.Core.Logic.{◌⊎◌, inl, inr, ⊎_elim}
use native.Mathlib.Nat.{mod-lt, mod-one, mod-eq_of_lt}
use native.Mathlib.Numerals.{add-one}
use native.Mathlib.Omega.{arith}
use lib.Dec.{ltb}
use lib.Count as count
use lib.Pow.{pow_pos}
use borrow.Author.Tests.{lt-ltb, le-ltb}
use Rattle.laws.specs.Bits.{bit, digit}
use Rattle.laws.proofs.Digits.{Bit, off, on, tri}
use Rattle.laws.proofs.Bits.{digit_at, top_bit, not_bit}
use Rattle.job_tally.specs.Totals.{sum_below, ones, zeros, greatest_of, smallest_of, if_any}

pub sum_like : (k : ℕ) (f g : ℕ → ℕ) → ((i : ℕ) → i < k → f i ≡ g i) → sum_below k f ≡ sum_below k g
unfolding sum_below
sum_like zero f g h = refl
sum_like (suc k) f g h = ap₂ (λ (a b : ℕ). a + b) (h k (omega arith)) (sum_like k f g (λ i l. h i (omega arith)))

pub sum_none : (g : ℕ → ℕ) → sum_below 0 g ≡ 0
unfolding sum_below
sum_none g = refl

-- one place more, as a loop adds it
pub sum_step : (k n x : ℕ) (g : ℕ → ℕ) → n ≡ sum_below k g → x ≡ g k → n + x ≡ sum_below (k + 1) g
unfolding sum_below
sum_step k n x g e d = rw (add-one k, ← e, ← d) (omega arith)

-- ---- "the number of ones in the greatest syllable (of zeros in the smallest)"

one_digit : {b : ℕ} → Bit b → count.ones b ≡ b
unfolding count.ones count.ones_in
one_digit off = refl
one_digit on = refl

ones_below : (k v : ℕ) → count.ones (v % 2 ^ k) ≡ ones k v
unfolding sum_below count.ones count.ones_in
ones_below zero v = ap count.ones (mod-one v)
ones_below (suc k) v =
    ap count.ones (top_bit k v)
    ∙ count.ones_cat k (bit v k) (v % 2 ^ k) (mod-lt v (pow_pos k))
    ∙ ap₂ (λ (a b : ℕ). a + b) (one_digit (digit_at v k)) (ones_below k v)

pub ones_is : (k v : ℕ) → v < 2 ^ k → count.ones v ≡ ones k v
ones_is k v h = ap count.ones (sym (mod-eq_of_lt h)) ∙ ones_below k v

-- the zeros of v are the ones of its complement within k bits
pub zeros_is : (k v : ℕ) → v < 2 ^ k → count.ones (2 ^ k - 1 - v) ≡ zeros k v
zeros_is k v h =
    ones_is k (2 ^ k - 1 - v) (omega (arith, pow_pos k)) ∙ sum_like k (bit (2 ^ k - 1 - v)) (λ i. 1 - bit v i) (λ i g. not_bit k v i h g)

-- of no values the greatest is 0 and the smallest all ones, which add nothing
pub any_ones : (k : ℕ) (vs : List ℕ) → if_any vs (ones k (greatest_of vs)) ≡ ones k (greatest_of vs)
unfolding greatest_of count.ones count.ones_in
any_ones k [] = ones_is k 0 (pow_pos k)
any_ones k (v ∷ vs) = refl

pub any_zeros : (k : ℕ) (vs : List ℕ) → if_any vs (zeros k (smallest_of (2 ^ k - 1) vs)) ≡ zeros k (smallest_of (2 ^ k - 1) vs)
unfolding smallest_of count.ones count.ones_in
any_zeros k [] =
    let z : 2 ^ k - 1 - (2 ^ k - 1) ≡ 0 = omega arith in
    ap count.ones (sym z) ∙ zeros_is k (2 ^ k - 1) (omega (arith, pow_pos k))
any_zeros k (v ∷ vs) = refl

-- ---- "the number of pairs with i+j below p"

pub pairs_is : (i b p : ℕ) → min b (p - i) ≡ sum_below b (λ j. digit (ltb (i + j) p))
unfolding sum_below
pairs_is i zero p = omega arith
pairs_is i (suc b) p = go (sum_below b (λ j. digit (ltb (i + j) p))) (pairs_is i b p) (below_or (i + b) p)
  where
    below_or : (x y : ℕ) → (x < y) ⊎ (y ≤ x)
    below_or x y = ⊎_elim inl (⊎_elim (λ e. inr (omega arith)) (λ h. inr (omega arith))) (tri x y)

    go : (n : ℕ) → min b (p - i) ≡ n → (i + b < p) ⊎ (p ≤ i + b) → min (suc b) (p - i) ≡ digit (ltb (i + b) p) + n
    go n e (inl h) = rw (lt-ltb (i + b) p h) (omega arith)
    go n e (inr h) = rw (le-ltb (i + b) p h) (omega arith)
