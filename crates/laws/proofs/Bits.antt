-- Numbers and their bits: `number`, `every` and masks, for any count of bits.
use Prim.Native.Nat.{ℕ, zero, suc, ◌+◌, ◌-◌, ◌*◌, ◌/◌, ◌%◌, ◌^◌, ◌≤◌, ◌<◌, min, max}
use mathlib.Core.Path.{◌≡◌, refl, sym, ap, ap₂, ◌∙◌}
use mathlib.Core.Bool.{Bool, true, false, ◌&&◌, ◌||◌}
use mathlib.Core.Logic.{◌⊎◌, inl, inr, ⊎_elim}
use native.Mathlib.Nat.{mod-one, mod-lt, mod-eq_of_lt, pow-suc, zero-div, div-one, mul-le-mul_right}
use native.Mathlib.Numerals.{one-add}
use native.Mathlib.Omega.{arith}
use lib.Dec.{eqb}
use borrow.Author.Tests.{eq-eqb, ne_eqb}
use lib.Pow.{pow_pos, low, high, mod-pow-add, shr-shr}
use lib.Bits.{bit_and, bit_or, bit_xor, differ, and_shr, or_shr, xor_shr}
use Rattle.laws.specs.Bits.{bit, number, every}
use Rattle.laws.proofs.Digits as d

-- every bit of a number is a digit
pub digit_at : (x i : ℕ) → d.Bit (bit x i)
digit_at x i = d.low (x / 2 ^ i)

-- bit lo + j is bit j of what stands above the lo low bits
pub shifted : (x lo j : ℕ) → bit x (lo + j) ≡ bit (x / 2 ^ lo) j
shifted x lo j = ap (λ (y : ℕ). y % 2) (sym (shr-shr x lo j))

-- ---- the number of k bits

-- the top bit, and the rest
pub top_bit : (k x : ℕ) → x % 2 ^ suc k ≡ bit x k * 2 ^ k + x % 2 ^ k
top_bit k x = rw one-add at (mod-pow-add x 1 k)

pub number_is : (k x : ℕ) (f : ℕ → ℕ) → ((i : ℕ) → i < k → bit x i ≡ f i) → number k f ≡ x % 2 ^ k
unfolding number
number_is zero x f h = sym (mod-one x)
number_is (suc k) x f h =
    ap₂ (λ (a b : ℕ). a * 2 ^ k + b) (sym (h k (omega arith))) (number_is k x f (λ i g. h i (omega arith))) ∙ sym (top_bit k x)

pub number_fits : (k x : ℕ) (f : ℕ → ℕ) → x < 2 ^ k → ((i : ℕ) → i < k → bit x i ≡ f i) → number k f ≡ x
number_fits k x f l h = number_is k x f h ∙ mod-eq_of_lt l

pub number_like : (k : ℕ) (f g : ℕ → ℕ) → ((i : ℕ) → i < k → f i ≡ g i) → number k f ≡ number k g
unfolding number
number_like zero f g h = refl
number_like (suc k) f g h =
    ap₂ (λ (a b : ℕ). a * 2 ^ k + b) (h k (omega arith)) (number_like k f g (λ i l. h i (omega arith)))

pub number_lt : (k : ℕ) (f : ℕ → ℕ) → ((j : ℕ) → j < k → f j < 2) → number k f < 2 ^ k
unfolding number
number_lt zero f h = omega arith
number_lt (suc k) f h =
    let one : f k ≤ 1 = omega (arith, h k (omega arith)) in
    rw (pow-suc 2 k) (omega (arith, number_lt k f (λ j g. h j (omega arith)), mul-le-mul_right (2 ^ k) one))

-- ---- a test at every place

pub every_like : (k : ℕ) (f g : ℕ → Bool) → ((i : ℕ) → i < k → f i ≡ g i) → every k f ≡ every k g
unfolding every
every_like zero f g h = refl
every_like (suc k) f g h =
    ap₂ (λ (a b : Bool). a && b) (h k (omega arith)) (every_like k f g (λ i l. h i (omega arith)))

pub and_left : (a b : Bool) → (a && b) ≡ true → a ≡ true
and_left true b h = refl
and_left false b h = h

pub and_right : (a b : Bool) → (a && b) ≡ true → b ≡ true
and_right true b h = h
and_right false b h = cc

pub or_cases : (a b : Bool) → (a || b) ≡ true → (a ≡ true) ⊎ (b ≡ true)
or_cases true b h = inl refl
or_cases false b h = inr h

pub every_at : (k : ℕ) (f : ℕ → Bool) → every k f ≡ true → (i : ℕ) → i < k → f i ≡ true
unfolding every
every_at zero f h i g = absurd (omega arith)
every_at (suc k) f h i g =
    ⊎_elim (every_at k f (and_right (f k) (every k f) h) i) (λ e. rw e (and_left (f k) (every k f) h)) (or_last i k g)
  where
    or_last : (i k : ℕ) → i < suc k → (i < k) ⊎ (i ≡ k)
    or_last i k g = ⊎_elim inl (⊎_elim inr (λ e. absurd (omega arith))) (d.tri i k)

pub every_all : (k : ℕ) (f : ℕ → Bool) → ((i : ℕ) → i < k → f i ≡ true) → every k f ≡ true
unfolding every
every_all zero f h = refl
every_all (suc k) f h = rw (h k (omega arith)) (every_all k f (λ i g. h i (omega arith)))

-- ---- bits of masks

pub and_bit : (x y i : ℕ) → bit (bit_and x y) i ≡ min (bit x i) (bit y i)
and_bit x y i = rw and_shr (d.and_low (x / 2 ^ i) (y / 2 ^ i))

pub or_bit : (x y i : ℕ) → bit (bit_or x y) i ≡ max (bit x i) (bit y i)
or_bit x y i = rw or_shr (d.or_low (x / 2 ^ i) (y / 2 ^ i))

pub xor_bit : (x y i : ℕ) → bit (bit_xor x y) i ≡ differ (bit x i) (bit y i)
xor_bit x y i = rw xor_shr (d.xor_low (x / 2 ^ i) (y / 2 ^ i))

-- the complement of m bits
pub not_bit : (m t i : ℕ) → t < 2 ^ m → i < m → bit (2 ^ m - 1 - t) i ≡ 1 - bit t i
not_bit zero t i h g = absurd (omega arith)
not_bit (suc m) t zero h g = omega (arith, pow_pos m)
not_bit (suc m) t (suc i) h g =
    let half : (2 ^ suc m - 1 - t) / 2 ≡ 2 ^ m - 1 - t / 2 = omega (arith, pow_pos m) in
    rw (d.div_suc (2 ^ suc m - 1 - t) i, half, d.div_suc t i) (not_bit m (t / 2) i (omega arith) (omega arith))

pub bit_none : (i : ℕ) → bit 0 i ≡ 0
bit_none i = ap (λ (y : ℕ). y % 2) (zero-div (2 ^ i))

-- numbers of k bits are equal where their bits are, and the other way round
pub same_bits : (k x y : ℕ) → ((i : ℕ) → i < k → bit x i ≡ bit y i) → x % 2 ^ k ≡ y % 2 ^ k
same_bits k x y h = sym (number_is k x (bit y) h) ∙ number_is k y (bit y) (λ i g. refl)

pub low_bit : (k x i : ℕ) → i < k → bit (x % 2 ^ k) i ≡ bit x i
low_bit zero x i g = absurd (omega arith)
low_bit (suc k) x zero g = rw (div-one (x % 2 ^ suc k), div-one x) (omega (arith, d.mod_suc x k))
low_bit (suc k) x (suc i) g =
    let half : x % 2 ^ suc k / 2 ≡ x / 2 % 2 ^ k = omega (arith, d.mod_suc x k) in
    rw (d.div_suc (x % 2 ^ suc k) i, half, d.div_suc x i) (low_bit k (x / 2) i (omega arith))

pub bits_same : (k x y : ℕ) → x % 2 ^ k ≡ y % 2 ^ k → (i : ℕ) → i < k → bit x i ≡ bit y i
bits_same k x y e i g = sym (low_bit k x i g) ∙ ap (λ (z : ℕ). bit z i) e ∙ low_bit k y i g

-- numbers of k bits are equal exactly if all their bits are
top_split : (k a b x y : ℕ) → d.Bit a → d.Bit b → x < 2 ^ k → y < 2 ^ k → eqb (a * 2 ^ k + x) (b * 2 ^ k + y) ≡ (eqb a b && eqb x y)
top_split k a b x y d.off d.off h g =
    let e : 0 * 2 ^ k + x ≡ x = omega arith in let f : 0 * 2 ^ k + y ≡ y = omega arith in rw (e, f)
top_split k a b x y d.off d.on h g = ne_eqb (0 * 2 ^ k + x) (1 * 2 ^ k + y) (λ e. omega arith)
top_split k a b x y d.on d.off h g = ne_eqb (1 * 2 ^ k + x) (0 * 2 ^ k + y) (λ e. omega arith)
top_split k a b x y d.on d.on h g = in_front (1 * 2 ^ k) x y (d.tri x y)
  where
    in_front : (z x y : ℕ) → (x < y) ⊎ ((x ≡ y) ⊎ (y < x)) → eqb (z + x) (z + y) ≡ eqb x y
    in_front z x y (inl h) = ne_eqb (z + x) (z + y) (λ e. omega arith) ∙ sym (ne_eqb x y (λ e. omega arith))
    in_front z x y (inr (inl h)) = eq-eqb (z + x) (z + y) (omega arith) ∙ sym (eq-eqb x y h)
    in_front z x y (inr (inr h)) = ne_eqb (z + x) (z + y) (λ e. omega arith) ∙ sym (ne_eqb x y (λ e. omega arith))

pub every_eqb : (k x y : ℕ) → every k (λ i. eqb (bit x i) (bit y i)) ≡ eqb (x % 2 ^ k) (y % 2 ^ k)
unfolding every
every_eqb zero x y = rw (mod-one x, mod-one y)
every_eqb (suc k) x y =
    ap (λ (t : Bool). eqb (bit x k) (bit y k) && t) (every_eqb k x y)
    ∙ sym (top_split k (bit x k) (bit y k) (x % 2 ^ k) (y % 2 ^ k) (digit_at x k) (digit_at y k) (mod-lt x (pow_pos k)) (mod-lt y (pow_pos k)))
    ∙ sym (ap₂ eqb (top_bit k x) (top_bit k y))

-- each bit of a number of digits is its digit
pub number_bit : (k : ℕ) (f : ℕ → ℕ) → ((j : ℕ) → j < k → f j < 2) → (i : ℕ) → i < k → bit (number k f) i ≡ f i
unfolding number
number_bit zero f h i g = absurd (omega arith)
number_bit (suc k) f h i g =
    let small = number_lt k f (λ j l. h j (omega arith)) in
    ⊎_elim
    (λ l. sym (low_bit k (f k * 2 ^ k + number k f) i l) ∙ ap (λ (x : ℕ). bit x i) (low (f k) k small) ∙ number_bit k f (λ j q. h j (omega arith)) i l)
    (⊎_elim (λ e. rw e (ap (λ (x : ℕ). x % 2) (high (f k) k small) ∙ mod-eq_of_lt (h k (omega arith)))) (λ l. absurd (omega arith)))
    (d.tri i k)
