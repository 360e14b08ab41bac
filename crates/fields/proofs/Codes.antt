-- No syllable has two codes, or two settings of SC3, by words: no top at which two numbers and their difference are all not 0 in its field.
-- Document 01, refusal 5, with document 02, request c. Laws for every width.
use Prim.Native.Nat.{ℕ, zero, suc, ◌+◌, ◌-◌, ◌*◌, ◌/◌, ◌%◌, ◌^◌, ◌<◌}
use mathlib.Core.Path.{◌≡◌, refl, ap, ap₂, ◌∙◌}
use mathlib.Core.List.{List, [], ◌∷◌}
use mathlib.Core.Bool.{Bool, true, false, not, ◌&&◌, ◌||◌, and_assoc, not-not}
use native.Mathlib.Nat.{zero-mod, zero-div, add-zero, zero-mul}
use native.Mathlib.Omega.{arith}
use lib.Dec.{ltb, eqb, eqb-suc-zero}
use lib.Pow.{pow_pos, high, low}
use lib.Bits.{bit_and, bit_or, bit_xor, and_le_l, and_le_r, and_self, and_zero_r, and_block, or_add_and, xor_mod, xor_shr, xor_self}
use borrow.Author.Tests.{lt-ltb, eq-eqb, ne_eqb}
use Rattle.laws.specs.Bits.{digit}
use Rattle.fields.specs.Fields.{above_in}
use Rattle.fields.specs.Codes.{one, one_in, clash, set_bits, unmixed_in}
use Rattle.fields.proofs.Blocks.{eqb_cong, zero_split, top_lt, xor_eq}
use Rattle.fields.proofs.Sums.{and_not}

-- a number is 0, or above it
ltb_eqb : (a : ℕ) → ltb 0 a ≡ not (eqb a 0)
ltb_eqb zero = refl
ltb_eqb (suc a) = simp (lt-ltb 0 (suc a) (omega arith), eqb-suc-zero)

three : (i j d : Bool) (k : ℕ) → eqb (bit_and (bit_and (digit i * 2 ^ k) (digit j * 2 ^ k)) (digit d * 2 ^ k)) 0 ≡ (not i || (not j || not d))
three true true true k = rw (and_self (1 * 2 ^ k), and_self (1 * 2 ^ k)) (ne_eqb (1 * 2 ^ k) 0 (λ e. omega (arith, pow_pos k)))
three true true false k = rw (zero-mul (2 ^ k)) (eq-eqb (bit_and (bit_and (1 * 2 ^ k) (1 * 2 ^ k)) 0) 0 (and_zero_r (bit_and (1 * 2 ^ k) (1 * 2 ^ k))))
three true false d k = rw (zero-mul (2 ^ k), and_zero_r (1 * 2 ^ k)) refl
three false j d k = rw (zero-mul (2 ^ k)) refl

differ : (a b : ℕ) → eqb (bit_xor a b) 0 ≡ eqb a b
differ a b = eqb_cong (bit_xor a b) 0 a b (xor_eq a b) (λ e. ap (λ (x : ℕ). bit_xor x b) e ∙ xor_self b)

field : (a b : ℕ) → (not (ltb 0 a) || (not (ltb 0 b) || not (ltb 0 (bit_xor a b)))) ≡ one a b
field a b = simp (ltb_eqb, not-not, differ)

blocks : (k x y z : ℕ) (i j d : Bool)
    → eqb (bit_and (bit_and (x * 2 ^ suc k + digit i * 2 ^ k) (y * 2 ^ suc k + digit j * 2 ^ k)) (z * 2 ^ suc k + digit d * 2 ^ k)) 0
    ≡ ((not i || (not j || not d)) && eqb (bit_and (bit_and x y) z) 0)
blocks k x y z i j d =
    let r : bit_and (digit i * 2 ^ k) (digit j * 2 ^ k) < 2 ^ suc k = omega (arith, and_le_l (digit i * 2 ^ k) (digit j * 2 ^ k), top_lt i k) in
    let q : bit_and (bit_and (digit i * 2 ^ k) (digit j * 2 ^ k)) (digit d * 2 ^ k) < 2 ^ suc k
    = omega (arith, and_le_l (bit_and (digit i * 2 ^ k) (digit j * 2 ^ k)) (digit d * 2 ^ k)) in
    ap (λ (v : ℕ). eqb v 0)
    (ap (λ (v : ℕ). bit_and v (z * 2 ^ suc k + digit d * 2 ^ k)) (and_block (suc k) x y _ _ (top_lt i k) (top_lt j k))
    ∙ and_block (suc k) (bit_and x y) z _ _ r (top_lt d k))
    ∙ zero_split (suc k) _
    ∙ ap₂ (λ (u v : ℕ). eqb u 0 && eqb v 0) (low (bit_and (bit_and x y) z) (suc k) q) (high (bit_and (bit_and x y) z) (suc k) q)
    ∙ ap (λ (t : Bool). t && eqb (bit_and (bit_and x y) z) 0) (three i j d k)

pub one_is : (ks : List ℕ) (a b : ℕ) → eqb (clash ks a b) 0 ≡ one_in ks a b
unfolding clash one_in above_in
one_is [] a b = refl
one_is (k ∷ ks) a b =
    blocks k (above_in ks (a / 2 ^ suc k) (0 / 2 ^ suc k) 0) (above_in ks (b / 2 ^ suc k) (0 / 2 ^ suc k) 0) (above_in ks (bit_xor a b / 2 ^ suc k) (0 / 2 ^ suc k) 0)
    (ltb (0 % 2 ^ suc k) (a % 2 ^ suc k + 0)) (ltb (0 % 2 ^ suc k) (b % 2 ^ suc k + 0)) (ltb (0 % 2 ^ suc k) (bit_xor a b % 2 ^ suc k + 0))
    ∙ simp (zero-mod, zero-div, add-zero, xor_mod, xor_shr)
    (ap₂ (λ (u v : Bool). u && v) (field (a % 2 ^ suc k) (b % 2 ^ suc k)) (one_is ks (a / 2 ^ suc k) (b / 2 ^ suc k)))

-- ---- all of refusal 5 in one word

or_none : (x y : ℕ) → eqb (bit_or x y) 0 ≡ (eqb x 0 && eqb y 0)
or_none zero y = refl
or_none (suc x) y = ne_eqb (bit_or (suc x) y) 0 (λ e. omega (arith, or_add_and (suc x) y, and_le_r (suc x) y, e)) ∙ rw (eqb-suc-zero x)

-- no one of e where a has none
no_stray : (e a : ℕ) → e < 2 ^ 64 → a < 2 ^ 64 → eqb (bit_and e (2 ^ 64 - 1 - a)) 0 ≡ eqb (bit_and e a) e
no_stray e a he ha =
    ap (λ (x : ℕ). eqb x 0) (and_not 64 e a he ha)
    ∙ eqb_cong (e - bit_and e a) 0 (bit_and e a) e (λ h. omega (arith, and_le_l e a)) (λ h. omega arith)

pub unmixed_word : (ks : List ℕ) (a b e : ℕ) → a < 2 ^ 64 → e < 2 ^ 64
    → eqb (bit_or (bit_or (clash ks a b) (clash ks (set_bits a b e) (bit_or a b))) (bit_and e (2 ^ 64 - 1 - a))) 0 ≡ unmixed_in ks a b e
unfolding unmixed_in
unmixed_word ks a b e ha he =
    or_none (bit_or (clash ks a b) (clash ks (set_bits a b e) (bit_or a b))) (bit_and e (2 ^ 64 - 1 - a))
    ∙ ap₂ (λ (x y : Bool). x && y)
    (or_none (clash ks a b) (clash ks (set_bits a b e) (bit_or a b)) ∙ ap₂ (λ (x y : Bool). x && y) (one_is ks a b) (one_is ks (set_bits a b e) (bit_or a b)))
    (no_stray e a he ha)
    ∙ and_assoc (one_in ks a b) (one_in ks (set_bits a b e) (bit_or a b)) (eqb (bit_and e a) e)
