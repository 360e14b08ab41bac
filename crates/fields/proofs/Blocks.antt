-- Numbers taken apart at a field's top: equalities, zeros and the tops' ones, field by field.
use Prim.Native.Nat.{ℕ, suc, ◌+◌, ◌-◌, ◌*◌, ◌/◌, ◌%◌, ◌^◌, ◌≤◌, ◌<◌, min}
use mathlib.Core.Path.{◌≡◌, refl, sym, ap, ap₂, ◌∙◌}
use mathlib.Core.List.{List, ◌∷◌}
use mathlib.Core.Bool.{Bool, true, false, not, ◌&&◌}
use mathlib.Core.Logic.{⊎_elim}
use native.Mathlib.Nat.{pow-suc, zero-mod, zero-div, add-zero, zero-mul, mul-le-mul_right, add-mul}
use native.Mathlib.Omega.{arith}
use lib.Dec.{ltb, eqb}
use lib.Arith.{bin_ind, digits_div, digits_mod}
use lib.Pow.{pow_pos, split}
use lib.Bits.{bit_and, bit_xor, differ, and_le_l, and_le_r, xor_add_and, and_zero_r, and_self, and_block}
use borrow.Author.Tests.{eq-eqb, ne_eqb}
use Rattle.laws.specs.Bits.{digit}
use Rattle.laws.proofs.Digits.{Bit, off, on, low, tri, and_half, and_low, xor_half, xor_low}
use Rattle.fields.specs.Fields.{above_in}

pub halves : {x y : ℕ} → x / 2 ≡ y / 2 → x % 2 ≡ y % 2 → x ≡ y
halves p q = omega arith

absorb_low : {x y z : ℕ} → Bit x → Bit y → Bit z → min (differ (min x z) (min y z)) z ≡ differ (min x z) (min y z)
absorb_low off off off = refl
absorb_low off off on = refl
absorb_low off on off = refl
absorb_low off on on = refl
absorb_low on off off = refl
absorb_low on off on = refl
absorb_low on on off = refl
absorb_low on on on = refl

pub absorb : (z x y : ℕ) → bit_and (bit_xor (bit_and x z) (bit_and y z)) z ≡ bit_xor (bit_and x z) (bit_and y z)
absorb = bin_ind (λ (z : ℕ). (x y : ℕ) → bit_and (bit_xor (bit_and x z) (bit_and y z)) z ≡ bit_xor (bit_and x z) (bit_and y z))
    (λ x y. simp (and_zero_r))
    (λ z ih x y. halves (simp (and_half, xor_half) (ih (x / 2) (y / 2))) (simp (and_low, xor_low) (absorb_low (low x) (low y) (low z))))

pub xor_eq : (x y : ℕ) → bit_xor x y ≡ 0 → x ≡ y
xor_eq x y h = omega (arith, xor_add_and x y, and_le_l x y, and_le_r x y, h)

abbrev pub imp : Bool → Bool → Bool
imp true b = b
imp false b = true

pub eqb_cong : (a b c d : ℕ) → (a ≡ b → c ≡ d) → (c ≡ d → a ≡ b) → eqb a b ≡ eqb c d
eqb_cong a b c d f g =
    ⊎_elim (λ h. apart h (λ e. omega arith)) (⊎_elim (λ h. eq-eqb a b h ∙ sym (eq-eqb c d (f h))) (λ h. apart h (λ e. omega arith))) (tri a b)
  where
    apart : {A : Type 0} → A → (a ≡ b → ⊥) → eqb a b ≡ eqb c d
    apart h n = ne_eqb a b n ∙ sym (ne_eqb c d (λ e. n (g e)))

and_eqb : (x y r s u v : ℕ) → (x ≡ y → r ≡ s) → (x ≡ y → u ≡ v) → (r ≡ s → u ≡ v → x ≡ y) → eqb x y ≡ (eqb r s && eqb u v)
and_eqb x y r s u v f g h =
    ⊎_elim (λ k. apart k (λ e. omega arith))
    (⊎_elim (λ e. eqb_cong x y u v g (h e) ∙ sym (ap (λ (t : Bool). t && eqb u v) (eq-eqb r s e))) (λ k. apart k (λ e. omega arith))) (tri r s)
  where
    apart : {A : Type 0} → A → (r ≡ s → ⊥) → eqb x y ≡ (eqb r s && eqb u v)
    apart k n = ne_eqb x y (λ e. n (f e)) ∙ sym (ap (λ (t : Bool). t && eqb u v) (ne_eqb r s n))

pub zero_split : (k x : ℕ) → eqb x 0 ≡ (eqb (x % 2 ^ k) 0 && eqb (x / 2 ^ k) 0)
zero_split k x =
    and_eqb x 0 (x % 2 ^ k) 0 (x / 2 ^ k) 0 (λ e. rw e (zero-mod _)) (λ e. rw e (zero-div _))
    (λ e g. sym (split x k) ∙ ap₂ (λ (u v : ℕ). u * 2 ^ k + v) g e ∙ omega arith)

-- equal exactly if the low parts and the high parts are
pub eqb_split : (k x y : ℕ) → eqb x y ≡ (eqb (x % 2 ^ k) (y % 2 ^ k) && eqb (x / 2 ^ k) (y / 2 ^ k))
eqb_split k x y =
    and_eqb x y (x % 2 ^ k) (y % 2 ^ k) (x / 2 ^ k) (y / 2 ^ k) (ap (λ (z : ℕ). z % 2 ^ k)) (ap (λ (z : ℕ). z / 2 ^ k))
    (λ e g. sym (split x k) ∙ ap₂ (λ (u v : ℕ). u * 2 ^ k + v) g e ∙ split y k)

digits_split : (k x y r s : ℕ) → r < 2 ^ k → s < 2 ^ k → eqb (x * 2 ^ k + r) (y * 2 ^ k + s) ≡ (eqb r s && eqb x y)
digits_split k x y r s p q =
    and_eqb (x * 2 ^ k + r) (y * 2 ^ k + s) r s x y
    (λ e. sym (digits_mod x p) ∙ ap (λ (z : ℕ). z % 2 ^ k) e ∙ digits_mod y q)
    (λ e. sym (digits_div x p) ∙ ap (λ (z : ℕ). z / 2 ^ k) e ∙ digits_div y q)
    (λ e g. ap₂ (λ (u v : ℕ). u * 2 ^ k + v) g e)

pub top_lt : (i : Bool) (k : ℕ) → digit i * 2 ^ k < 2 ^ suc k
top_lt true k = omega (arith, pow_pos k, pow-suc 2 k)
top_lt false k = omega (arith, pow_pos k, pow-suc 2 k)

-- a test, or its negation
abbrev pub about : Bool → Bool → Bool
about true t = not t
about false t = t

top_lacks : (i j s : Bool) (k : ℕ) → eqb (digit j * 2 ^ k - bit_and (digit i * 2 ^ k) (digit j * 2 ^ k)) (digit s * 2 ^ k) ≡ about s (imp j i)
top_lacks true true true k = rw (and_self (1 * 2 ^ k)) (ne_eqb (1 * 2 ^ k - 1 * 2 ^ k) (1 * 2 ^ k) (λ e. omega (arith, pow_pos k)))
top_lacks true true false k = rw (and_self (1 * 2 ^ k)) (eq-eqb (1 * 2 ^ k - 1 * 2 ^ k) (0 * 2 ^ k) (omega arith))
top_lacks false true true k = rw (zero-mul (2 ^ k)) (eq-eqb (1 * 2 ^ k - 0) (1 * 2 ^ k) (omega arith))
top_lacks false true false k = rw (zero-mul (2 ^ k)) (ne_eqb (1 * 2 ^ k - 0) 0 (λ e. omega (arith, pow_pos k)))
top_lacks true false true k = rw (zero-mul (2 ^ k), and_zero_r (1 * 2 ^ k)) (ne_eqb 0 (1 * 2 ^ k) (λ e. omega (arith, pow_pos k)))
top_lacks true false false k = rw (zero-mul (2 ^ k), and_zero_r (1 * 2 ^ k)) refl
top_lacks false false true k = rw (zero-mul (2 ^ k)) (ne_eqb 0 (1 * 2 ^ k) (λ e. omega (arith, pow_pos k)))
top_lacks false false false k = rw (zero-mul (2 ^ k)) refl

blocks_lack : (k g h f : ℕ) (i j s : Bool)
    → eqb (h * 2 ^ suc k + digit j * 2 ^ k - bit_and (g * 2 ^ suc k + digit i * 2 ^ k) (h * 2 ^ suc k + digit j * 2 ^ k)) (f * 2 ^ suc k + digit s * 2 ^ k)
    ≡ (about s (imp j i) && eqb (h - bit_and g h) f)
blocks_lack k g h f i j s =
    let r : ℕ = bit_and (digit i * 2 ^ k) (digit j * 2 ^ k) in
    let most : bit_and g h * 2 ^ suc k ≤ h * 2 ^ suc k = mul-le-mul_right (2 ^ suc k) (and_le_r g h) in
    let whole : h - bit_and g h + bit_and g h ≡ h = omega (arith, and_le_r g h) in
    let parts : (h - bit_and g h) * 2 ^ suc k + bit_and g h * 2 ^ suc k ≡ h * 2 ^ suc k = sym (add-mul (h - bit_and g h) (bit_and g h) (2 ^ suc k)) ∙ ap (λ (x : ℕ). x * 2 ^ suc k) whole in
    let e : h * 2 ^ suc k + digit j * 2 ^ k - (bit_and g h * 2 ^ suc k + r) ≡ (h - bit_and g h) * 2 ^ suc k + (digit j * 2 ^ k - r)
    = omega (arith, parts, most, and_le_r (digit i * 2 ^ k) (digit j * 2 ^ k)) in
    ap (λ (z : ℕ). eqb (h * 2 ^ suc k + digit j * 2 ^ k - z) (f * 2 ^ suc k + digit s * 2 ^ k)) (and_block (suc k) g h (digit i * 2 ^ k) (digit j * 2 ^ k) (top_lt i k) (top_lt j k))
    ∙ ap (λ (z : ℕ). eqb z (f * 2 ^ suc k + digit s * 2 ^ k)) e
    ∙ digits_split (suc k) (h - bit_and g h) f _ _ (omega (arith, top_lt j k)) (top_lt s k)
    ∙ ap (λ (t : Bool). t && eqb (h - bit_and g h) f) (top_lacks i j s k)

pub tops_lack : (k : ℕ) (ks : List ℕ) (v q p e : ℕ)
    → eqb (above_in (k ∷ ks) v 0 0 - bit_and (above_in (k ∷ ks) q p 0) (above_in (k ∷ ks) v 0 0)) (above_in (k ∷ ks) e 0 0)
    ≡ (about (ltb 0 (e % 2 ^ suc k)) (imp (ltb 0 (v % 2 ^ suc k)) (ltb (p % 2 ^ suc k) (q % 2 ^ suc k)))
    && eqb (above_in ks (v / 2 ^ suc k) 0 0 - bit_and (above_in ks (q / 2 ^ suc k) (p / 2 ^ suc k) 0) (above_in ks (v / 2 ^ suc k) 0 0)) (above_in ks (e / 2 ^ suc k) 0 0))
unfolding above_in
tops_lack k ks v q p e =
    blocks_lack k (above_in ks (q / 2 ^ suc k) (p / 2 ^ suc k) 0) (above_in ks (v / 2 ^ suc k) (0 / 2 ^ suc k) 0) (above_in ks (e / 2 ^ suc k) (0 / 2 ^ suc k) 0)
    (ltb (p % 2 ^ suc k) (q % 2 ^ suc k + 0)) (ltb (0 % 2 ^ suc k) (v % 2 ^ suc k + 0)) (ltb (0 % 2 ^ suc k) (e % 2 ^ suc k + 0))
    ∙ simp (zero-mod, zero-div, add-zero)
