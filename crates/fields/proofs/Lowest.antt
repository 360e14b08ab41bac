-- The lowest one of a number b: a number made of b's bits is below it only where it is 0. So a field is equal to another at the cared bits
-- exactly where their difference there is below the lowest cared bit, and "exact" becomes a comparison like the other two.
use Prim.Native.Nat.{ℕ, zero, suc, ◌-◌, ◌/◌, ◌%◌, ◌≤◌, ◌<◌, min}
use mathlib.Core.Path.{◌≡◌, refl, sym, ap, ap₂, ◌∙◌}
use mathlib.Core.Logic.{◌⊎◌, inl, inr, ⊎_elim}
use native.Mathlib.Omega.{arith}
use lib.Dec.{ltb, eqb}
use lib.Arith.{bin_ind}
use lib.Bits.{bit_and, bit_xor, differ, and_le_r, xor_add_and, and_self, xor_self}
use borrow.Author.Tests.{lt-ltb, le-ltb, eq-eqb, ne_eqb}
use Rattle.laws.proofs.Digits.{Bit, off, on, low, tri, and_half, and_low, xor_half, xor_low}
use Rattle.fields.proofs.Blocks.{absorb, xor_eq}

lowest_pos : (b : ℕ) → 0 < b → 0 < bit_xor b (bit_and b (b - 1))
lowest_pos b h = omega (arith, xor_add_and b (bit_and b (b - 1)), and_le_r b (b - 1), and_le_r b (bit_and b (b - 1)))

parity : (n : ℕ) → (n % 2 ≡ 0) ⊎ (n % 2 ≡ 1)
parity n = go (n % 2) (low n)
  where
    go : (d : ℕ) → Bit d → (d ≡ 0) ⊎ (d ≡ 1)
    go d off = inl refl
    go d on = inr refl

lowest_le : (b z : ℕ) → bit_and z b ≡ z → 0 < z → bit_xor b (bit_and b (b - 1)) ≤ z
lowest_le = bin_ind (λ (b : ℕ). (z : ℕ) → bit_and z b ≡ z → 0 < z → bit_xor b (bit_and b (b - 1)) ≤ z)
    (λ z e h. omega arith)
    (λ b ih z e h. ⊎_elim (λ p. even b z p e h ih) (λ p. odd b z p h) (parity b))
  where
    nil : (x : ℕ) → min 0 x ≡ 0
    nil x = omega arith

    odd : (b z : ℕ) → b % 2 ≡ 1 → 0 < z → bit_xor b (bit_and b (b - 1)) ≤ z
    odd b z p h =
        let g : (b - 1) / 2 ≡ b / 2 = omega arith in
        let f : bit_xor b (bit_and b (b - 1)) / 2 ≡ 0 = simp (xor_half, and_half, g, and_self, xor_self) in
        omega arith

    even : (b z : ℕ) → b % 2 ≡ 0 → bit_and z b ≡ z → 0 < z
        → ((y : ℕ) → bit_and y (b / 2) ≡ y → 0 < y → bit_xor (b / 2) (bit_and (b / 2) (b / 2 - 1)) ≤ y) → bit_xor b (bit_and b (b - 1)) ≤ z
    even b z p e h ih =
        let zl : z % 2 ≡ 0 = sym (ap (λ (x : ℕ). x % 2) e) ∙ and_low z b ∙ ap (min (z % 2)) p ∙ omega arith in
        let zh : bit_and (z / 2) (b / 2) ≡ z / 2 = sym (and_half z b) ∙ ap (λ (x : ℕ). x / 2) e in
        let bp : 0 < b = omega (arith, and_le_r z b, e) in
        let g : (b - 1) / 2 ≡ b / 2 - 1 = omega arith in
        let f : bit_xor b (bit_and b (b - 1)) / 2 ≡ bit_xor (b / 2) (bit_and (b / 2) (b / 2 - 1)) = xor_half b (bit_and b (b - 1)) ∙ ap (bit_xor (b / 2)) (and_half b (b - 1) ∙ ap (bit_and (b / 2)) g) in
        let d : bit_xor b (bit_and b (b - 1)) % 2 ≡ 0 = xor_low b (bit_and b (b - 1)) ∙ ap₂ differ p (and_low b (b - 1) ∙ ap (λ (x : ℕ). min x ((b - 1) % 2)) p ∙ nil ((b - 1) % 2)) in
        omega (arith, ih (z / 2) zh (omega arith))

pub below_lowest : (b w c : ℕ) → 0 < b → ltb (bit_xor (bit_and w b) (bit_and c b)) (bit_xor b (bit_and b (b - 1))) ≡ eqb (bit_and w b) (bit_and c b)
below_lowest b w c h =
    ⊎_elim (λ k. apart (λ e. omega arith)) (⊎_elim same (λ k. apart (λ e. omega arith))) (tri (bit_and w b) (bit_and c b))
  where
    same : bit_and w b ≡ bit_and c b → ltb (bit_xor (bit_and w b) (bit_and c b)) (bit_xor b (bit_and b (b - 1))) ≡ eqb (bit_and w b) (bit_and c b)
    same e =
        let z : bit_xor (bit_and w b) (bit_and c b) ≡ 0 = ap (λ (x : ℕ). bit_xor x (bit_and c b)) e ∙ xor_self (bit_and c b) in
        lt-ltb (bit_xor (bit_and w b) (bit_and c b)) (bit_xor b (bit_and b (b - 1))) (omega (arith, lowest_pos b h)) ∙ sym (eq-eqb (bit_and w b) (bit_and c b) e)

    some : (x : ℕ) → (x ≡ 0 → ⊥) → 0 < x
    some zero n = absurd (n refl)
    some (suc x) n = omega arith

    apart : (bit_and w b ≡ bit_and c b → ⊥) → ltb (bit_xor (bit_and w b) (bit_and c b)) (bit_xor b (bit_and b (b - 1))) ≡ eqb (bit_and w b) (bit_and c b)
    apart n =
        le-ltb (bit_xor (bit_and w b) (bit_and c b)) (bit_xor b (bit_and b (b - 1)))
        (lowest_le b (bit_xor (bit_and w b) (bit_and c b)) (absorb b w c) (some (bit_xor (bit_and w b) (bit_and c b)) (λ e. n (xor_eq (bit_and w b) (bit_and c b) e))))
        ∙ sym (ne_eqb (bit_and w b) (bit_and c b) n)
