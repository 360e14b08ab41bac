-- Narrowing to the greatest, place by place: a number at most g is g from bit i up exactly if it is so from bit i + 1 up and, where g has bit i, has it too.
use Prim.Native.Nat.{ℕ, suc, ◌+◌, ◌*◌, ◌/◌, ◌^◌, ◌≤◌, ◌<◌}
use mathlib.Core.Path.{◌≡◌, refl, sym, ◌∙◌}
use mathlib.Core.Bool.{Bool, true, false, ◌&&◌}
use native.Mathlib.Nat.{div-eq_of_lt}
use native.Mathlib.Omega.{arith}
use native.Mathlib.Numerals.{add-one}
use lib.Dec.{eqb}
use lib.Pow.{shr-shr, shr_mono, split}
use borrow.Author.Tests.{eq-eqb, ne_eqb, eqb-true, eqb-false}
use Rattle.laws.specs.Bits.{bit}

-- from bit i up x is as g
abbrev pub same : ℕ → ℕ → ℕ → Bool
same i x g = eqb (x / 2 ^ i) (g / 2 ^ i)

-- what stands from bit i up is twice what stands from bit i + 1 up, and bit i
top : (i x : ℕ) → x / 2 ^ i ≡ x / 2 ^ suc i * 2 + bit x i
top i x = rw (← (add-one i), ← (shr-shr x i 1)) (sym (split (x / 2 ^ i) 1))

higher : (i x y : ℕ) → x / 2 ^ i ≡ y / 2 ^ i → x / 2 ^ suc i ≡ y / 2 ^ suc i
higher i x y e = rw (← (add-one i), ← (shr-shr x i 1), ← (shr-shr y i 1), e)

-- above both numbers
pub same_top : (a x g : ℕ) → x < 2 ^ a → g < 2 ^ a → same a x g ≡ true
same_top a x g h k = eq-eqb (x / 2 ^ a) (g / 2 ^ a) (div-eq_of_lt h ∙ sym (div-eq_of_lt k))

-- where g has a 1
pub same_one : (i x g : ℕ) → bit g i ≡ 1 → (same (suc i) x g && eqb (bit x i) 1) ≡ same i x g
same_one i x g d = go (same (suc i) x g) (eqb (bit x i) 1) refl refl
  where
    go : (t u : Bool) → same (suc i) x g ≡ t → eqb (bit x i) 1 ≡ u → (t && u) ≡ same i x g
    go true true e f =
        let q = eqb-true (x / 2 ^ suc i) (g / 2 ^ suc i) e in let r = eqb-true (bit x i) 1 f in
        sym (eq-eqb (x / 2 ^ i) (g / 2 ^ i) (omega (arith, top i x, top i g)))
    go true false e f =
        let q = eqb-true (x / 2 ^ suc i) (g / 2 ^ suc i) e in let r = eqb-false (bit x i) 1 f in
        sym (ne_eqb (x / 2 ^ i) (g / 2 ^ i) (λ z. r (omega (arith, top i x, top i g, z))))
    go false u e f =
        let q = eqb-false (x / 2 ^ suc i) (g / 2 ^ suc i) e in
        sym (ne_eqb (x / 2 ^ i) (g / 2 ^ i) (λ z. q (higher i x g z)))

-- where g has a 0
pub same_zero : (i x g : ℕ) → x ≤ g → bit g i ≡ 0 → same (suc i) x g ≡ same i x g
same_zero i x g h d = go (same (suc i) x g) refl
  where
    go : (t : Bool) → same (suc i) x g ≡ t → t ≡ same i x g
    go true e =
        let q = eqb-true (x / 2 ^ suc i) (g / 2 ^ suc i) e in
        sym (eq-eqb (x / 2 ^ i) (g / 2 ^ i) (omega (arith, top i x, top i g, shr_mono i h)))
    go false e =
        let q = eqb-false (x / 2 ^ suc i) (g / 2 ^ suc i) e in
        sym (ne_eqb (x / 2 ^ i) (g / 2 ^ i) (λ z. q (higher i x g z)))

-- and there no number at most g that is as g above has a 1
pub none_zero : (i x g : ℕ) → x ≤ g → bit g i ≡ 0 → (same (suc i) x g && eqb (bit x i) 1) ≡ false
none_zero i x g h d = go (same (suc i) x g) (eqb (bit x i) 1) refl refl
  where
    go : (t u : Bool) → same (suc i) x g ≡ t → eqb (bit x i) 1 ≡ u → (t && u) ≡ false
    go true true e f =
        let q = eqb-true (x / 2 ^ suc i) (g / 2 ^ suc i) e in let r = eqb-true (bit x i) 1 f in
        absurd (omega (arith, top i x, top i g, shr_mono i h))
    go true false e f = refl
    go false u e f = refl

-- g itself
pub some_one : (i g : ℕ) → bit g i ≡ 1 → (same (suc i) g g && eqb (bit g i) 1) ≡ true
some_one i g d = rw (eq-eqb (g / 2 ^ suc i) (g / 2 ^ suc i) refl, d)
