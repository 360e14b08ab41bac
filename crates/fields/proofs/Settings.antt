-- At least is the negation of smaller, and at most of larger: in the fields in which SC3 has ones the two comparing codes are swapped and what they
-- ask is turned about. Document 02, request c. Laws for every width.
use Prim.Native.Nat.{ℕ, zero, suc, ◌/◌, ◌%◌, ◌^◌, min, max}
use mathlib.Core.Path.{◌≡◌, refl, sym, ap, ap₂, ◌∙◌}
use mathlib.Core.List.{List, [], ◌∷◌}
use mathlib.Core.Bool.{Bool, true, not, ◌&&◌, ◌||◌}
use mathlib.Core.Logic.{◌⊎◌, inl, inr, ⊎_elim}
use native.Mathlib.Omega.{arith}
use lib.Dec.{ltb, leb, eqb, eqb-suc-zero}
use lib.Arith.{bin_ind}
use lib.Bits.{bit_and, bit_or, bit_xor, differ, and_le_r, and_zero_r, or_add_and, xor_zero_r, xor_self, and_mod, or_mod, xor_mod, and_shr, or_shr, xor_shr}
use borrow.Author.Tests.{lt-ltb, le-ltb, le-leb, lt-leb, eqb-true, eq-eqb}
use Rattle.laws.proofs.Digits.{Bit, off, on, low, tri, and_half, and_low, or_half, or_low, xor_half, xor_low}
use Rattle.laws.proofs.Bits.{and_left, and_right, or_cases}
use Rattle.fields.specs.Codes.{asks, one, one_in, set_bits, unmixed_in, satisfied_in}
use Rattle.fields.proofs.Blocks.{halves, about}
use Rattle.fields.proofs.Turned.{plain, plain_in}

-- ---- one field

inside_low : {e a b : ℕ} → Bit e → Bit a → Bit b → min (min e a) (max a b) ≡ min e a
inside_low off off off = refl
inside_low off off on = refl
inside_low off on off = refl
inside_low off on on = refl
inside_low on off off = refl
inside_low on off on = refl
inside_low on on off = refl
inside_low on on on = refl

inside_or : (e a b : ℕ) → bit_and (bit_and e a) (bit_or a b) ≡ bit_and e a
inside_or = bin_ind (λ (e : ℕ). (a b : ℕ) → bit_and (bit_and e a) (bit_or a b) ≡ bit_and e a) (λ a b. refl)
    (λ e ih a b. halves (simp (and_half, or_half) (ih (a / 2) (b / 2))) (simp (and_low, or_low) (inside_low (low e) (low a) (low b))))

-- SC3's ones over larger and smaller bits are among the cared ones
pub set_is : (a b e : ℕ) → bit_and e a ≡ e → set_bits a b e ≡ e
set_is a b e h = ap (λ (x : ℕ). bit_and x (bit_or a b)) (sym h) ∙ inside_or e a b ∙ h

one_cases : (a b : ℕ) → one a b ≡ true → (a ≡ 0) ⊎ ((b ≡ 0) ⊎ (a ≡ b))
one_cases a b h =
    ⊎_elim (λ e. inl (eqb-true a 0 e))
    (λ r. inr (⊎_elim (λ e. inl (eqb-true b 0 e)) (λ e. inr (eqb-true a b e)) (or_cases (eqb b 0) (eqb a b) r)))
    (or_cases (eqb a 0) (eqb b 0 || eqb a b) h)

-- no one of SC3; or larger with a one of it at each cared bit, or smaller
pub data Setting : ℕ → ℕ → ℕ → Type 0 where
  none : (a b : ℕ) → Setting a b 0
  least : (a : ℕ) → Setting (suc a) 0 (suc a)
  most : (a : ℕ) → Setting (suc a) (suc a) (suc a)

pub setting : (a b e : ℕ) → one a b ≡ true → one (set_bits a b e) (bit_or a b) ≡ true → bit_and e a ≡ e → Setting a b e
setting a b e h g i =
    ⊎_elim (λ z. none_of (sym s ∙ z))
    (⊎_elim (λ z. none_of (omega (arith, s, z, and_le_r e (bit_or a b)))) (λ z. whole a b e h (omega (arith, s, z, i, and_le_r e a, or_add_and a b, and_le_r a b))))
    (one_cases (set_bits a b e) (bit_or a b) g)
  where
    s : set_bits a b e ≡ e
    s = set_is a b e i

    none_of : e ≡ 0 → Setting a b e
    none_of z = rw z (none a b)

    by_code : (a b : ℕ) → (b ≡ 0) ⊎ (suc a ≡ b) → Setting (suc a) b (suc a)
    by_code a b (inl z) = rw z (least a)
    by_code a b (inr z) = rw (← z) (most a)

    whole : (a b e : ℕ) → one a b ≡ true → e ≡ a → Setting a b e
    whole zero b e h z = rw z (none 0 b)
    whole (suc a) b e h z = rw z (⊎_elim (λ y. absurd (omega arith)) (by_code a b) (one_cases (suc a) b h))

swap_one : {a b e : ℕ} → Setting a b e → one a b ≡ true → one a (bit_xor b e) ≡ true
swap_one (none a b) h = rw (xor_zero_r b) h
swap_one (least a) h = rw (eq-eqb (suc a) (suc a) refl, eqb-suc-zero a)
swap_one (most a) h = rw (xor_self (suc a), eqb-suc-zero a)

not_less : (x y : ℕ) → not (ltb x y) ≡ leb y x
not_less x y =
    ⊎_elim (λ h. rw (lt-ltb x y h, lt-leb y x h))
    (⊎_elim (λ h. rw (le-ltb x y (omega arith), le-leb y x (omega arith))) (λ h. rw (le-ltb x y (omega arith), le-leb y x (omega arith)))) (tri x y)

plain_none : (a b x y : ℕ) → plain a b x y ≡ asks a b 0 x y
plain_none zero zero x y = refl
plain_none zero (suc b) x y = refl
plain_none (suc a) zero x y = refl
plain_none (suc a) (suc b) x y = refl

turned_about : {a b e : ℕ} (x y : ℕ) → Setting a b e → about (ltb 0 e) (plain a (bit_xor b e) x y) ≡ asks a b e x y
turned_about x y (none a b) = ap (λ (z : ℕ). plain a z x y) (xor_zero_r b) ∙ plain_none a b x y
turned_about x y (least a) = rw (lt-ltb 0 (suc a) (omega arith)) (not_less x y)
turned_about x y (most a) = rw (lt-ltb 0 (suc a) (omega arith)) (ap (λ (z : ℕ). not (plain (suc a) z x y)) (xor_self (suc a)) ∙ not_less y x)

-- ---- all fields

-- what refusal 5 leaves
pub record Unmixed (ks : List ℕ) (a b e : ℕ) : Type 0 where
  pub codes : one_in ks a b ≡ true
  pub settings : one_in ks (set_bits a b e) (bit_or a b) ≡ true
  pub inside : bit_and e a ≡ e

pub unmixed : (ks : List ℕ) (a b e : ℕ) → unmixed_in ks a b e ≡ true → Unmixed ks a b e
unfolding unmixed_in
unmixed ks a b e h =
    let r = and_right (one_in ks a b) (one_in ks (set_bits a b e) (bit_or a b) && eqb (bit_and e a) e) h in
    record {
      codes = and_left _ _ h;
      settings = and_left _ _ r;
      inside = eqb-true _ _ (and_right (one_in ks (set_bits a b e) (bit_or a b)) (eqb (bit_and e a) e) r);
    }

module _ (k : ℕ) (ks : List ℕ) (a b e : ℕ) (u : Unmixed (k ∷ ks) a b e) where
  pub first : Setting (a % 2 ^ suc k) (b % 2 ^ suc k) (e % 2 ^ suc k)
  unfolding one_in
  first =
      setting (a % 2 ^ suc k) (b % 2 ^ suc k) (e % 2 ^ suc k) (and_left _ _ u.codes)
      (rw (and_mod e (bit_or a b) (suc k), or_mod a b (suc k)) at (and_left (one (set_bits a b e % 2 ^ suc k) (bit_or a b % 2 ^ suc k)) _ u.settings))
      (sym (and_mod e a (suc k)) ∙ ap (λ (x : ℕ). x % 2 ^ suc k) u.inside)

  pub rest : Unmixed ks (a / 2 ^ suc k) (b / 2 ^ suc k) (e / 2 ^ suc k)
  unfolding one_in
  rest =
      record {
        codes = and_right (one (a % 2 ^ suc k) (b % 2 ^ suc k)) _ u.codes;
        settings = rw (and_shr e (bit_or a b) (suc k), or_shr a b (suc k)) at (and_right (one (set_bits a b e % 2 ^ suc k) (bit_or a b % 2 ^ suc k)) _ u.settings);
        inside = sym (and_shr e a (suc k)) ∙ ap (λ (x : ℕ). x / 2 ^ suc k) u.inside;
      }

-- the swapped codes are not mixed either, and care for the same bits
pub swapped_one : (ks : List ℕ) (a b e : ℕ) → Unmixed ks a b e → one_in ks a (bit_xor b e) ≡ true
unfolding one_in
swapped_one [] a b e u = refl
swapped_one (k ∷ ks) a b e u =
    rw (
      xor_mod b e (suc k),
      xor_shr b e (suc k),
      swap_one (first k ks a b e u) (and_left (one (a % 2 ^ suc k) (b % 2 ^ suc k)) _ u.codes),
    ) (swapped_one ks (a / 2 ^ suc k) (b / 2 ^ suc k) (e / 2 ^ suc k) (rest k ks a b e u))

same_low : {a b e : ℕ} → Bit a → Bit b → Bit e → max a (differ b (min e a)) ≡ max a b
same_low off off off = refl
same_low off off on = refl
same_low off on off = refl
same_low off on on = refl
same_low on off off = refl
same_low on off on = refl
same_low on on off = refl
same_low on on on = refl

same_or : (a b e : ℕ) → bit_or a (bit_xor b (bit_and e a)) ≡ bit_or a b
same_or = bin_ind (λ (a : ℕ). (b e : ℕ) → bit_or a (bit_xor b (bit_and e a)) ≡ bit_or a b) (λ b e. ap (bit_xor b) (and_zero_r e) ∙ xor_zero_r b)
    (λ a ih b e. halves (simp (or_half, xor_half, and_half) (ih (b / 2) (e / 2))) (simp (or_low, xor_low, and_low) (same_low (low a) (low b) (low e))))

pub swapped_care : (ks : List ℕ) (a b e : ℕ) → Unmixed ks a b e → bit_or a (bit_xor b e) ≡ bit_or a b
swapped_care ks a b e u = ap (λ (x : ℕ). bit_or a (bit_xor b x)) (sym u.inside) ∙ same_or a b e

pub turned_is : (ks : List ℕ) (a b e w c : ℕ) → Unmixed ks a b e → plain_in ks a (bit_xor b e) e w c ≡ satisfied_in ks a b e w c
unfolding plain_in satisfied_in
turned_is [] a b e w c u = refl
turned_is (k ∷ ks) a b e w c u =
    rw (swapped_care (k ∷ ks) a b e u, xor_mod b e (suc k), xor_shr b e (suc k))
    (ap₂ (λ (x y : Bool). x && y) (turned_about (bit_and w (bit_or a b) % 2 ^ suc k) (bit_and c (bit_or a b) % 2 ^ suc k) (first k ks a b e u))
    (turned_is ks (a / 2 ^ suc k) (b / 2 ^ suc k) (e / 2 ^ suc k) (w / 2 ^ suc k) (c / 2 ^ suc k) (rest k ks a b e u)))
