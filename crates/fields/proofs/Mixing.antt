-- The machine's definition of refusal 5 is that over fields: one code, one setting of SC3, and that over larger and smaller bits alone.
-- Document 01, refusal 5; document 02, request c. For every width.
use Prim.Native.Nat.{ℕ, zero, suc, ◌+◌, ◌/◌, ◌%◌, ◌^◌, ◌<◌, min, max}
use mathlib.Core.Path.{◌≡◌, refl, sym, ap, ap₂, ◌∙◌}
use mathlib.Core.Bool.{Bool, true, false, ◌&&◌, ◌||◌}
use mathlib.Core.List.{List, [], ◌∷◌}
use native.Mathlib.Nat.{div-one, zero-mod}
use native.Mathlib.Omega.{arith}
use lib.Dec.{eqb, eqb-suc-zero}
use lib.Pow.{shr-shr, shr_lt}
use lib.Bits.{bit_and, bit_or, and_le_l, and_le_r, and_mod, and_shr}
use borrow.Author.Tests.{eq-eqb}
use Rattle.laws.specs.Bits.{bit, every}
use Rattle.laws.specs.Lists.{all}
use Rattle.laws.proofs.Digits.{Bit, off, on}
use Rattle.laws.proofs.Bits.{digit_at, shifted, every_like, every_eqb, and_bit, or_bit, bit_none}
use Rattle.machine.specs.declared.Panel.{Panel}
use Rattle.machine.specs.declared.Code.{Code}
use Rattle.machine.specs.Machine.{Syllable, syllables}
use Rattle.machine.specs.Search.{code, code_at, each_code, or_equal, or_exact, or_larger, or_smaller, one_code, or_unset, or_set, one_setting, over_compared, compared_only, unmixed}
use Rattle.fields.specs.Fields.{fields, bits}
use Rattle.fields.specs.Codes.{one, one_in, set_bits, unmixed_in}
use Rattle.fields.proofs.Syllables.{place, syllables_are}
use Rattle.fields.proofs.Blocks.{eqb_split}
use Rattle.fields.proofs.Shape.{bits_fields}

-- a register from bit lo up, and the syllable of k bits there
abbrev pub from : ℕ → ℕ → ℕ
from lo x = x / 2 ^ lo

abbrev pub at : ℕ → ℕ → Syllable
at lo k = record { low = lo; width = k }

-- the code of a bit, from what stands above the syllable's lowest bit
pub codes : (p : Panel) (lo j : ℕ) → code_at p (lo + j) ≡ code (bit (p.sc1 / 2 ^ lo) j) (bit (p.sc2 / 2 ^ lo) j)
codes p lo j = ap₂ code (shifted p.sc1 lo j) (shifted p.sc2 lo j)

-- ---- one code

or_is : {x y : ℕ} → Bit x → Bit y → (or_exact (code x y) ≡ eqb x 0) × (or_larger (code x y) ≡ eqb y 0) × (or_smaller (code x y) ≡ eqb x y)
or_is off off = (refl, refl, refl)
or_is off on = (refl, refl, refl)
or_is on off = (refl, refl, refl)
or_is on on = (refl, refl, refl)

every_none : (k x : ℕ) → every k (λ j. eqb (bit x j) 0) ≡ eqb (x % 2 ^ k) 0
every_none k x = every_like k _ _ (λ j g. ap (eqb (bit x j)) (sym (bit_none j))) ∙ every_eqb k x 0 ∙ ap (eqb (x % 2 ^ k)) (zero-mod (2 ^ k))

module _ (p : Panel) (lo k : ℕ) where
  abbrev a : ℕ
  a = from lo p.sc1

  abbrev b : ℕ
  b = from lo p.sc2

  each_like : (test : Code → Bool) → each_code p (at lo k) test ≡ every k (λ j. test (code (bit a j) (bit b j)))
  each_like test = every_like k _ _ (λ j g. ap test (codes p lo j))

  one_code_is : one_code p (at lo k) ≡ one (a % 2 ^ k) (b % 2 ^ k)
  unfolding one_code
  one_code_is =
      ap₂ (λ (x z : Bool). x || z)
      (each_like or_exact ∙ every_like k _ _ (λ j g. (or_is (digit_at a j) (digit_at b j)).0) ∙ every_none k a)
      (ap₂ (λ (x z : Bool). x || z)
      (each_like or_larger ∙ every_like k _ _ (λ j g. (or_is (digit_at a j) (digit_at b j)).1) ∙ every_none k b)
      (each_like or_smaller ∙ every_like k _ _ (λ j g. (or_is (digit_at a j) (digit_at b j)).2) ∙ every_eqb k a b))

-- ---- one setting of SC3, over larger and smaller bits alone

set_cases : {x y z : ℕ} → Bit x → Bit y → Bit z
    → (or_unset (code x y) (eqb z 1) ≡ eqb (min z (max x y)) 0) × (or_set (code x y) (eqb z 1) ≡ eqb (min z (max x y)) (max x y)) × (over_compared (code x y) (eqb z 1) ≡ eqb (min z x) z)
set_cases off off off = (refl, refl, refl)
set_cases off off on = (refl, refl, refl)
set_cases off on off = (refl, refl, refl)
set_cases off on on = (refl, refl, refl)
set_cases on off off = (refl, refl, refl)
set_cases on off on = (refl, refl, refl)
set_cases on on off = (refl, refl, refl)
set_cases on on on = (refl, refl, refl)

-- where the second of two numbers is 0 and the first lies in it, both are
one_inside : (s v : ℕ) → (v ≡ 0 → s ≡ 0) → (eqb s 0 || eqb s v) ≡ one s v
one_inside zero v h = refl
one_inside (suc s) zero h = absurd (omega (arith, h refl))
one_inside (suc s) (suc v) h = rw (eqb-suc-zero v) refl

module _ (p : Panel) (lo k : ℕ) where
  abbrev v : ℕ
  v = bit_or p.sc1 p.sc2

  abbrev s : ℕ
  s = set_bits p.sc1 p.sc2 p.sc3

  set_at : (i : ℕ) → bit s i ≡ min (bit p.sc3 i) (max (bit p.sc1 i) (bit p.sc2 i))
  set_at i = rw (and_bit, or_bit)

  tests : (i : ℕ)
      → (or_unset (code_at p i) (or_equal p i) ≡ eqb (bit s i) 0) × (or_set (code_at p i) (or_equal p i) ≡ eqb (bit s i) (bit v i))
      × (over_compared (code_at p i) (or_equal p i) ≡ eqb (bit (bit_and p.sc3 p.sc1) i) (bit p.sc3 i))
  tests i = rw (set_at i, or_bit p.sc1 p.sc2 i, and_bit p.sc3 p.sc1 i) (set_cases (digit_at p.sc1 i) (digit_at p.sc2 i) (digit_at p.sc3 i))

  one_setting_is : one_setting p (at lo k) ≡ one (from lo s % 2 ^ k) (from lo v % 2 ^ k)
  unfolding one_setting
  one_setting_is =
      ap₂ (λ (x z : Bool). x || z)
      (every_like k _ _ (λ j g. (tests (lo + j)).0 ∙ ap (λ (x : ℕ). eqb x 0) (shifted s lo j)) ∙ every_none k (from lo s))
      (every_like k _ _ (λ j g. (tests (lo + j)).1 ∙ ap₂ eqb (shifted s lo j) (shifted v lo j)) ∙ every_eqb k (from lo s) (from lo v))
      ∙ one_inside (from lo s % 2 ^ k) (from lo v % 2 ^ k)
      (λ z. omega (arith, z, ap (λ (x : ℕ). x % 2 ^ k) (and_shr p.sc3 v lo), and_mod (from lo p.sc3) (from lo v) k, and_le_r (from lo p.sc3 % 2 ^ k) (from lo v % 2 ^ k)))

  compared_only_is : compared_only p (at lo k) ≡ eqb (from lo (bit_and p.sc3 p.sc1) % 2 ^ k) (from lo p.sc3 % 2 ^ k)
  unfolding compared_only
  compared_only_is =
      every_like k _ _ (λ j g. (tests (lo + j)).2 ∙ ap₂ eqb (shifted (bit_and p.sc3 p.sc1) lo j) (shifted p.sc3 lo j))
      ∙ every_eqb k (from lo (bit_and p.sc3 p.sc1)) (from lo p.sc3)

-- ---- all syllables

ones_are : (p : Panel) (lo : ℕ) (ks : List ℕ) → all (one_code p) (place lo ks) ≡ one_in ks (p.sc1 / 2 ^ lo) (p.sc2 / 2 ^ lo)
unfolding all place one_in
ones_are p lo [] = refl
ones_are p lo (k ∷ ks) =
    rw (shr-shr p.sc1 lo (suc k), shr-shr p.sc2 lo (suc k))
    (ap₂ (λ (x y : Bool). x && y) (one_code_is p lo (suc k)) (ones_are p (lo + suc k) ks))

settings_are : (p : Panel) (lo : ℕ) (ks : List ℕ)
    → all (one_setting p) (place lo ks) ≡ one_in ks (set_bits p.sc1 p.sc2 p.sc3 / 2 ^ lo) (bit_or p.sc1 p.sc2 / 2 ^ lo)
unfolding all place one_in
settings_are p lo [] = refl
settings_are p lo (k ∷ ks) =
    rw (shr-shr (set_bits p.sc1 p.sc2 p.sc3) lo (suc k), shr-shr (bit_or p.sc1 p.sc2) lo (suc k))
    (ap₂ (λ (x y : Bool). x && y) (one_setting_is p lo (suc k)) (settings_are p (lo + suc k) ks))

-- the places of these fields are all of the word's
compared_are : (p : Panel) (lo : ℕ) (ks : List ℕ) → p.sc3 / 2 ^ lo < 2 ^ bits ks
    → all (compared_only p) (place lo ks) ≡ eqb (bit_and p.sc3 p.sc1 / 2 ^ lo) (p.sc3 / 2 ^ lo)
unfolding all place bits
compared_are p lo [] h =
    let z : p.sc3 / 2 ^ lo ≡ 0 = omega arith in
    sym (eq-eqb (bit_and p.sc3 p.sc1 / 2 ^ lo) (p.sc3 / 2 ^ lo) (omega (arith, z, and_shr p.sc3 p.sc1 lo, and_le_l (p.sc3 / 2 ^ lo) (p.sc1 / 2 ^ lo))))
compared_are p lo (k ∷ ks) h =
    ap₂ (λ (x y : Bool). x && y) (compared_only_is p lo (suc k))
    (compared_are p (lo + suc k) ks (rw (← (shr-shr p.sc3 lo (suc k))) (shr_lt (bits ks) (suc k) h))
    ∙ ap₂ eqb (sym (shr-shr (bit_and p.sc3 p.sc1) lo (suc k))) (sym (shr-shr p.sc3 lo (suc k))))
    ∙ sym (eqb_split (suc k) (bit_and p.sc3 p.sc1 / 2 ^ lo) (p.sc3 / 2 ^ lo))

all_both : (f g : Syllable → Bool) (ys : List Syllable) → all (λ y. f y && g y) ys ≡ (all f ys && all g ys)
unfolding all
all_both f g [] = refl
all_both f g (y ∷ ys) = ap (λ (t : Bool). (f y && g y) && t) (all_both f g ys) ∙ middle (f y) (g y) (all f ys) (all g ys)
  where
    middle : (a b c d : Bool) → ((a && b) && (c && d)) ≡ ((a && c) && (b && d))
    middle true true c d = refl
    middle true false true d = refl
    middle true false false d = refl
    middle false b c d = refl

pub unmixed_is : (n : ℕ) (p : Panel) → p.sc3 < 2 ^ n → all (unmixed p) (syllables n p.sdr) ≡ unmixed_in (fields n p.sdr) p.sc1 p.sc2 p.sc3
unfolding unmixed_in
unmixed_is n p h =
    let ks = fields n p.sdr in
    ap (all (unmixed p)) (syllables_are n p.sdr)
    ∙ all_both (one_code p) (λ y. one_setting p y && compared_only p y) (place 0 ks)
    ∙ ap₂ (λ (x y : Bool). x && y)
    (ones_are p 0 ks ∙ ap₂ (one_in ks) (div-one p.sc1) (div-one p.sc2))
    (all_both (one_setting p) (compared_only p) (place 0 ks)
    ∙ ap₂ (λ (x y : Bool). x && y)
    (settings_are p 0 ks ∙ ap₂ (one_in ks) (div-one (set_bits p.sc1 p.sc2 p.sc3)) (div-one (bit_or p.sc1 p.sc2)))
    (compared_are p 0 ks (rw (div-one p.sc3, bits_fields n p.sdr) h) ∙ ap₂ eqb (div-one (bit_and p.sc3 p.sc1)) (div-one p.sc3)))
