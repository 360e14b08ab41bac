-- The machine's syllables, as the list of their widths.
-- Document 01, 'The machine'. For every width.
use Prim.Native.Nat.{ℕ, zero, suc, ◌+◌, ◌-◌, ◌/◌, ◌%◌, ◌^◌}
use mathlib.Core.Path.{◌≡◌, refl, ap, ap₂, ◌∙◌}
use mathlib.Core.Bool.{◌||◌}
use mathlib.Core.List.{List, [], ◌∷◌}
use native.Mathlib.Nat.{div-one}
use native.Mathlib.Numerals.{add-one}
use native.Mathlib.Omega.{arith}
use lib.Dec.{eqb}
use lib.Pow.{shr-shr}
use borrow.Author.Tests.{eq-eqb, ne_eqb}
use Rattle.laws.specs.Bits.{bit}
use Rattle.laws.proofs.Digits.{Bit, off, on, low}
use Rattle.machine.specs.Machine.{Syllable, bottom, keep, tops, syllables}
use Rattle.machine.proofs.Machine.{bottom_on, bottom_off}
use Rattle.fields.specs.Fields.{grow, fields}
use Rattle.fields.proofs.Above.{grow_cons}

-- syllables of these widths less one, from bit lo up
unfoldable pub place : ℕ → List ℕ → List Syllable
place lo [] = []
place lo (k ∷ ks) = record { low = lo; width = suc k } ∷ place (lo + suc k) ks

-- the lowest d bits wider
abbrev widen : ℕ → List ℕ → List ℕ
widen d [] = []
widen d (k ∷ ks) = (d + k) ∷ ks

widen_none : (ks : List ℕ) → widen 0 ks ≡ ks
widen_none [] = refl
widen_none (k ∷ ks) = ap (λ (x : ℕ). x ∷ ks) (omega arith)

widen_grow : (d : ℕ) (ks : List ℕ) → (ks ≡ [] → ⊥) → widen (suc d) ks ≡ widen d (grow 0 ks)
widen_grow d [] h = absurd (h refl)
widen_grow d (k ∷ ks) h = ap (λ (x : ℕ). x ∷ ks) (omega arith)

half_shift : (s i : ℕ) → s / 2 ^ i / 2 ≡ s / 2 ^ suc i
half_shift s i = rw (← (add-one i)) (shr-shr s i 1)

-- bit i lies d bits above the lowest bit of its syllable
placed : (n s m i lo d : ℕ) → i ≡ lo + d → bottom s i ≡ lo → i + m ≡ n → tops n s i m ≡ place lo (widen d (fields m (s / 2 ^ i)))
unfolding tops fields place
placed n s zero i lo d e b h = refl
placed n s (suc m) i lo d e b h = rw (half_shift s i, b) (go m h (bit s i) (low (s / 2 ^ i)) refl (λ lo d. placed n s m (suc i) lo d))
  where
    go : (m : ℕ) → i + suc m ≡ n → (t : ℕ) → Bit t → bit s i ≡ t
        → ((lo d : ℕ) → suc i ≡ lo + d → bottom s (suc i) ≡ lo → suc i + m ≡ n → tops n s (suc i) m ≡ place lo (widen d (fields m (s / 2 ^ suc i))))
        → keep (eqb t 1 || eqb (suc i) n) (record { low = lo; width = suc i - lo }) (tops n s (suc i) m)
        ≡ place lo (widen d (grow t (fields m (s / 2 ^ suc i))))
    go m h t on f ih =
        let w : suc i - lo ≡ suc (d + 0) = omega arith in
        let z : suc i ≡ lo + suc (d + 0) = omega arith in
        ap₂ (λ (x : ℕ) (ys : List Syllable). record { low = lo; width = x } ∷ ys) w
        (ih (lo + suc (d + 0)) 0 (omega arith) (bottom_on s i f ∙ z) (omega arith) ∙ ap (place (lo + suc (d + 0))) (widen_none (fields m (s / 2 ^ suc i))))
    go zero h t off f ih =
        let w : suc i - lo ≡ suc (d + 0) = omega arith in
        rw (eq-eqb (suc i) n (omega arith), w)
    go (suc m) h t off f ih =
        rw (ne_eqb (suc i) n (λ q. omega arith))
        (ih lo (suc d) (omega arith) (bottom_off s i f ∙ b) (omega arith)
        ∙ ap (place lo) (widen_grow d (fields (suc m) (s / 2 ^ suc i)) (grow_cons (s / 2 ^ suc i % 2) (fields m (s / 2 ^ suc i / 2)))))

pub syllables_are : (n sdr : ℕ) → syllables n sdr ≡ place 0 (fields n sdr)
unfolding bottom
syllables_are n sdr = placed n sdr n 0 0 0 refl refl (omega arith) ∙ ap (place 0) (widen_none _ ∙ ap (fields n) (div-one sdr))
