-- The syllables tile the word, and a bit starts one exactly if it is a one of SDR or bit N-1.
use Prim.Native.Nat.{ℕ, zero, suc, ◌+◌, ◌-◌, ◌≤◌, ◌<◌}
use mathlib.Core.Path.{◌≡◌, refl, sym, ap, ap₂, ◌∙◌}
use mathlib.Core.Bool.{Bool, true, false, ◌&&◌, ◌||◌, or-true, and-false}
use mathlib.Core.Logic.{◌⊎◌, inl, inr, ⊎_elim}
use mathlib.Core.List.{List, [], ◌∷◌}
use native.Mathlib.Omega.{arith}
use lib.Dec.{eqb}
use borrow.Author.Tests.{eq-eqb, ne_eqb}
use Rattle.laws.specs.Bits.{bit, pick}
use Rattle.laws.specs.Lists.{all}
use Rattle.laws.proofs.Digits.{Bit, off, on, tri}
use Rattle.laws.proofs.Bits.{digit_at, and_left, and_right}
use Rattle.machine.specs.Machine.{Syllable, is_top, bottom, down_from, keep, tops, syllables}

-- ---- the syllables tile the word

-- from bit lo up to bit hi, each syllable begins where the one below it ends
unfoldable pub Tiled : ℕ → List Syllable → ℕ → Type 0
Tiled lo [] hi = lo ≡ hi
Tiled lo (y ∷ ys) hi = (y.low ≡ lo) × (0 < y.width) × Tiled (lo + y.width) ys hi

pub bottom_le : (s i : ℕ) → bottom s i ≤ i
unfolding bottom
bottom_le s zero = omega arith
bottom_le s (suc i) = go (eqb (bit s i) 1) (bottom_le s i)
  where
    go : (t : Bool) → bottom s i ≤ i → pick t (suc i) (bottom s i) ≤ suc i
    go true h = omega arith
    go false h = omega arith

pub bottom_on : (s i : ℕ) → bit s i ≡ 1 → bottom s (suc i) ≡ suc i
unfolding bottom
bottom_on s i h = rw (eq-eqb (bit s i) 1 h)

pub bottom_off : (s i : ℕ) → bit s i ≡ 0 → bottom s (suc i) ≡ bottom s i
unfolding bottom
bottom_off s i h = rw (ne_eqb (bit s i) 1 (λ e. omega arith))

-- the top bit of the syllable down from bit i is bit i
pub down_ends : (s i : ℕ) → bottom s i + (suc i - bottom s i) ≡ suc i
down_ends s i = omega (arith, bottom_le s i)

-- the syllables from bit i up begin at the bottom of the syllable that bit i lies in
tops_tile : (n s i m : ℕ) → i + suc m ≡ n → Tiled (bottom s i) (tops n s i (suc m)) n
unfolding tops Tiled
tops_tile n s i zero e =
    rw (eq-eqb (suc i) n (omega arith), or-true) (refl, omega (arith, bottom_le s i), down_ends s i ∙ omega arith)
tops_tile n s i (suc m) e =
    go (bit s i) (digit_at s i) refl (tops n s (suc i) (suc m)) (tops_tile n s (suc i) m (omega arith))
  where
    go : (t : ℕ) → Bit t → bit s i ≡ t → (ys : List Syllable) → Tiled (bottom s (suc i)) ys n
        → Tiled (bottom s i) (keep (eqb t 1 || eqb (suc i) n) (down_from s i) ys) n
    go t on f ys h = (refl, omega (arith, bottom_le s i), rw (down_ends s i, ← (bottom_on s i f)) h)
    go t off f ys h = rw (ne_eqb (suc i) n (λ q. omega arith), ← (bottom_off s i f)) h

pub syllables_tile : (n s : ℕ) → 0 < n → Tiled 0 (syllables n s) n
unfolding bottom
syllables_tile zero s h = absurd (omega arith)
syllables_tile (suc n) s h = tops_tile (suc n) s 0 n (omega arith)

-- ---- what starts a syllable

-- some syllable has bit i for its top
unfoldable pub starts : ℕ → List Syllable → Bool
starts i [] = false
starts i (y ∷ ys) = eqb (y.low + y.width) (suc i) || starts i ys

kept : (s i k : ℕ) (t : Bool) (ys : List Syllable) → starts i (keep t (down_from s k) ys) ≡ (t && eqb (suc k) (suc i) || starts i ys)
unfolding starts
kept s i k true ys = rw (down_ends s k)
kept s i k false ys = refl

starts_below : (n s k m i : ℕ) → i < k → starts i (tops n s k m) ≡ false
unfolding starts tops
starts_below n s k zero i h = refl
starts_below n s k (suc m) i h =
    kept s i k (is_top n s k) (tops n s (suc k) m)
    ∙ rw (ne_eqb (suc k) (suc i) (λ e. omega arith), and-false (is_top n s k)) (starts_below n s (suc k) m i (omega arith))

starts_among : (n s k m i : ℕ) → k ≤ i → i < k + m → starts i (tops n s k m) ≡ is_top n s i
unfolding tops
starts_among n s k zero i h g = absurd (omega arith)
starts_among n s k (suc m) i h g =
    kept s i k (is_top n s k) (tops n s (suc k) m)
    ∙ ⊎_elim (λ l. rw (ne_eqb (suc k) (suc i) (λ e. omega arith), and-false (is_top n s k)) (starts_among n s (suc k) m i (omega arith) (omega arith)))
    (λ e. rw (e, eq-eqb (suc i) (suc i) refl, starts_below n s (suc i) m i (omega arith)) (ends (is_top n s i)))
    (or_here k i h)
  where
    or_here : (k i : ℕ) → k ≤ i → (k < i) ⊎ (k ≡ i)
    or_here k i h = ⊎_elim inl (⊎_elim inr (λ e. absurd (omega arith))) (tri k i)

    ends : (t : Bool) → (t && true || false) ≡ t
    ends true = refl
    ends false = refl

-- "A one in SDR makes that bit the top bit of a syllable .. Bit N-1 always starts a syllable": those, and no other bit
pub starts_is : (n s i : ℕ) → i < n → starts i (syllables n s) ≡ is_top n s i
starts_is n s i h = starts_among n s 0 n i (omega arith) (omega arith)

-- ---- a test of all syllables is one of each bit that starts one

module _ (f : Syllable → Bool) (n s : ℕ) where
  down_among : (i k m : ℕ) → k ≤ i → i < k + m → is_top n s i ≡ true → all f (tops n s k m) ≡ true → f (down_from s i) ≡ true
  unfolding all tops
  down_among i k zero a b t h = absurd (omega arith)
  down_among i k (suc m) a b t h =
      ⊎_elim (λ l. down_among i (suc k) m (omega arith) (omega arith) t (later (is_top n s k) h))
      (⊎_elim (λ e. here (is_top n s k) (ap (is_top n s) e ∙ t) h e) (λ l. absurd (omega arith))) (tri k i)
    where
      later : (top : Bool) → all f (keep top (down_from s k) (tops n s (suc k) m)) ≡ true → all f (tops n s (suc k) m) ≡ true
      later true h = and_right (f (down_from s k)) (all f (tops n s (suc k) m)) h
      later false h = h

      here : (top : Bool) → top ≡ true → all f (keep top (down_from s k) (tops n s (suc k) m)) ≡ true → k ≡ i → f (down_from s i) ≡ true
      here true e h g = ap (λ (x : ℕ). f (down_from s x)) (sym g) ∙ and_left (f (down_from s k)) (all f (tops n s (suc k) m)) h
      here false e h g = cc

  pub all_down : (i : ℕ) → i < n → is_top n s i ≡ true → all f (syllables n s) ≡ true → f (down_from s i) ≡ true
  all_down i l = down_among i 0 n (omega arith) (omega arith)

  up_among : (k m : ℕ) → ((i : ℕ) → k ≤ i → i < k + m → is_top n s i ≡ true → f (down_from s i) ≡ true) → all f (tops n s k m) ≡ true
  unfolding all tops
  up_among k zero h = refl
  up_among k (suc m) h =
      go (is_top n s k) (h k (omega arith) (omega arith)) (up_among (suc k) m (λ i a b. h i (omega arith) (omega arith)))
    where
      go : (top : Bool) → (top ≡ true → f (down_from s k) ≡ true) → all f (tops n s (suc k) m) ≡ true → all f (keep top (down_from s k) (tops n s (suc k) m)) ≡ true
      go true g e = ap₂ (λ (a b : Bool). a && b) (g refl) e
      go false g e = e

  pub all_up : ((i : ℕ) → i < n → is_top n s i ≡ true → f (down_from s i) ≡ true) → all f (syllables n s) ≡ true
  all_up h = up_among 0 n (λ i a b. h i (omega arith))
