-- The statuses of a syllable from its top bit down, bit by bit: each is what its cell makes of the one above.
use Prim.Native.Nat.{ℕ, zero, suc, ◌+◌, ◌-◌, ◌≤◌}
use mathlib.Core.Path.{◌≡◌, refl, sym, ap, ◌∙◌}
use mathlib.Core.Bool.{true, false}
use mathlib.Core.Logic.{◌⊎◌, inl, inr, ⊎_elim}
use native.Mathlib.Omega.{arith}
use Rattle.laws.specs.Bits.{bit}
use Rattle.laws.proofs.Digits.{Bit, off, on}
use Rattle.laws.proofs.Bits.{digit_at, number_like}
use Rattle.machine.specs.declared.Panel.{Panel}
use Rattle.machine.specs.declared.Code.{Code}
use Rattle.machine.specs.declared.Code.TheVariants.{DontCare, Exact, Larger, Smaller}
use Rattle.machine.specs.declared.Status.{Status}
use Rattle.machine.specs.declared.Status.TheVariants.{Equal, For, Against}
use Rattle.machine.specs.Search.{code_at, or_exact, cared, read_over}
use Rattle.machine.specs.Cells.{cell, passed}
use Rattle.explainer.specs.Reasons.{cell_at, is_against}
use Rattle.explainer.specs.Truth.{status_at, DiffersAs}
use Rattle.explainer.proofs.Selecting.{never}

-- ---- one cell

pub from_equal : (d : Code) (w c : ℕ) (s : Status) → cell d w c s ≡ Equal → s ≡ Equal
from_equal d w c Equal h = refl
from_equal d w c For h = h
from_equal d w c Against h = h

-- exact and don't care never settle for
pub not_for : (d : Code) (w c : ℕ) → Bit w → Bit c → (s : Status) → or_exact d ≡ true → cell d w c s ≡ For → s ≡ For
not_for d w c p q For e h = refl
not_for d w c p q Against e h = never (cc)
not_for DontCare w c p q Equal e h = never (cc)
not_for Exact w c off off Equal e h = never (cc)
not_for Exact w c off on Equal e h = never (cc)
not_for Exact w c on off Equal e h = never (cc)
not_for Exact w c on on Equal e h = never (cc)
not_for Larger w c p q Equal e h = never (cc)
not_for Smaller w c p q Equal e h = never (cc)

-- a status that turns against was equal, and the bits differ as the code says
pub turns : (d : Code) (w c : ℕ) → Bit w → Bit c → (s : Status) → is_against s ≡ false → cell d w c s ≡ Against → (s ≡ Equal) × DiffersAs d w c
turns d w c p q For n h = never (cc)
turns d w c p q Against n h = never (cc)
turns DontCare w c p q Equal n h = never (cc)
turns Exact w c off off Equal n h = never (cc)
turns Exact w c off on Equal n h = (refl, λ e. omega arith)
turns Exact w c on off Equal n h = (refl, λ e. omega arith)
turns Exact w c on on Equal n h = never (cc)
turns Larger w c off off Equal n h = never (cc)
turns Larger w c off on Equal n h = (refl, (refl, refl))
turns Larger w c on off Equal n h = never (cc)
turns Larger w c on on Equal n h = never (cc)
turns Smaller w c off off Equal n h = never (cc)
turns Smaller w c off on Equal n h = never (cc)
turns Smaller w c on off Equal n h = (refl, (refl, refl))
turns Smaller w c on on Equal n h = never (cc)

-- where it stays equal, word and COMP agree or are not cared for
pub stays_equal : (d : Code) (w c : ℕ) → Bit w → Bit c → cell d w c Equal ≡ Equal → (d ≡ DontCare) ⊎ (w ≡ c)
stays_equal DontCare w c p q h = inl refl
stays_equal Exact w c off off h = inr refl
stays_equal Exact w c off on h = never (cc)
stays_equal Exact w c on off h = never (cc)
stays_equal Exact w c on on h = inr refl
stays_equal Larger w c off off h = inr refl
stays_equal Larger w c off on h = never (cc)
stays_equal Larger w c on off h = never (cc)
stays_equal Larger w c on on h = inr refl
stays_equal Smaller w c off off h = inr refl
stays_equal Smaller w c off on h = never (cc)
stays_equal Smaller w c on off h = never (cc)
stays_equal Smaller w c on on h = inr refl

-- ---- one bit after the other

passed_last : (f : ℕ → Status → Status) (k : ℕ) (s : Status) → passed f (suc k) s ≡ f 0 (passed (λ j. f (suc j)) k s)
unfolding passed
passed_last f zero s = refl
passed_last f (suc k) s = passed_last f k (f (suc k) s)

passed_like : (f g : ℕ → Status → Status) → ((j : ℕ) (s : Status) → f j s ≡ g j s) → (k : ℕ) (s : Status) → passed f k s ≡ passed g k s
unfolding passed
passed_like f g h zero s = refl
passed_like f g h (suc k) s = ap (passed f k) (h k s) ∙ passed_like f g h k (g k s)

module _ (p : Panel) (w t : ℕ) where
  -- above the top bit
  pub starts_equal : status_at p w t (suc t) ≡ Equal
  unfolding passed
  starts_equal = let e : suc t - suc t ≡ 0 = omega arith in ap (λ (k : ℕ). passed (λ j. cell_at p w (suc t + j)) k Equal) e

  pub passes_on : (i : ℕ) → i ≤ t → status_at p w t i ≡ cell_at p w i (status_at p w t (suc i))
  passes_on i l =
      let e : suc t - i ≡ suc (suc t - suc i) = omega arith in
      let z : i + 0 ≡ i = omega arith in
      ap (λ (k : ℕ). passed (λ j. cell_at p w (i + j)) k Equal) e
      ∙ passed_last (λ j. cell_at p w (i + j)) (suc t - suc i) Equal
      ∙ ap (λ (k : ℕ). cell_at p w k (passed (λ j. cell_at p w (i + suc j)) (suc t - suc i) Equal)) z
      ∙ ap (cell_at p w i) (passed_like (λ j. cell_at p w (i + suc j)) (λ j. cell_at p w (suc i + j)) (λ j s. let g : i + suc j ≡ suc i + j = omega arith in ap (λ (k : ℕ). cell_at p w k s) g) (suc t - suc i) Equal)

  -- what is equal has been so from the top
  equal_by : (k i : ℕ) → i + k ≤ suc t → status_at p w t i ≡ Equal → status_at p w t (i + k) ≡ Equal
  equal_by zero i l h = let e : i + 0 ≡ i = omega arith in ap (status_at p w t) e ∙ h
  equal_by (suc k) i l h =
      let e : i + suc k ≡ suc i + k = omega arith in
      ap (status_at p w t) e
      ∙ equal_by k (suc i) (omega arith) (from_equal (code_at p i) (bit w i) (bit p.comp i) (status_at p w t (suc i)) (sym (passes_on i (omega arith)) ∙ h))

  pub equal_above : (b i : ℕ) → b ≤ i → i ≤ suc t → status_at p w t b ≡ Equal → status_at p w t i ≡ Equal
  equal_above b i l g h = let e : b + (i - b) ≡ i = omega arith in ap (status_at p w t) (sym e) ∙ equal_by (i - b) b (omega arith) h

  -- what is settled against stays so to the bottom
  against_by : (k i : ℕ) → i + k ≤ suc t → status_at p w t (i + k) ≡ Against → status_at p w t i ≡ Against
  against_by zero i l h = let e : i + 0 ≡ i = omega arith in ap (status_at p w t) (sym e) ∙ h
  against_by (suc k) i l h =
      let e : i + suc k ≡ suc i + k = omega arith in
      passes_on i (omega arith) ∙ ap (cell_at p w i) (against_by k (suc i) (omega arith) (ap (status_at p w t) (sym e) ∙ h))

  pub against_below : (b i : ℕ) → i ≤ b → b ≤ suc t → status_at p w t b ≡ Against → status_at p w t i ≡ Against
  against_below b i l g h = let e : i + (b - i) ≡ b = omega arith in against_by (b - i) i (omega arith) (ap (status_at p w t) e ∙ h)

  -- without larger and smaller nothing is settled for
  for_by : (k i : ℕ) → i + k ≡ suc t → ((b : ℕ) → i ≤ b → b ≤ t → or_exact (code_at p b) ≡ true) → status_at p w t i ≡ For → ⊥
  for_by zero i e c h = let g : i ≡ suc t = omega arith in let q : Equal ≡ For = sym (ap (status_at p w t) g ∙ starts_equal) ∙ h in never (cc)
  for_by (suc k) i e c h =
      for_by k (suc i) (omega arith) (λ b l. c b (omega arith))
      (not_for (code_at p i) (bit w i) (bit p.comp i) (digit_at w i) (digit_at p.comp i) (status_at p w t (suc i)) (c i (omega arith) (omega arith)) (sym (passes_on i (omega arith)) ∙ h))

  pub never_for : (i : ℕ) → i ≤ t → ((b : ℕ) → i ≤ b → b ≤ t → or_exact (code_at p b) ≡ true) → status_at p w t i ≡ For → ⊥
  never_for i l = for_by (suc t - i) i (omega arith)

  -- ---- a bit at which the status is equal

  pub agrees_at : (i : ℕ) → i ≤ t → status_at p w t i ≡ Equal → (code_at p i ≡ DontCare) ⊎ (bit w i ≡ bit p.comp i)
  agrees_at i l h =
      let above = from_equal (code_at p i) (bit w i) (bit p.comp i) (status_at p w t (suc i)) (sym (passes_on i l) ∙ h) in
      stays_equal (code_at p i) (bit w i) (bit p.comp i) (digit_at w i) (digit_at p.comp i) (sym (ap (cell_at p w i) above) ∙ sym (passes_on i l) ∙ h)

  same_cared : (i : ℕ) → i ≤ t → status_at p w t i ≡ Equal → cared (code_at p i) (bit w i) ≡ cared (code_at p i) (bit p.comp i)
  same_cared i l h = ⊎_elim (λ e. rw e) (λ e. ap (cared (code_at p i)) e) (agrees_at i l h)

  -- by numbers: over k bits from bit b up, at each of which it is equal
  pub same_number : (b k : ℕ) → b + k ≤ suc t → ((i : ℕ) → b ≤ i → i ≤ t → status_at p w t i ≡ Equal)
      → read_over p (record { low = b; width = k }) w ≡ read_over p (record { low = b; width = k }) p.comp
  same_number b k l h = number_like k _ _ (λ j g. same_cared (b + j) (omega arith) (h (b + j) (omega arith) (omega arith)))
