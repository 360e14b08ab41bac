-- Document 02, request e: "Each reason given is proved true": what it is that each answer says of the word w, whose response is r, under panel p. Words
-- of the theorems; the call's contract names none of them.
use Rattle.std.specs.Prelude.{ℕ, suc, ◌+◌, ◌-◌, ◌≤◌, ◌<◌, ◌≡◌, Bool, true, false, ◌⊎◌}
use Rattle.laws.specs.Bits.{bit}
use Rattle.machine.specs.declared.Panel.{Panel}
use Rattle.machine.specs.declared.Code.{Code}
use Rattle.machine.specs.declared.Code.TheVariants.{DontCare, Exact, Larger, Smaller}
use Rattle.machine.specs.declared.Status.{Status}
use Rattle.machine.specs.declared.Status.TheVariants.{Equal, Against}
use Rattle.machine.specs.Machine.{response_bits, Syllable, is_top, bottom, down_from, selected}
use Rattle.machine.specs.Search.{code_at, or_equal, read_over, satisfied, matches}
use Rattle.machine.specs.Cells.{status_of}
use Rattle.explainer.specs.declared.Reason.{Reason}
use Rattle.explainer.specs.declared.Reason.TheVariants as answer

-- "not selected, with the lowest response bit that differs": under care, and no lower one does
pub record Unselected (p : Panel) (r i : ℕ) : Type 0 where
  pub unselected : selected p.key p.care r ≡ false
  pub within : i < response_bits
  pub cared : bit p.care i ≡ 1
  pub differs : bit r i ≡ bit p.key i → ⊥
  pub none_lower : (j : ℕ) → j < i → bit p.care j ≡ 1 → bit r j ≡ bit p.key j

-- "the topmost syllable not satisfied", of a selected word of n bits: the one whose top bit is bit t
pub record Topmost (n : ℕ) (p : Panel) (w r t : ℕ) : Type 0 where
  pub is_selected : selected p.key p.care r ≡ true
  pub within : t < n
  pub top : is_top n p.sdr t ≡ true
  pub unsatisfied : satisfied p w (down_from p.sdr t) ≡ false
  pub above : (i : ℕ) → t < i → i < n → is_top n p.sdr i ≡ true → satisfied p w (down_from p.sdr i) ≡ true

-- the bits of a syllable from its top bit t down to bit b, and what bit b passes on: the status at the bottom of a syllable that ends there
abbrev pub down_to : ℕ → ℕ → Syllable
down_to t b = record { low = b; width = suc t - b }

abbrev pub status_at : Panel → ℕ → ℕ → ℕ → Status
status_at p w t b = status_of p w (down_to t b)

-- the bits of a syllable with top bit t that are above bit b
abbrev pub above_bit : ℕ → ℕ → Syllable
above_bit t b = record { low = suc b; width = t - b }

-- 01: "Exact: a difference settles against. Larger: .. word 0 with COMP 1 against; smaller is the mirror."
abbrev pub DiffersAs : Code → ℕ → ℕ → Type 0
DiffersAs DontCare w c = ⊥
DiffersAs Exact w c = w ≡ c → ⊥
DiffersAs Larger w c = (w ≡ 0) × (c ≡ 1)
DiffersAs Smaller w c = (w ≡ 1) × (c ≡ 0)

-- "with the bit where it was settled against": bit b of the syllable whose top bit is bit t
pub record SettledAgainst (p : Panel) (w t b : ℕ) : Type 0 where
  pub inside : (bottom p.sdr t ≤ b) × (b ≤ t)
  pub equal_above : (i : ℕ) → b < i → i ≤ t → status_at p w t i ≡ Equal
  pub against_from : (i : ℕ) → bottom p.sdr t ≤ i → i ≤ b → status_at p w t i ≡ Against
  pub differs : DiffersAs (code_at p b) (bit w b) (bit p.comp b)
  -- by numbers: with don't-care bits as 0, the same number above
  pub same_above : read_over p (above_bit t b) w ≡ read_over p (above_bit t b) p.comp

-- "when larger or smaller found no difference", in syllable y: it carries one of the two, without SC3, and word and COMP agree
pub record NoDifference (p : Panel) (w : ℕ) (y : Syllable) : Type 0 where
  pub code : Code
  pub compares : (code ≡ Larger) ⊎ (code ≡ Smaller)
  pub somewhere : (j : ℕ) × (j < y.width) × (code_at p (y.low + j) ≡ code)
  pub carried : (j : ℕ) → j < y.width → (code_at p (y.low + j) ≡ DontCare) ⊎ (code_at p (y.low + j) ≡ code)
  pub without : (j : ℕ) → j < y.width → or_equal p (y.low + j) ≡ false
  pub agree : (j : ℕ) → j < y.width → code_at p (y.low + j) ≡ code → bit w (y.low + j) ≡ bit p.comp (y.low + j)
  -- by numbers
  pub same : read_over p y w ≡ read_over p y p.comp

-- "matched" is said
abbrev pub is_matched : Reason → Bool
is_matched answer.Matched = true
is_matched (answer.NotSelected x) = false
is_matched (answer.Against t b) = false
is_matched (answer.EqualToTheBottom t) = false

-- what each of the four answers says
abbrev pub TrueOf : ℕ → Panel → ℕ → ℕ → Reason → Type 0
TrueOf n p w r answer.Matched = matches n p w r ≡ true
TrueOf n p w r (answer.NotSelected x) = Unselected p r x.0
TrueOf n p w r (answer.Against t b) = Topmost n p w r t.0 × SettledAgainst p w t.0 b.0
TrueOf n p w r (answer.EqualToTheBottom t) = Topmost n p w r t.0 × NoDifference p w (down_from p.sdr t.0)
