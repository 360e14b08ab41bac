-- Document 02, request e: "For a machine, a panel and a word number, answer: matched; or not selected, with the lowest response bit that differs; or the
-- topmost syllable not satisfied, with the bit where it was settled against, or "equal to the bottom" when larger or smaller found no difference."
use Rattle.std.specs.Prelude.{ℕ, zero, suc, ◌+◌, Bool, true, false, not, ◌&&◌, leb, eqb, length, get_or, Result, Ok, Err}
use Rattle.laws.specs.Bits.{bit, pick}
use Rattle.machine.specs.declared.Panel.{Panel}
use Rattle.machine.specs.declared.Lines.{Lines}
use Rattle.machine.specs.declared.WordSlice.{WordSlice}
use Rattle.machine.specs.declared.Status.{Status}
use Rattle.machine.specs.declared.Status.TheVariants as status
use Rattle.machine.specs.declared.Refusal.{Refusal}
use Rattle.machine.specs.declared.Refusal.TheVariants.{NoSuchWord}
use Rattle.machine.specs.Machine.{Machine, response_bits, Syllable, is_top, down_from, selected}
use Rattle.machine.specs.Search.{code_at, satisfied}
use Rattle.machine.specs.Cells.{cell}
use Rattle.machine.specs.Refusals.{◌else◌, Check, refuse, pulse_check, answer_by, number_of, also_answers}
use Rattle.explainer.specs.declared.Reason.{Reason}
use Rattle.explainer.specs.declared.Reason.TheVariants.{Matched, NotSelected, Against, EqualToTheBottom}

-- ---- "not selected, with the lowest response bit that differs"

-- from the key, at a bit that care has
abbrev pub differs : Panel → ℕ → ℕ → Bool
differs p r i = eqb (bit p.care i) 1 && not (eqb (bit r i) (bit p.key i))

-- of the m numbers from i up the lowest that passes, or the one above them where none does
unfoldable pub lowest_of : (ℕ → Bool) → ℕ → ℕ → ℕ
lowest_of test i zero = i
lowest_of test i (suc m) = pick (test i) i (lowest_of test (suc i) m)

abbrev pub not_selected : Panel → ℕ → Reason
not_selected p r = NotSelected (record { 0 = lowest_of (differs p r) 0 response_bits })

-- ---- "with the bit where it was settled against, or "equal to the bottom""

-- what bit i of the word passes on of the status from above
abbrev pub cell_at : Panel → ℕ → ℕ → Status → Status
cell_at p w i = cell (code_at p i) (bit w i) (bit p.comp i)

abbrev pub is_against : Status → Bool
is_against status.Equal = false
is_against status.For = false
is_against status.Against = true

-- down the j lowest bits of syllable y, whose top bit is bit t, with the status that comes from above
unfoldable pub down_through : Panel → ℕ → ℕ → Syllable → ℕ → Status → Reason
down_through p w t y zero s = EqualToTheBottom (record { 0 = t })
down_through p w t y (suc j) s = let passed = cell_at p w (y.low + j) s in
    pick (is_against passed) (Against (record { 0 = t }) (record { 0 = y.low + j })) (down_through p w t y j passed)

-- the syllable whose top bit is bit t; 01: "It starts equal."
abbrev pub in_syllable : Panel → ℕ → ℕ → Reason
in_syllable p w t = let y = down_from p.sdr t in down_through p w t y y.width status.Equal

-- ---- "the topmost syllable not satisfied"

abbrev pub unsatisfied : ℕ → Panel → ℕ → ℕ → Bool
unsatisfied n p w t = is_top n p.sdr t && not (satisfied p w (down_from p.sdr t))

-- of those whose top bit is below bit t the topmost; "matched" where each of them is satisfied
unfoldable pub topmost : ℕ → Panel → ℕ → ℕ → Reason
topmost n p w zero = Matched
topmost n p w (suc t) = pick (unsatisfied n p w t) (in_syllable p w t) (topmost n p w t)

-- a word of n bits and its response
unfoldable pub reason : ℕ → Panel → ℕ → ℕ → Reason
reason n p w r = pick (selected p.key p.care r) (topmost n p w n) (not_selected p r)

-- ---- the call

-- line search raised, and no other
abbrev pub searching : Lines
searching = record { search = true; read = false; write = false; add = false; multiwrite = false; multiadd = false; complement = false }

-- "Refusals: as for a search, with 7 for the word number."
unfoldable pub explain_check : Machine → Panel → WordSlice → Check
explain_check m p k = pulse_check m p searching else refuse NoSuchWord (leb (length m.words) k.0)

abbrev pub reason_at : Machine → Panel → WordSlice → Reason
reason_at m p k = reason m.width p (get_or m.words k.0 0) (get_or m.responses k.0 0)

unfoldable pub explained : Machine → Panel → WordSlice → Result Reason Refusal
explained m p k = answer_by (explain_check m p k) (reason_at m p k)

-- ---- each answer's number and values; 01: "other answer fields are 0"

-- the refusal's number, 0 for none, and what it also answers; which of the four answers, from 1 up in 02's order (house); the syllable's top bit; the
-- response bit that differs, or the bit where it was settled
pub record Told : Type 0 where
  pub refusal : ℕ
  pub also : ℕ
  pub answer : ℕ
  pub syllable : ℕ
  pub bit : ℕ

abbrev pub told : Result Reason Refusal → Told
told (Ok Matched) = record { refusal = 0; also = 0; answer = 1; syllable = 0; bit = 0 }
told (Ok (NotSelected x)) = record { refusal = 0; also = 0; answer = 2; syllable = 0; bit = x.0 }
told (Ok (Against t b)) = record { refusal = 0; also = 0; answer = 3; syllable = t.0; bit = b.0 }
told (Ok (EqualToTheBottom t)) = record { refusal = 0; also = 0; answer = 4; syllable = t.0; bit = 0 }
told (Err r) = record { refusal = number_of r; also = also_answers r; answer = 0; syllable = 0; bit = 0 }
