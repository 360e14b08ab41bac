-- Document 01, 'Jobs': the number of pulses a job takes, from the job and the machine at its start.
use Rattle.std.specs.Prelude.{ℕ, zero, suc, ◌+◌, ◌*◌, ◌-◌, ◌^◌, min, max, Bool, false, not, List, [], ◌∷◌, ltb, Result, Ok, Err, Some, None}
use Rattle.laws.specs.Bits.{bit, number, pick, digit}
use Rattle.machine.specs.declared.Refusal.{Refusal}
use Rattle.machine.specs.declared.Refusal.TheVariants.{WrongJob}
use Rattle.machine.specs.Machine.{Machine, selected}
use Rattle.machine.specs.Refusals.{Check, ◌else◌, refuse, answer_by, number_of, also_answers}
use Rattle.job_plans.specs.declared.Span.{Span}
use Rattle.job_plans.specs.declared.Job.{Job}
use Rattle.job_plans.specs.Fields.{Held, Kind, greatest, smallest, scaledAdd, product, unknown, kind_of}
use Rattle.job_plans.specs.Places.{at_first, step_check}

-- the sum of g over the places below k
unfoldable pub sum_below : ℕ → (ℕ → ℕ) → ℕ
sum_below zero g = 0
sum_below (suc k) g = g k + sum_below k g

abbrev pub ones : ℕ → ℕ → ℕ
ones k v = sum_below k (bit v)

abbrev pub zeros : ℕ → ℕ → ℕ
zeros k v = sum_below k (λ i. 1 - bit v i)

-- a syllable of a word, as a number
abbrev pub value_of : Span → ℕ → ℕ
value_of s w = number s.width (λ j. bit w (s.low.0 + j))

-- A's values in the words that the criterion selects
unfoldable pub values : Job → List ℕ → List ℕ → List ℕ
values o [] rs = []
values o (w ∷ ws) [] = []
values o (w ∷ ws) (r ∷ rs) = pick (selected o.key o.care r) (value_of o.a w ∷ values o ws rs) (values o ws rs)

unfoldable pub greatest_of : List ℕ → ℕ
greatest_of [] = 0
greatest_of (v ∷ vs) = max v (greatest_of vs)

-- top stands where there is none
unfoldable pub smallest_of : ℕ → List ℕ → ℕ
smallest_of top [] = top
smallest_of top (v ∷ vs) = min v (smallest_of top vs)

-- "if any word is selected": its value is one of these
abbrev pub if_any : List ℕ → ℕ → ℕ
if_any [] k = 0
if_any (v ∷ vs) k = k

-- "1+a plus, if any word is selected, the number of ones in the greatest syllable (of zeros in the smallest)"
-- "scaled add 2·min(a,p); product twice the number of pairs with i+j below p"
abbrev pub pulses_for : Kind → Machine → Job → ℕ
pulses_for greatest m o = let vs = values o m.words m.responses in 1 + o.a.width + if_any vs (ones o.a.width (greatest_of vs))
pulses_for smallest m o = let vs = values o m.words m.responses in 1 + o.a.width + if_any vs (zeros o.a.width (smallest_of (2 ^ o.a.width - 1) vs))
pulses_for scaledAdd m o = 2 * min o.a.width o.p.width
pulses_for product m o = 2 * sum_below o.a.width (λ i. sum_below o.b.width (λ j. digit (ltb (i + j) o.p.width)))
pulses_for unknown m o = 0

unfoldable pub pulses : Machine → Job → ℕ
pulses m o = pulses_for (kind_of o.kind) m o

-- ---- the call, which 01 does not name (house): refused as a step is, and with 25 if the place is not the first

abbrev pub is_first : Held → Bool
is_first None = false
is_first (Some o) = at_first o

abbrev pub first_check : Held → Check
first_check h = refuse WrongJob (not (is_first h))

unfoldable pub total_check : Machine → Held → Check
total_check m h = step_check m h else first_check h

abbrev pub held_pulses : Machine → Held → ℕ
held_pulses m None = 0
held_pulses m (Some o) = pulses m o

unfoldable pub total_of : Machine → Held → Result ℕ Refusal
total_of m h = answer_by (total_check m h) (held_pulses m h)

-- ---- each answer's number and values; "other answer fields are 0"

pub record Told : Type 0 where
  pub refusal : ℕ
  pub also : ℕ
  pub pulses : ℕ

abbrev pub told : Result ℕ Refusal → Told
told (Ok k) = record { refusal = 0; also = 0; pulses = k }
told (Err r) = record { refusal = number_of r; also = also_answers r; pulses = 0 }
