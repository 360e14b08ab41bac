-- Document 01, 'Jobs': the words in which a job's end is told.
use Rattle.std.specs.Prelude.{ℕ, zero, suc, ◌+◌, ◌-◌, ◌*◌, ◌%◌, ◌^◌, ◌≤◌, ◌<◌, min, ◌≡◌, Bool, true, false, ◌&&◌, ◌⊎◌, List, [], ◌∷◌, ◌++◌, ltb, eqb, length, get_or, Ok, Some, None}
use Rattle.laws.specs.Bits.{bit, pick, digit}
use Rattle.machine.specs.Machine.{Machine, response_bits, selected}
pub use Rattle.machine.specs.Machine.{response}
use Rattle.machine.specs.Refusals.{machine_check, pulse_check, answer_of, after}
use Rattle.job_plans.specs.declared.Span.{Span}
use Rattle.job_plans.specs.declared.Job.{Job}
use Rattle.job_plans.specs.declared.Command.{Command}
use Rattle.job_plans.specs.Fields.{Held, Kind, greatest, smallest, scaledAdd, product, unknown, kind_of}
use Rattle.job_plans.specs.Places.{first, moved}
use Rattle.job_plans.specs.Commands.{command, opening}
use Rattle.jobs.specs.Calls.{start_of, step_of}
use Rattle.job_tally.specs.Totals.{value_of, values, greatest_of, smallest_of, pulses}
use Rattle.jobs.specs.Runs.{State, stepped, steps}

-- word k's content
abbrev pub word : Machine → ℕ → ℕ
word m k = get_or m.words k 0

-- the start of the job is accepted: what is then held is the job at its first place
abbrev pub Accepted : Machine → Job → Type 0
Accepted m o = start_of m None o ≡ Ok (first o)

-- the machine and the job held once its start is accepted
abbrev pub begun : Machine → Job → State
begun m o = record { machine = m; held = Some (first o) }

-- word k is selected by the job's criterion
abbrev pub chosen : Machine → Job → ℕ → Bool
chosen m o k = selected o.key o.care (response m k)

-- bit i is no bit of the syllable
abbrev pub Outside : Span → ℕ → Type 0
Outside s i = (i < s.low.0) ⊎ (s.low.0 + s.width ≤ i)

-- ---- one step

-- "A job step answers the command it gave, and the machine after it is that command's pulse": the call pulse accepts k; the step answers k and the
-- count that the call answers; and the machine after the step is the one that the call leaves
pub record Gives (k : Command) (s : State) : Type 0 where
  pub count : ℕ
  pub then : Held
  pub accepted : pulse_check s.machine k.panel k.lines ≡ Ok tt
  pub counts : answer_of s.machine k.panel k.lines ≡ Ok (record { count = count; read = 0 })
  pub answers : step_of s.machine s.held ≡ Ok (record { command = k; count = count; held = then })
  pub leaves : (stepped s).machine ≡ after s.machine k.panel k.lines

-- ---- a job's commands in the table's order; o is the job as its start leaves it

-- "for each place from the top": the trial and, where digit i of the extreme says that any matched, the search after it; the places below k
unfoldable pub from_top : Job → (ℕ → ℕ) → ℕ → List Command
from_top o matched zero = []
from_top o matched (suc i) = command (moved o 1 i 0) ∷ (pick (eqb (matched i) 1) (command (moved o 2 i 0) ∷ []) [] ++ from_top o matched i)

-- for k numbers j from here on, "with i+j below p": the trial and the add
unfoldable pub row : Job → ℕ → ℕ → ℕ → List Command
row o i j zero = []
row o i j (suc k) = pick (ltb (i + j) o.p.width) (command (moved o 1 i j) ∷ command (moved o 2 i j) ∷ []) [] ++ row o i (suc j) k

-- for k numbers i from here on, and within each j from 0 below `many`
unfoldable pub rows : Job → ℕ → ℕ → ℕ → List Command
rows o many i zero = []
rows o many i (suc k) = row o i 0 many ++ rows o many (suc i) k

-- extremes: a trial for the greatest matches where the greatest has a 1, for the smallest where the smallest has a 0
-- "for place i from 0 below the smaller of the widths a and p"; "for i from 0 below a, and within it j from 0 below b, with i+j below p"
abbrev pub commands_for : Kind → Machine → Job → List Command
commands_for greatest m o = opening o ∷ from_top o (bit (greatest_of (values o m.words m.responses))) o.a.width
commands_for smallest m o =
    opening o ∷ from_top o (λ i. 1 - bit (smallest_of (2 ^ o.a.width - 1) (values o m.words m.responses)) i) o.a.width
commands_for scaledAdd m o = rows o 1 0 (min o.a.width o.p.width)
commands_for product m o = rows o o.b.width 0 o.a.width
commands_for unknown m o = []

unfoldable pub commands_of : Machine → Job → List Command
commands_of m o = commands_for (kind_of o.kind) m o

-- the command of step k
abbrev pub command_at : Machine → Job → ℕ → Command
command_at m o k = get_or (commands_of m o) k (command o)

-- the machine at the job's end
abbrev pub ended : Machine → Job → Machine
ended m o = (steps (pulses m (first o)) (begun m o)).machine

-- the commands are as many as the stated pulses, each step gives its own, and after them the job is over, on a machine that still passes 1 to 3
pub record Course (m : Machine) (o : Job) : Type 0 where
  pub many : length (commands_of m (first o)) ≡ pulses m (first o)
  pub gives : (k : ℕ) → k < pulses m (first o) → Gives (command_at m (first o) k) (steps k (begun m o))
  pub over : (steps (pulses m (first o)) (begun m o)).held ≡ None
  pub passes : machine_check (ended m o) ≡ Ok tt

-- ---- "the greatest syllable", "the smallest", where any word is selected

-- v is A's value in a selected word, and in no selected word it is greater
pub record IsGreatest (o : Job) (m : Machine) (v : ℕ) : Type 0 where
  pub at : ℕ
  pub within : at < length m.words
  pub selected : chosen m o at ≡ true
  pub value : value_of o.a (word m at) ≡ v
  pub bounds : (k : ℕ) → k < length m.words → chosen m o k ≡ true → value_of o.a (word m k) ≤ v

-- v is A's value in a selected word, and in no selected word it is smaller
pub record IsSmallest (o : Job) (m : Machine) (v : ℕ) : Type 0 where
  pub at : ℕ
  pub within : at < length m.words
  pub selected : chosen m o at ≡ true
  pub value : value_of o.a (word m at) ≡ v
  pub bounds : (k : ℕ) → k < length m.words → chosen m o k ≡ true → v ≤ value_of o.a (word m k)

-- no word is selected
abbrev pub NoneChosen : Job → Machine → Type 0
NoneChosen o m = (k : ℕ) → k < length m.words → chosen m o k ≡ false

-- the job gives the same commands on both machines, and so as many
abbrev pub Alike : Machine → Machine → Job → Type 0
Alike m n o = (commands_of m (first o) ≡ commands_of n (first o)) × (pulses m (first o) ≡ pulses n (first o))

-- ---- the ends: m is the machine at the start, e at the end

-- nothing is added or lost
pub record SameSize (m e : Machine) : Type 0 where
  pub width : e.width ≡ m.width
  pub words : length e.words ≡ length m.words
  pub responses : length e.responses ≡ length m.responses

-- what P gains in a word: "P becomes P+c·A", "P becomes P+A·B"
abbrev pub scaled_gain : Job → ℕ → ℕ
scaled_gain o w = o.c * value_of o.a w

abbrev pub product_gain : Job → ℕ → ℕ
product_gain o w = value_of o.a w * value_of o.b w

-- scaled add and product: "P holds the stated value in selected words; all other data bits, and response bits but the job's working ones,
-- are unchanged"; "sums are modulo 2^p".
pub record Adds (o : Job) (gain : ℕ → ℕ) (m e : Machine) : Type 0 where
  pub size : SameSize m e
  pub holds : (k : ℕ) → k < length m.words → chosen m o k ≡ true
      → value_of o.p (word e k) ≡ (value_of o.p (word m k) + gain (word m k)) % 2 ^ o.p.width
  pub outside : (k i : ℕ) → k < length m.words → Outside o.p i → bit (word e k) i ≡ bit (word m k) i
  pub unselected : (k : ℕ) → k < length m.words → chosen m o k ≡ false → word e k ≡ word m k
  pub responses : (k i : ℕ) → k < length m.words → i < response_bits → (i ≡ o.y.0 → ⊥) → bit (response e k) i ≡ bit (response m k) i

-- greatest and smallest: "X marks exactly the selected words with the extreme value"; "all other data bits, and response bits but the job's
-- working ones, are unchanged"
pub record Marks (o : Job) (best : ℕ) (m e : Machine) : Type 0 where
  pub size : SameSize m e
  pub marks : (k : ℕ) → k < length m.words → bit (response e k) o.x.0 ≡ digit (chosen m o k && eqb (value_of o.a (word m k)) best)
  pub words : e.words ≡ m.words
  pub responses : (k i : ℕ) → k < length m.words → i < response_bits → (i ≡ o.x.0 → ⊥) → (i ≡ o.y.0 → ⊥)
      → bit (response e k) i ≡ bit (response m k) i
