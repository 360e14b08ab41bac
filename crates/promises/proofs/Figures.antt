-- Document 01, 'Figures to check by': the cases marked P, as rows of one table under one statement.
-- "N=8, words 35 9C 35 (hex), responses 0, SDR 88, all else 0 unless said."
use Prim.Native.Nat.{ℕ, ◌-◌, ◌^◌}
use mathlib.Core.Path.{◌≡◌, refl}
use mathlib.Core.List.{List, [], ◌∷◌, map}
use mathlib.Core.Bool.{Bool, true, false}
use lib.ListN.{length}
use Rattle.std.specs.Prelude.{Some, None, Result, Ok, Err}
use Rattle.laws.specs.Bits.{bit, number, every, under}
use Rattle.laws.specs.Lists.{all, zip, count}
use Rattle.machine.specs.declared.Panel.{Panel}
use Rattle.machine.specs.declared.Lines.{Lines}
use Rattle.machine.specs.declared.Refusal.{Refusal}
use Rattle.machine.specs.Panel.{panel_of}
use Rattle.machine.specs.Machine.{Machine, response_bits, bottom, tops, selected}
use Rattle.machine.specs.Search.{one_code, one_setting, compared_only, satisfied, matches, marked}
use Rattle.machine.specs.Pulse.{written, sums, added, word_after, flipped, response_after, counts, count_of, read_of, pulsed}
use Rattle.machine.specs.Resolution.{lowest}
use Rattle.machine.specs.Refusals.{bad_size, bad_width, bad_panel, bad_codes, bad_lines, bad_address, machine_check, pulse_check, answer_of, after, Told, told}
use Rattle.job_plans.specs.declared.Span.{Span}
use Rattle.job_plans.specs.declared.Job.{Job}
use Rattle.job_plans.specs.Fields.{Held, kind_of, extreme_check, scaled_add_check, product_check, used_check, unused_zero}
use Rattle.job_plans.specs.Places.{in_table, held_check, first, next}
use Rattle.job_plans.specs.Commands.{command}
use Rattle.jobs.specs.Calls.{start_check, start_of, step_check, step_of, after_step}
use Rattle.jobs.specs.Runs.{State, stepped, steps, steps_taken}

-- ---- the form of a row

-- what can be seen afterwards: how many pulses it took, what was answered, the words and the responses
pub record Shown : Type 0 where
  pub pulses : ℕ
  pub told : Told
  pub words : List ℕ
  pub responses : List ℕ

-- a figure's number, what the definitions give, and what document 01 states
pub record Row : Type 0 where
  pub figure : ℕ
  pub given : Shown
  pub stated : Shown

abbrev counted : ℕ → Told
counted c = record { refusal = 0; also = 0; count = c; read = 0 }

abbrev held_by : Result Job Refusal → Held
held_by (Ok o) = Some o
held_by (Err r) = None

abbrev one_pulse : Machine → Panel → Lines → Shown
one_pulse m p l =
    record { pulses = 1; told = told (answer_of m p l); words = (after m p l).words; responses = (after m p l).responses }

-- ---- the commands

-- COMP, SDR, SC1, SC2, MOR, target
abbrev panel : ℕ → ℕ → ℕ → ℕ → ℕ → ℕ → Panel
panel c s a b m t = panel_of (c ∷ s ∷ a ∷ b ∷ m ∷ 0 ∷ 0 ∷ t ∷ [])

-- search, write, add, multiwrite, multiadd
abbrev lines : Bool → Bool → Bool → Bool → Bool → Lines
lines s w a mw ma =
    record { search = s; read = false; write = w; add = a; multiwrite = mw; multiadd = ma; complement = false }

abbrev search : Lines
search = lines true false false false false

abbrev write_and_add : Lines
write_and_add = lines false true true false false

abbrev multiwrite : Lines
multiwrite = lines false false false true false

abbrev multiadd : Lines
multiadd = lines false false false false true

-- ---- the rows

abbrev three : List ℕ
three = 0x35 ∷ 0x9C ∷ 0x35 ∷ []

-- a search of the three words: the count and the responses afterwards
abbrev searched : ℕ → Panel → ℕ → List ℕ → Row
searched figure p c rs =
    record {
      figure = figure;
      given = one_pulse (record { width = 8; words = three; responses = 0 ∷ 0 ∷ 0 ∷ [] }) p search;
      stated = record { pulses = 1; told = counted c; words = three; responses = rs };
    }

-- words of this width, responses 0: what they become; all are selected
abbrev become : ℕ → ℕ → Panel → Lines → List ℕ → List ℕ → Row
become figure n p l ws ws' =
    record {
      figure = figure;
      given = one_pulse (record { width = n; words = ws; responses = map (λ (w : ℕ). 0) ws }) p l;
      stated = record { pulses = 1; told = counted (length ws); words = ws'; responses = map (λ (w : ℕ). 0) ws };
    }

-- one word
abbrev becomes : ℕ → ℕ → Panel → Lines → ℕ → ℕ → Row
becomes figure n p l w w' = become figure n p l (w ∷ []) (w' ∷ [])

-- ---- jobs: X 0, Y 1

abbrev span : ℕ → ℕ → Span
span low width = record { low = record { 0 = low }; width = width }

abbrev none : Span
none = span 0 0

abbrev job : ℕ → ℕ → Span → Span → Span → ℕ → Job
job kind criterion a b p c =
    record { kind = kind; key = criterion; care = criterion; x = record { 0 = 0 }; y = record { 0 = 1 }; a = a; b = b; p = p; phase = 0; i = 0; j = 0; c = c }

-- a response but for the working bit Y, of which document 01 states nothing
abbrev but_y : ℕ → ℕ
but_y r = number response_bits (under 0b10 (λ i. 0) (bit r))

-- what stands once the job is over: more steps than any of these takes are allowed for
abbrev ended : Machine → Job → Shown
ended m o =
    let s : State = record { machine = m; held = held_by (start_of m None o) } in
    let k : ℕ = steps_taken 20 s in
    record { pulses = k; told = counted 0; words = (steps k s).machine.words; responses = map but_y (steps k s).machine.responses }

-- a job on these words, responses 0: its pulses, the words and the responses afterwards
abbrev worked : ℕ → Job → List ℕ → ℕ → List ℕ → List ℕ → Row
worked figure o ws k ws' rs =
    record {
      figure = figure;
      given = ended (record { width = 8; words = ws; responses = map (λ (w : ℕ). 0) ws }) o;
      stated = record { pulses = k; told = counted 0; words = ws'; responses = rs };
    }

abbrev pub table : List Row
table =
    searched 1 (panel 0x34 0x88 0x0F 0xF0 0 1) 2 (1 ∷ 0 ∷ 1 ∷ [])
    ∷ searched 2 (panel 0x35 0x88 0x0F 0xF0 0 1) 0 (0 ∷ 0 ∷ 0 ∷ [])
    ∷ searched 3 (panel 0x34 0x88 0x0C 0xF0 0 1) 0 (0 ∷ 0 ∷ 0 ∷ [])
    ∷ become 4 8 (panel 0x0C 0x88 0 0 0xFF 0) multiadd three (0x31 ∷ 0x98 ∷ 0x31 ∷ [])
    ∷ become 4 8 (panel 0x0C 0x80 0 0 0xFF 0) multiadd three (0x41 ∷ 0xA8 ∷ 0x41 ∷ [])
    ∷ become 4 8 (panel 0x0C 0xFF 0 0 0xFF 0) multiadd three (0x39 ∷ 0x90 ∷ 0x39 ∷ [])
    ∷ become 5 8 (panel 0xAA 0x88 0 0 0x0F 0) multiwrite three (0x3A ∷ 0x9A ∷ 0x3A ∷ [])
    ∷ becomes 6 8 (panel 0b110010 0x88 0 0 0b110010 0) multiwrite 0b000101 0b110111
    ∷ becomes 6 8 (panel 0b110010 0x88 0 0 0b001101 0) multiwrite 0b111111 0b110010
    ∷ become 7 8 (panel 0x0C 0x88 0 0 0x0F 0) write_and_add three (0x38 ∷ 0x9C ∷ 0x35 ∷ [])
    ∷ becomes 8 64 (panel 1 0 0 0 (2 ^ 64 - 1) 0) multiadd (2 ^ 64 - 1) 0
    ∷ worked 9 (job 1 0 (span 0 4) none none 0) three 7 three (0 ∷ 1 ∷ 0 ∷ [])
    ∷ worked 9 (job 2 0 (span 0 4) none none 0) three 7 three (1 ∷ 0 ∷ 1 ∷ [])
    ∷ worked 9 (job 1 0x04 (span 0 4) none none 0) three 5 three (0 ∷ 0 ∷ 0 ∷ [])
    ∷ worked 9 (job 2 0x04 (span 0 4) none none 0) three 5 three (0 ∷ 0 ∷ 0 ∷ [])
    ∷ worked 10 (job 3 0 (span 0 4) none (span 4 4) 3) three 8 (0x25 ∷ 0xDC ∷ 0x25 ∷ []) (0 ∷ 0 ∷ 0 ∷ [])
    ∷ worked 11 (job 4 0 (span 0 2) (span 2 2) (span 4 4) 0) (0x0B ∷ []) 8 (0x6B ∷ []) (0 ∷ [])
    ∷ []

-- ---- the statement: what the definitions give is what document 01 states, in every row

pub figures : map (λ (r : Row). r.given) table ≡ map (λ (r : Row). r.stated) table
unfolding number every all zip count bottom tops selected one_code one_setting compared_only satisfied matches marked written sums added word_after flipped response_after counts count_of read_of pulsed lowest bad_size bad_width bad_panel bad_codes bad_lines bad_address machine_check pulse_check answer_of after kind_of extreme_check scaled_add_check product_check used_check unused_zero in_table held_check first next command start_check start_of step_check step_of after_step stepped steps steps_taken
figures = refl

-- ---- document 02, request c: "at least 90 days" on words 89, 90 and 91 of 8 bits, one syllable, responses 0, target 1

-- COMP, SC1, SC2, SC3: the number told, the count and the responses afterwards
abbrev days : ℕ → ℕ → ℕ → ℕ → ℕ → ℕ → List ℕ → Row
days c a b e refusal k rs =
    record {
      figure = 0;
      given = one_pulse (record { width = 8; words = 89 ∷ 90 ∷ 91 ∷ []; responses = 0 ∷ 0 ∷ 0 ∷ [] }) (panel_of (c ∷ 0 ∷ a ∷ b ∷ 0 ∷ 0 ∷ 0 ∷ 1 ∷ 0 ∷ e ∷ [])) search;
      stated = record { pulses = 1; told = record { refusal = refusal; also = 0; count = k; read = 0 }; words = 89 ∷ 90 ∷ 91 ∷ []; responses = rs };
    }

-- at least 90, and larger than 89 and than 90; at most 90, and smaller than 90; at most 0, at least 0, at most all ones; bits 1 and 0 don't care;
-- two settings of SC3; SC3 over an exact bit, over a don't-care bit; SC3 at bit N
abbrev pub least_and_most : List Row
least_and_most =
    days 90 0xFF 0 0xFF 0 2 (0 ∷ 1 ∷ 1 ∷ [])
    ∷ days 89 0xFF 0 0 0 2 (0 ∷ 1 ∷ 1 ∷ [])
    ∷ days 90 0xFF 0 0 0 1 (0 ∷ 0 ∷ 1 ∷ [])
    ∷ days 90 0xFF 0xFF 0xFF 0 2 (1 ∷ 1 ∷ 0 ∷ [])
    ∷ days 90 0xFF 0xFF 0 0 1 (1 ∷ 0 ∷ 0 ∷ [])
    ∷ days 0 0xFF 0xFF 0xFF 0 0 (0 ∷ 0 ∷ 0 ∷ [])
    ∷ days 0 0xFF 0 0xFF 0 3 (1 ∷ 1 ∷ 1 ∷ [])
    ∷ days 0xFF 0xFF 0xFF 0xFF 0 3 (1 ∷ 1 ∷ 1 ∷ [])
    ∷ days 91 0xFC 0 0xFC 0 3 (1 ∷ 1 ∷ 1 ∷ [])
    ∷ days 90 0xFF 0 0x0F 5 0 (0 ∷ 0 ∷ 0 ∷ [])
    ∷ days 90 0 0xFF 0x01 5 0 (0 ∷ 0 ∷ 0 ∷ [])
    ∷ days 90 0xFE 0 0xFF 5 0 (0 ∷ 0 ∷ 0 ∷ [])
    ∷ days 90 0xFF 0 0x100 4 0 (0 ∷ 0 ∷ 0 ∷ [])
    ∷ []

pub figures_of_c : map (λ (r : Row). r.given) least_and_most ≡ map (λ (r : Row). r.stated) least_and_most
unfolding number every all zip count bottom tops selected one_code one_setting compared_only satisfied matches marked written sums added word_after flipped response_after counts count_of read_of pulsed lowest bad_size bad_width bad_panel bad_codes bad_lines bad_address machine_check pulse_check answer_of after
figures_of_c = refl
