-- Start, step and total for callers in other languages: what is refused, told and left (house, but for the calls' own definitions;
-- docs/DECISIONS.md, 'The library for C').
use Rattle.std.specs.Prelude.{ℕ, ◌+◌, List, [], ◌∷◌, ◌++◌, Some, Result, Ok, Err}
use Rattle.machine.specs.declared.Refusal.{Refusal}
use Rattle.machine.specs.Machine.{Machine}
use Rattle.machine.specs.Panel.{registers}
use Rattle.machine.specs.Refusals.{Check, answer_by}
use Rattle.job_plans.specs.declared.Job.{Job}
use Rattle.job_plans.specs.Places.{first}
use Rattle.jobs.specs.declared.Stepped.{Stepped}
use Rattle.jobs.specs.Calls.{start_check, step_check, gave, given_by, machine_after, ToldStarted, told_started, ToldStepped, told_stepped}
use Rattle.job_tally.specs.Totals as totals
use Rattle.entry_forms.specs.Numbers.{lower, room_check, panel_size, line_byte, tell_in}
use Rattle.entry_forms.specs.Records.{record_check, held_check, job_in, held_in, record_of, count_held}

-- ---- start: of the record held, and the one offered

abbrev pub start_size : ℕ
start_size = 3

abbrev pub start_numbers : ToldStarted → List ℕ
start_numbers t = t.refusal ∷ t.also ∷ count_held t.held ∷ []

abbrev pub start_own : List ℕ → List ℕ → ℕ → Check
start_own held offered room = lower (held_check held) (lower (record_check offered) (room_check start_size room))

unfoldable pub start_entry : Machine → List ℕ → List ℕ → ℕ → Check
start_entry m held offered room = lower (start_own held offered room) (start_check m (held_in held) (job_in offered))

abbrev pub started_by : Check → List ℕ → Result Job Refusal
started_by c offered = answer_by c (first (job_in offered))

unfoldable pub start_told : Machine → List ℕ → List ℕ → ℕ → ToldStarted
start_told m held offered room = told_started (started_by (start_entry m held offered room) offered)

-- the record offered becomes the one held
abbrev pub started_in : Result Job Refusal → List ℕ → List ℕ
started_in (Ok o) job = tell_in (record_of (Some o)) job
started_in (Err r) job = job

unfoldable pub start_left : Machine → List ℕ → List ℕ → ℕ → List ℕ
start_left m held offered room = started_in (started_by (start_entry m held offered room) offered) offered

-- ---- step: the command's registers and line byte, the count, and whether a job is held

abbrev pub step_size : ℕ
step_size = 5 + panel_size

abbrev pub step_numbers : ToldStepped → List ℕ
step_numbers t =
    t.refusal ∷ t.also ∷ (registers t.given.panel ++ (line_byte t.given.lines ∷ t.count ∷ count_held t.held ∷ []))

abbrev pub step_own : List ℕ → ℕ → Check
step_own job room = lower (held_check job) (room_check step_size room)

unfoldable pub step_entry : Machine → List ℕ → ℕ → Check
step_entry m job room = lower (step_own job room) (step_check m (held_in job))

abbrev pub stepped_by : Check → Machine → List ℕ → Result Stepped Refusal
stepped_by c m job = given_by c (gave m (held_in job))

unfoldable pub step_told : Machine → List ℕ → ℕ → ToldStepped
step_told m job room = told_stepped (stepped_by (step_entry m job room) m job)

unfoldable pub step_left : Machine → List ℕ → ℕ → Machine
step_left m job room = machine_after (stepped_by (step_entry m job room) m job) m

-- the record becomes that of the job held afterwards
abbrev pub stepped_in : Result Stepped Refusal → List ℕ → List ℕ
stepped_in (Ok s) job = tell_in (record_of s.held) job
stepped_in (Err r) job = job

unfoldable pub record_left : Machine → List ℕ → ℕ → List ℕ
record_left m job room = stepped_in (stepped_by (step_entry m job room) m job) job

-- ---- total

abbrev pub total_size : ℕ
total_size = 3

abbrev pub total_numbers : totals.Told → List ℕ
total_numbers t = t.refusal ∷ t.also ∷ t.pulses ∷ []

abbrev pub total_own : List ℕ → ℕ → Check
total_own job room = lower (held_check job) (room_check total_size room)

unfoldable pub total_told : Machine → List ℕ → ℕ → totals.Told
total_told m job room =
    totals.told
    (answer_by (lower (total_own job room) (totals.total_check m (held_in job))) (totals.held_pulses m (held_in job)))
