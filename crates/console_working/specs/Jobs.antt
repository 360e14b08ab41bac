-- What the commands start, step, run and total do, in the words of docs/BOARD.md, on the board's machine and the job it holds (`state`).
-- `args` are the words after the command's name.
use Rattle.std.specs.Prelude.{ℕ, zero, suc, ◌-◌, ◌^◌, List, Some, Result, Ok, Err}
use Rattle.laws.specs.Bits.{pick}
use Rattle.machine.specs.declared.Refusal.{Refusal}
use Rattle.job_plans.specs.declared.Job.{Job}
use Rattle.job_tally.specs.Totals.{total_of}
use Rattle.jobs.specs.declared.Stepped.{Stepped}
use Rattle.jobs.specs.Calls.{is_held, start_of, step_of}
use Rattle.jobs.specs.Runs as runs
use Rattle.jobs.specs.Runs.{State, steps}
use Rattle.text.specs.Rows.{fits, values, number_at}
use Rattle.console_commands.specs.declared.Board.{Board}
use Rattle.console_commands.specs.declared.Turn.{Turn}
use Rattle.console_commands.specs.declared.Outcome.{Outcome}
use Rattle.console_commands.specs.declared.Outcome.TheVariants as outcome
use Rattle.console_commands.specs.Boards.{holding}
use Rattle.console_commands.specs.Ends.{bad_line, fine, refused}
use Rattle.console_commands.specs.Jobs.{job_of}

-- ---- start

-- the job that the line offers: "KIND KEY CARE X Y AL AW BL BW PL PW C"
abbrev pub offered : List (List ℕ) → Job
offered args =
    let row = values "bhhbbbbbbbbx" args in
    let o = job_of row in
    record {
      kind = o.kind;
      key = o.key;
      care = o.care;
      x = o.x;
      y = o.y;
      a = o.a;
      b = o.b;
      p = o.p;
      phase = 0;
      i = 0;
      j = 0;
      c = number_at row 11;
    }

abbrev pub begun : Board → Result Job Refusal → Turn
begun b (Ok job) = fine (holding b (Some job))
begun b (Err why) = refused b why

-- "start ..: starts a job"
abbrev pub start_turn : Board → List (List ℕ) → State → Turn
start_turn b args s =
    pick (fits "bhhbbbbbbbbx" args) (begun b (start_of s.machine s.held (offered args))) (bad_line b)

-- ---- step

-- "L comp HEX .. count C held .. `ended` in place of `held` after the last pulse", or the refusal
abbrev pub given : Board → Result Stepped Refusal → Turn
given b (Ok step) =
    record { board = holding b step.held; outcome = outcome.Gave step.command step.count (is_held step.held) }
given b (Err why) = refused b why

-- "step: one job step"
abbrev pub step_turn : Board → List (List ℕ) → State → Turn
step_turn b args s = pick (fits "" args) (given b (step_of s.machine s.held)) (bad_line b)

abbrev pub step_after : List (List ℕ) → State → State
step_after args s = pick (fits "" args) (runs.stepped s) s

-- ---- run

abbrev pub one_more : Result Stepped Refusal → ℕ → ℕ
one_more (Ok step) k = suc k
one_more (Err why) k = 0

-- "steps until no job is held or a step is refused": how many are accepted, of at most `most`; a step without a job is refused
unfoldable pub accepted : ℕ → State → ℕ
accepted zero s = 0
accepted (suc most) s = one_more (step_of s.machine s.held) (accepted most (runs.stepped s))

-- every job ends long before; a run counts its steps below 2^64
abbrev pub most : ℕ
most = 2 ^ 64 - 1

abbrev pub run_after : List (List ℕ) → State → State
run_after args s = pick (fits "" args) (steps (accepted most s) s) s

-- so many steps, or the refusal of the first
abbrev pub steps_or : Result Stepped Refusal → ℕ → Result ℕ Refusal
steps_or (Ok step) k = Ok k
steps_or (Err why) k = Err why

-- "pulses K, K the steps accepted; a refusal of the first step, also for want of a job, prints as a refusal"
abbrev pub ran : Board → Result Stepped Refusal → State → Turn
ran b (Ok step) s =
    record { board = holding b (steps (accepted most s) s).held; outcome = outcome.Pulses (accepted most s) }
ran b (Err why) s = refused b why

abbrev pub run_turn : Board → List (List ℕ) → State → Turn
run_turn b args s = pick (fits "" args) (ran b (step_of s.machine s.held) s) (bad_line b)

-- ---- total

abbrev pub counted : Result ℕ Refusal → Outcome
counted (Ok k) = outcome.Pulses k
counted (Err why) = outcome.Refused why

-- "total: the pulses that the held job, just started, will take in all, worked out without running it"
abbrev pub total_outcome : List (List ℕ) → State → Outcome
total_outcome args s = pick (fits "" args) (counted (total_of s.machine s.held)) outcome.BadLine
