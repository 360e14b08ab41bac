-- Document 01, 'Jobs': what start and step answer, and the machine after a step.
-- "job start, job step and show for 1 to 3 and 8", for which document 02, request d, has 20 to 25.
use Rattle.std.specs.Prelude.{ℕ, Bool, true, false, [], Result, Ok, Err, Some, None}
use Rattle.machine.specs.declared.Refusal.{Refusal}
use Rattle.machine.specs.declared.Refusal.TheVariants.{WrongJob}
use Rattle.machine.specs.Machine.{Machine}
use Rattle.machine.specs.Pulse.{count_of, pulsed}
use Rattle.machine.specs.Panel.{panel_of}
use Rattle.machine.specs.Refusals.{Check, ◌else◌, refuse, machine_check, answer_by, number_of, also_answers}
use Rattle.job_plans.specs.declared.Job.{Job}
use Rattle.job_plans.specs.declared.Command.{Command}
use Rattle.jobs.specs.declared.Stepped.{Stepped}
use Rattle.job_plans.specs.Fields.{Held, used_check}
use Rattle.job_plans.specs.Places.{none_held, first, next}
unfoldable pub use Rattle.job_plans.specs.Places.{step_check}
use Rattle.job_plans.specs.Commands.{raising, command}

-- ---- start

abbrev pub is_held : Held → Bool
is_held None = false
is_held (Some o) = true

-- 25: "start while one is held"
abbrev pub free_check : Held → Check
free_check h = refuse WrongJob (is_held h)

-- 02 d: "a start judges the job offered", its used fields
unfoldable pub start_check : Machine → Held → Job → Check
start_check m h o = machine_check m else used_check m.width o else free_check h

unfoldable pub start_of : Machine → Held → Job → Result Job Refusal
start_of m h o = answer_by (start_check m h o) (first o)

-- ---- step

-- "A job step answers the command it gave", the count and the job held afterwards
abbrev pub gave : Machine → Held → Result Stepped Refusal
gave m None = Err none_held
gave m (Some o) = let k = command o in let c = count_of m k.panel k.lines in Ok (record { command = k; count = c; held = next o c })

-- a refusal, or where the check passes what a step gives
abbrev pub given_by : Check → Result Stepped Refusal → Result Stepped Refusal
given_by (Ok tt) given = given
given_by (Err r) given = Err r

unfoldable pub step_of : Machine → Held → Result Stepped Refusal
step_of m h = given_by (step_check m h) (gave m h)

-- "and the machine after it is that command's pulse"; on a refusal "nothing lent changes"
abbrev pub machine_after : Result Stepped Refusal → Machine → Machine
machine_after (Ok s) m = pulsed m s.command.panel s.command.lines
machine_after (Err r) m = m

unfoldable pub after_step : Machine → Held → Machine
after_step m h = machine_after (step_of m h) m

-- ---- each answer's number and values; "other answer fields are 0"

-- the refusal's number, 0 for none, and what it also answers; the job held, of which 0 is none (house)
pub record ToldStarted : Type 0 where
  pub refusal : ℕ
  pub also : ℕ
  pub held : Held

abbrev pub told_started : Result Job Refusal → ToldStarted
told_started (Ok o) = record { refusal = 0; also = 0; held = Some o }
told_started (Err r) = record { refusal = number_of r; also = also_answers r; held = None }

-- a command's 0 (house): every register 0 and no line raised
abbrev pub no_command : Command
no_command = record { panel = panel_of []; lines = raising false false }

-- of a step: the command that it gave, the count and the job held afterwards
pub record ToldStepped : Type 0 where
  pub refusal : ℕ
  pub also : ℕ
  pub given : Command
  pub count : ℕ
  pub held : Held

abbrev pub told_stepped : Result Stepped Refusal → ToldStepped
told_stepped (Ok s) = record { refusal = 0; also = 0; given = s.command; count = s.count; held = s.held }
told_stepped (Err r) = record { refusal = number_of r; also = also_answers r; given = no_command; count = 0; held = None }
