-- Document 01, 'Jobs': a job's steps one after the other, where nothing but its steps changes the machine.
use Rattle.std.specs.Prelude.{ℕ, zero, suc, List, Result, Ok, Err}
use Rattle.laws.specs.Bits.{pick}
use Rattle.machine.specs.Machine.{Machine, machine}
use Rattle.machine.specs.declared.Refusal.{Refusal}
use Rattle.job_plans.specs.Fields.{Held}
use Rattle.jobs.specs.declared.Stepped.{Stepped}
use Rattle.jobs.specs.Calls.{is_held, step_of, after_step}

-- the machine and its held job
pub record State : Type 0 where
  pub machine : Machine
  pub held : Held

-- of this width, with these words and responses lent, and this job held
abbrev pub state : ℕ → List ℕ → List ℕ → Held → State
state n ws rs h = record { machine = machine n ws rs; held = h }

abbrev pub held_after : Result Stepped Refusal → Held → Held
held_after (Ok s) old = s.held
held_after (Err r) old = old

-- what stands after one step
unfoldable pub stepped : State → State
stepped s = record { machine = after_step s.machine s.held; held = held_after (step_of s.machine s.held) s.held }

-- what stands after k steps
unfoldable pub steps : ℕ → State → State
steps zero s = s
steps (suc k) s = steps k (stepped s)

-- how many steps are given until no job is held, of at most `most`
unfoldable pub steps_taken : ℕ → State → ℕ
steps_taken zero s = 0
steps_taken (suc most) s = pick (is_held s.held) (suc (steps_taken most (stepped s))) 0
