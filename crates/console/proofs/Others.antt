-- What is printed of the library's answers is never `bad line`, so a line that prints it was not right.
use mathlib.Core.Path.{◌≡◌, refl}
use mathlib.Core.Bool.{Bool, true, false}
use Rattle.laws.specs.Bits.{pick}
use Rattle.std.specs.Prelude.{Result, Ok, Err}
use Rattle.machine.specs.declared.Answer.{Answer}
use Rattle.machine.specs.declared.Refusal.{Refusal}
use Rattle.machine.specs.Refusals.{Check}
use Rattle.job_plans.specs.declared.Job.{Job}
use Rattle.jobs.specs.Runs.{State}
use Rattle.jobs.specs.declared.Stepped.{Stepped}
use Rattle.image.specs.declared.Loaded.{Loaded}
use Rattle.console_commands.specs.declared.Board.{Board}
use Rattle.console_commands.specs.declared.Turn.{Turn}
use Rattle.console_commands.specs.declared.Outcome.{Outcome}
use Rattle.console_commands.specs.declared.Outcome.TheVariants as outcome
use Rattle.console_pulsing.specs.Calls.{told, replied}
use Rattle.console_working.specs.Jobs.{begun, given, ran}
use Rattle.console_storing.specs.Images.{taken}

-- an outcome that is another
abbrev pub Other : Outcome → Type 0
Other o = o ≡ outcome.BadLine → true ≡ false

-- ---- lines that were not right

pub wrong : (right : Bool) (good : Outcome) → pick right good outcome.BadLine ≡ outcome.BadLine → Other good → right ≡ false
wrong true good e f = f e
wrong false good e f = refl

pub wrong_turn : (right : Bool) (good bad : Turn) → (pick right good bad).outcome ≡ outcome.BadLine → Other good.outcome → right ≡ false
wrong_turn true good bad e f = f e
wrong_turn false good bad e f = refl

-- ---- the answers

pub fine_other : Other outcome.Fine
fine_other e = cc

pub told_other : (a : Result Answer Refusal) → Other (told a)
told_other (Ok done) e = cc
told_other (Err why) e = cc

pub replied_other : (r : Check) → Other (replied r)
replied_other (Ok u) e = cc
replied_other (Err why) e = cc

pub begun_other : (b : Board) (s : Result Job Refusal) → Other (begun b s).outcome
begun_other b (Ok job) e = cc
begun_other b (Err why) e = cc

pub given_other : (b : Board) (s : Result Stepped Refusal) → Other (given b s).outcome
given_other b (Ok step) e = cc
given_other b (Err why) e = cc

pub ran_other : (b : Board) (t : Result Stepped Refusal) (s : State) → Other (ran b t s).outcome
ran_other b (Ok step) s e = cc
ran_other b (Err why) s e = cc

pub taken_other : (b : Board) (r : Result Loaded Refusal) → Other (taken b r).outcome
taken_other b (Ok m) e = cc
taken_other b (Err why) e = cc
