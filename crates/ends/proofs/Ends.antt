-- Every kind of job: after an accepted start each step gives the held job's command until the stated pulses are given, and then the job is over.
use Prim.Native.Nat.{ℕ, zero, suc, ◌+◌, ◌<◌}
use mathlib.Core.Path.{◌≡◌, refl, ap, ◌∙◌}
use native.Mathlib.Omega.{arith}
use Rattle.std.specs.Prelude.{Some, None}
use Rattle.laws.specs.Bits.{pick}
use Rattle.machine.specs.Machine.{Machine}
use Rattle.machine.specs.Refusals.{after}
use Rattle.job_plans.specs.declared.Job.{Job}
use Rattle.job_plans.specs.declared.Command.{Command}
use Rattle.job_plans.specs.Fields.{Held, Kind, greatest, smallest, scaledAdd, product, unknown, kind_of, used_check}
use Rattle.job_plans.specs.Places.{first}
use Rattle.job_tally.specs.Totals.{pulses}
use Rattle.jobs.specs.Calls.{is_held}
use Rattle.jobs.specs.Runs.{State, stepped, steps, steps_taken}
use Rattle.ends.specs.Ends.{Accepted, begun, Gives, command_at, Course, ended}
use Rattle.ends.proofs.Steps.{on, held_given, steps_on, steps_last, steps_idle}
use Rattle.ends.proofs.Starts.{begins}
use Rattle.ends.proofs.Greatest.{greatest_course}
use Rattle.ends.proofs.Smallest.{smallest_course}
use Rattle.ends.proofs.ScaledAdd.{scaled_add_course}
use Rattle.ends.proofs.Product.{product_course}

module _ (m : Machine) (o : Job) (accepted : Accepted m o) where
  pub course : Course m o
  unfolding used_check
  course = go (kind_of o.kind) refl
    where
      go : (k : Kind) → kind_of o.kind ≡ k → Course m o
      go greatest e = greatest_course m o accepted e
      go smallest e = smallest_course m o accepted e
      go scaledAdd e = scaled_add_course m o accepted e
      go product e = product_course m o accepted e
      go unknown e = let h = (begins m o accepted).used in let z : ◌≡◌ {A = ℕ} 0 1 = cc (rw e at h) in absurd (omega arith)

  -- not over before the last pulse
  pub not_over : (k : ℕ) → k < pulses m (first o) → (steps k (begun m o)).held ≡ None → ⊥
  not_over k h e = held_given (steps k (begun m o)).machine (steps k (begun m o)).held (course.gives k h).answers e

  -- "A job step answers the command it gave, and the machine after it is that command's pulse": each machine is the pulse of the one before it
  pub each_pulse : (k : ℕ) → k < pulses m (first o) → (let c = command_at m (first o) k in
      (steps (suc k) (begun m o)).machine ≡ after (steps k (begun m o)).machine c.panel c.lines)
  each_pulse k h = ap (λ (s : State). s.machine) (steps_last k (begun m o)) ∙ (course.gives k h).leaves

  -- further steps are refused, and change nothing
  pub stays_over : (k : ℕ) → steps (pulses m (first o) + k) (begun m o) ≡ on (ended m o) None
  stays_over k =
      steps_on (pulses m (first o)) k (begun m o)
      ∙ ap (λ (h : Held). steps k (on (ended m o) h)) course.over
      ∙ steps_idle k (ended m o)

  -- the number of steps given until no job is held
  goes_on : (h : Held) (k : ℕ) → (h ≡ None → ⊥) → pick (is_held h) (suc k) 0 ≡ suc k
  goes_on None k n = absurd (n refl)
  goes_on (Some q) k n = refl

  taken : (c : ℕ → Command) (k most : ℕ) (s : State) → ((j : ℕ) → j < k → Gives (c j) (steps j s)) → (steps k s).held ≡ None → k < most
      → steps_taken most s ≡ k
  unfolding steps steps_taken
  taken c k zero s g e h = absurd (omega arith)
  taken c zero (suc most) s g e h = rw e
  taken c (suc k) (suc most) s g e h =
      goes_on s.held (steps_taken most (stepped s)) (held_given s.machine s.held (g 0 (omega arith)).answers)
      ∙ ap suc (taken (λ j. c (suc j)) k most (stepped s) (λ j l. g (suc j) (omega arith)) e (omega arith))

  pub steps_taken_lem : (most : ℕ) → pulses m (first o) < most → steps_taken most (begun m o) ≡ pulses m (first o)
  steps_taken_lem most h = taken (command_at m (first o)) (pulses m (first o)) most (begun m o) course.gives course.over h
