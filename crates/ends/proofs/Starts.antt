-- What an accepted start shows, and a run of the stated length as the job's whole course.
use Prim.Native.Nat.{ℕ}
use mathlib.Core.Path.{◌≡◌, refl, sym, ap, ◌∙◌}
use lib.ListN.{length}
use Rattle.std.specs.Prelude.{Ok, Err, Some, None}
use Rattle.machine.specs.Machine.{Machine}
use Rattle.machine.specs.Refusals.{Check, ◌else◌, machine_check, answer_by}
use Rattle.machine.proofs.Refusals.{Sound, sound, else_passed}
use Rattle.job_plans.specs.declared.Job.{Job}
use Rattle.job_plans.specs.Fields.{Held, used_check}
use Rattle.job_plans.specs.Places.{first}
use Rattle.jobs.specs.Calls.{free_check, start_check, start_of}
use Rattle.job_tally.specs.Totals.{pulses}
use Rattle.job_plans.specs.Commands.{command}
use Rattle.jobs.specs.Runs.{State, steps}
use Rattle.ends.specs.Ends.{Accepted, begun, commands_of, Course, ended}
use Rattle.ends.proofs.Machines.{passes}
use Rattle.ends.proofs.Steps.{on, Run, run_ends, run_gives}

pub record Begun (m : Machine) (o : Job) : Type 0 where
  pub sound : Sound m
  pub used : used_check m.width o ≡ Ok tt

started_passed : (c : Check) (o : Job) → answer_by c o ≡ Ok o → c ≡ Ok tt
started_passed (Ok tt) o h = refl
started_passed (Err r) o h = cc

pub begins : (m : Machine) (o : Job) → Accepted m o → Begun m o
unfolding start_of start_check
begins m o h =
    let p = else_passed (machine_check m) _ (started_passed (start_check m None o) (first o) h) in
    record { sound = sound m p.0; used = (else_passed (used_check m.width o) (free_check None) p.1).0 }

pub accepted_by : (m : Machine) (o : Job) → start_check m None o ≡ Ok tt → Accepted m o
unfolding start_of
accepted_by m o h = rw h

-- whatever was held before: a start that is accepted finds no job held, and holds the job at its first place
pub accepted_is : (m : Machine) (h : Held) (o q : Job) → start_of m h o ≡ Ok q → (h ≡ None) × (q ≡ first o)
unfolding start_of start_check
accepted_is m h o q e = go h (machine_check m) (used_check m.width o) e
  where
    go : (h : Held) (c u : Check) → answer_by (c else u else free_check h) (first o) ≡ Ok q → (h ≡ None) × (q ≡ first o)
    go None (Ok t) (Ok u) e = (refl, cc)
    go None (Ok t) (Err r) e = (refl, cc)
    go (Some p) (Ok t) (Ok u) e = (cc, cc)
    go (Some p) (Ok t) (Err r) e = (cc, cc)
    go h (Err r) u e = (cc, cc)

-- so it would be accepted with none held
pub started_accepted : (m : Machine) (h : Held) (o q : Job) → start_of m h o ≡ Ok q → Accepted m o
started_accepted m h o q e = let p = accepted_is m h o q e in ap (λ (z : Held). start_of m z o) (sym p.0) ∙ e ∙ ap Ok p.1

-- steps that give the job's commands, as many as stated, at whose end no job is held
pub record Whole (m : Machine) (o : Job) (e : Machine) : Type 0 where
  pub many : length (commands_of m (first o)) ≡ pulses m (first o)
  pub run : Run (commands_of m (first o)) (begun m o) (on e None)

whole_steps : (m : Machine) (o : Job) (e : Machine) → Whole m o e → steps (pulses m (first o)) (begun m o) ≡ on e None
whole_steps m o e r = ap (λ (k : ℕ). steps k (begun m o)) (sym r.many) ∙ run_ends r.run

pub whole_ended : (m : Machine) (o : Job) (e : Machine) → Whole m o e → ended m o ≡ e
whole_ended m o e r = ap (λ (s : State). s.machine) (whole_steps m o e r)

pub whole_course : (m : Machine) (o : Job) (e : Machine) → Whole m o e → Sound e → Course m o
whole_course m o e r s = record {
  many = r.many;
  gives = λ k h. run_gives r.run (command (first o)) k (rw r.many h);
  over = ap (λ (s : State). s.held) (whole_steps m o e r);
  passes = rw (whole_ended m o e r) (passes e s);
}
