-- A step that is not turned down: what holds of its machine and of its job.
use Prim.Native.Nat.{◌≤◌, ◌<◌}
use mathlib.Core.Path.{◌≡◌}
use native.Mathlib.Omega.{arith}
use Rattle.std.specs.Prelude.{Some, Ok}
use Rattle.machine.specs.Machine.{Machine}
use Rattle.machine.specs.Refusals.{machine_check}
use Rattle.machine.proofs.Refusals.{else_passed, sound, width_le}
use Rattle.job_plans.specs.declared.Job.{Job}
use Rattle.job_plans.specs.Fields.{Held}
use Rattle.job_plans.specs.Places.{held_check, step_held_check, step_check}
use Rattle.job_plans.proofs.Fair.{room}

pub record Good (m : Machine) (h : Held) : Type 0 where
  pub machine : machine_check m ≡ Ok tt
  pub held : step_held_check m.width h ≡ Ok tt

pub good : (m : Machine) (h : Held) → step_check m h ≡ Ok tt → Good m h
unfolding step_check
good m h e =
    let a = else_passed (machine_check m) (step_held_check m.width h) e in record { machine = a.0; held = a.1 }

module _ (m : Machine) (o : Job) (ok : step_check m (Some o) ≡ Ok tt) where
  pub narrow : m.width ≤ 64
  narrow = width_le m.width (sound m (good m (Some o) ok).machine).width

  pub fair_held : held_check m.width o ≡ Ok tt
  fair_held = (good m (Some o) ok).held

  pub few : (o.i < 64) × (o.j < 64)
  few = let r = room m.width o fair_held in (omega (arith, narrow, r.i), omega (arith, narrow, r.j))
