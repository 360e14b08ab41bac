-- What total answers, from what its callees ensure.
use Prim.Native.Nat.{◌+◌, ◌≤◌, ◌<◌}
use mathlib.Core.Path.{◌≡◌, subst}
use native.Mathlib.Omega.{arith}
use Rattle.std.specs.Prelude.{Ok, Some}
use Rattle.machine.specs.Machine.{Machine}
use Rattle.machine.proofs.Refusals.{else_passed}
use Rattle.job_plans.specs.declared.Job.{Job}
use Rattle.job_plans.specs.Fields.{Held}
use Rattle.job_plans.specs.Places.{step_check}
use Rattle.job_tally.specs.Totals.{first_check, total_check}
use Rattle.job_plans.proofs.Fair.{has_a, used_fields}
use Rattle.job_plans.proofs.Places.{narrow, fair_held}

module _ (m : Machine) (h : Held) where
  -- as a step that is not turned down
  as_step : total_check m h ≡ Ok tt → step_check m h ≡ Ok tt
  unfolding total_check
  as_step e = (else_passed (step_check m h) (first_check h) e).0

  pub total_room : (o : Job) → total_check m h ≡ Ok tt → h ≡ Some o → (0 < o.a.width) × (o.a.low.0 + o.a.width ≤ 64)
  total_room o e d =
      let s = subst (λ (x : Held). step_check m x ≡ Ok tt) d (as_step e) in
      let a = has_a m.width o (used_fields m.width o (fair_held m o s)) in
      (a.some, omega (arith, a.fits, narrow m o s))
