-- Scaled add: "P becomes P+c·A", after 2·min(a,p) pulses.
use Prim.Native.Nat.{ℕ, zero, suc, ◌+◌, ◌*◌, ◌%◌, ◌^◌, ◌<◌, min}
use mathlib.Core.Path.{◌≡◌, refl, sym, ap, ◌∙◌}
use mathlib.Core.List.{List}
use lib.ListN.{length}
use native.Mathlib.Omega.{arith}
use Rattle.std.specs.Prelude.{Ok, Some}
use Rattle.machine.specs.Machine.{Machine}
use Rattle.job_plans.specs.declared.Job.{Job}
use Rattle.job_plans.specs.declared.Command.{Command}
use Rattle.job_plans.specs.Fields.{scaledAdd, kind_of, scaled_add_check, used_check}
use Rattle.job_plans.specs.Places.{first, first_for, moved}
use Rattle.job_tally.specs.Totals.{value_of, pulses}
use Rattle.ends.specs.Ends.{Accepted, commands_of, Course, ended, scaled_gain, Adds}
use Rattle.ends.proofs.Fields.{AddFields, add_fields}
use Rattle.ends.proofs.Passing.{adds_like}
use Rattle.ends.proofs.Parts.{part}
use Rattle.ends.proofs.Visits.{total, start, both, Visited, visits}
use Rattle.ends.proofs.ScaledPlaces.{ups, lesser, ups_length, scaled_route}
use Rattle.ends.proofs.Sums.{scaled_sum, cut_a}
use Rattle.ends.proofs.Orders.{both_length, both_ups}
use Rattle.ends.proofs.Starts.{begins, Whole, whole_course, whole_ended}

-- the job held after the start
abbrev held : Job → Job
held o = first_for scaledAdd o

starts : (b : Job) (k : ℕ) → 0 < k → start b (ups b 0 k) ≡ Some (moved b 1 0 0)
unfolding ups
starts b zero h = absurd (omega arith)
starts b (suc k) h = refl

-- what the places add is c times A
gains : (b : Job) (w : ℕ)
    → (value_of b.p w + total (ups b 0 (lesser b)) w) % 2 ^ b.p.width ≡ (value_of b.p w + scaled_gain b w) % 2 ^ b.p.width
gains b w =
    let e : b.a.low.0 + 0 ≡ b.a.low.0 = omega arith in
    let d : 2 ^ 0 * part b.a.low.0 (lesser b) w ≡ part b.a.low.0 (lesser b) w = omega arith in
    rw (e, d) at (scaled_sum b w (lesser b) 0 (value_of b.p w)) ∙ cut_a b b.c w (value_of b.p w)

module _ (m : Machine) (o : Job) (accepted : Accepted m o) (kind : kind_of o.kind ≡ scaledAdd) where
  first_is : first o ≡ held o
  unfolding first
  first_is = rw kind

  used : scaled_add_check m.width (held o) ≡ Ok tt
  unfolding used_check scaled_add_check
  used = rw kind at (begins m o accepted).used

  fields : AddFields m.width (held o)
  fields = add_fields m.width (held o) used

  visited : Visited (held o) (ups (held o) 0 (lesser o)) m
  visited =
      visits (held o) fields.y_works m.width fields.p (ups (held o) 0 (lesser o))
      (scaled_route m.width (held o) kind used refl (lesser o) 0 (omega arith)) m (begins m o accepted).sound refl

  -- "scaled add 2·min(a,p)"
  pub scaled_add_pulses : pulses m (first o) ≡ 2 * min o.a.width o.p.width
  unfolding pulses
  scaled_add_pulses = rw first_is (rw kind refl)

  -- both of each place
  pub scaled_add_commands : commands_of m (first o) ≡ both (held o) (ups (held o) 0 (lesser o))
  unfolding commands_of
  scaled_add_commands = rw first_is (rw kind (sym (both_ups (held o) 0 (lesser o) (omega arith))))

  whole : Whole m o visited.end
  whole =
      let some : 0 < lesser o = omega (arith, fields.a.some, fields.p.some) in
      record {
        many = ap (λ (ks : List Command). length ks) scaled_add_commands
            ∙ omega (arith, both_length (held o) (ups (held o) 0 (lesser o)), ups_length (held o) 0 (lesser o), scaled_add_pulses);
        run = rw (scaled_add_commands, first_is) (rw (starts (held o) (lesser o) some) at visited.run);
      }

  -- every step gives its command until the job is over
  pub scaled_add_course : Course m o
  scaled_add_course = whole_course m o visited.end whole visited.sound

  -- "P holds the stated value in selected words; all other data bits, and response bits but the job's working ones, are unchanged."
  pub scaled_add_ends : Adds o (scaled_gain o) m (ended m o)
  scaled_add_ends =
      let a = adds_like (held o) fields.y_works _ (scaled_gain o) m visited.end (gains (held o)) visited.adds in
      rw (whole_ended m o visited.end whole)
      (record { size = a.size; holds = a.holds; outside = a.outside; unselected = a.unselected; responses = a.responses })
