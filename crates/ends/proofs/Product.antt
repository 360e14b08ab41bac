-- Product: "P becomes P+A·B", after twice the number of pairs i, j with i+j below p.
use Prim.Native.Nat.{ℕ, zero, suc, ◌+◌, ◌*◌, ◌<◌}
use mathlib.Core.Path.{◌≡◌, refl, sym, ap, ◌∙◌}
use mathlib.Core.List.{List}
use lib.ListN.{length}
use native.Mathlib.Omega.{arith}
use lib.Dec.{ltb}
use Rattle.std.specs.Prelude.{Ok, Some}
use Rattle.laws.specs.Bits.{digit}
use Rattle.machine.specs.Machine.{Machine}
use Rattle.job_plans.specs.declared.Job.{Job}
use Rattle.job_plans.specs.declared.Command.{Command}
use Rattle.job_plans.specs.Fields.{product, kind_of, product_check, used_check}
use Rattle.job_plans.specs.Places.{first, first_for, moved}
use Rattle.job_tally.specs.Totals.{sum_below, value_of, pulses}
use Rattle.ends.specs.Ends.{Accepted, commands_of, Course, ended, product_gain, Adds}
use Rattle.ends.proofs.Fields.{ProductFields, product_fields}
use Rattle.ends.proofs.Passing.{adds_like}
use Rattle.ends.proofs.Visits.{start, both, Visited, visits}
use Rattle.ends.proofs.ScaledPlaces.{lesser}
use Rattle.ends.proofs.ProductPlaces.{row_of, rows, starts_row, product_route}
use Rattle.ends.proofs.Pairs.{pairs_are}
use Rattle.ends.proofs.ProductSums.{product_sum}
use Rattle.ends.proofs.Orders.{both_length, both_rows}
use Rattle.ends.proofs.Starts.{begins, Whole, whole_course, whole_ended}

-- the job held after the start
abbrev held : Job → Job
held o = first_for product o

starts : (b : Job) (k : ℕ) → 0 < k → 0 < row_of b 0 → start b (rows b 0 k) ≡ Some (moved b 1 0 0)
unfolding rows
starts b zero h r = absurd (omega arith)
starts b (suc k) h r = starts_row b 0 0 (row_of b 0) (rows b 1 k) r

module _ (m : Machine) (o : Job) (accepted : Accepted m o) (kind : kind_of o.kind ≡ product) where
  first_is : first o ≡ held o
  unfolding first
  first_is = rw kind

  used : product_check m.width (held o) ≡ Ok tt
  unfolding used_check product_check
  used = rw kind at (begins m o accepted).used

  fields : ProductFields m.width (held o)
  fields = product_fields m.width (held o) used

  visited : Visited (held o) (rows (held o) 0 (lesser o)) m
  visited =
      visits (held o) fields.both.y_works m.width fields.both.p (rows (held o) 0 (lesser o))
      (product_route m.width (held o) kind used refl (lesser o) 0 (omega arith)) m (begins m o accepted).sound refl

  -- "product twice the number of pairs with i+j below p"
  pub product_pulses : pulses m (first o) ≡ 2 * sum_below o.a.width (λ i. sum_below o.b.width (λ j. digit (ltb (i + j) o.p.width)))
  unfolding pulses
  product_pulses = rw first_is (rw kind refl)

  -- both of each place
  pub product_commands : commands_of m (first o) ≡ both (held o) (rows (held o) 0 (lesser o))
  unfolding commands_of
  product_commands = rw first_is (rw kind (sym (both_rows (held o) 0 o.a.width (lesser o) (omega arith))))

  whole : Whole m o visited.end
  whole =
      let some : 0 < lesser o = omega (arith, fields.both.a.some, fields.both.p.some) in
      let row : 0 < row_of (held o) 0 = omega (arith, fields.b.some, fields.both.p.some) in
      record {
        many = ap (λ (ks : List Command). length ks) product_commands
            ∙ omega (arith, both_length (held o) (rows (held o) 0 (lesser o)), pairs_are (held o), product_pulses);
        run = rw (product_commands, first_is) (rw (starts (held o) (lesser o) some row) at visited.run);
      }

  -- every step gives its command until the job is over
  pub product_course : Course m o
  product_course = whole_course m o visited.end whole visited.sound

  -- "P holds the stated value in selected words; all other data bits, and response bits but the job's working ones, are unchanged."
  pub product_ends : Adds o (product_gain o) m (ended m o)
  product_ends =
      let a = adds_like (held o) fields.both.y_works _ (product_gain o) m visited.end
      (λ w. product_sum (held o) w (value_of o.p w)) visited.adds in
      rw (whole_ended m o visited.end whole)
      (record { size = a.size; holds = a.holds; outside = a.outside; unselected = a.unselected; responses = a.responses })
