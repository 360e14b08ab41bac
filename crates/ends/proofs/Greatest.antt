-- Greatest of A: X marks the selected words with the greatest value, after 1 + a pulses and one for each 1 of that value.
use Prim.Native.Nat.{ℕ, ◌+◌, ◌^◌, ◌<◌}
use mathlib.Core.Path.{◌≡◌, refl, sym, ap, ap₂, ◌∙◌}
use mathlib.Core.List.{List, ◌∷◌}
use native.Mathlib.Nat.{div-one}
use native.Mathlib.Omega.{arith}
use lib.Dec.{eqb}
use lib.ListN.{length}
use lib.Pow.{pow_pos}
use Rattle.std.specs.Prelude.{Ok}
use Rattle.laws.specs.Bits.{bit}
use Rattle.laws.proofs.Bits.{digit_at}
use Rattle.machine.specs.Machine.{Machine}
use Rattle.job_plans.specs.declared.Job.{Job}
use Rattle.job_plans.specs.Fields.{greatest, kind_of, extreme_check, used_check}
use Rattle.job_plans.specs.Places.{first}
use Rattle.job_plans.specs.declared.Command.{Command}
use Rattle.job_plans.specs.Commands.{bit_of, command, opening}
use Rattle.job_tally.specs.Totals.{ones, value_of, values, greatest_of, if_any, pulses}
use Rattle.job_tally.proofs.Sums.{any_ones}
use Rattle.ends.specs.Ends.{Accepted, word, from_top, commands_of, Course, ended, Marks}
use Rattle.ends.proofs.Agreeing.{agrees, agrees_one, one_here}
use Rattle.ends.proofs.Parts.{value_lt, value_bit}
use Rattle.ends.proofs.Machines.{same}
use Rattle.ends.proofs.Fields.{ExtremeFields, extreme_fields}
use Rattle.ends.proofs.Best.{greatest_bounds, greatest_has, greatest_lt, values_like}
use Rattle.ends.proofs.Trials.{Best}
use Rattle.ends.proofs.Extreme.{Ended, extreme_ends}
use Rattle.ends.proofs.Orders.{top_length}
use Rattle.ends.proofs.Plans.{most, held, first_is, plan}
use Rattle.ends.proofs.Starts.{begins, Whole, whole_course, whole_ended}

module _ (m : Machine) (o : Job) (accepted : Accepted m o) (kind : kind_of o.kind ≡ greatest) where
  -- the greatest of A's values in the selected words
  abbrev top : ℕ
  top = greatest_of (values o m.words m.responses)

  used : extreme_check m.width (held o) ≡ Ok tt
  unfolding used_check extreme_check
  used = rw kind at (begins m o accepted).used

  fields : ExtremeFields m.width (held o)
  fields = extreme_fields m.width (held o) used

  -- a trial finds the bit of the value
  finds : (i w : ℕ) → i < o.a.width → agrees m.width (bit_of o.a i) w (bit_of o.a i) ≡ eqb (bit (value_of o.a w) i) 1
  finds i w h =
      agrees_one m.width (o.a.low.0 + i) w (bit_of o.a i) (omega (arith, fields.a.fits))
      ∙ ap₂ eqb (sym (value_bit o.a w i h)) (one_here (o.a.low.0 + i))

  best : Best m (held o) (bit_of o.a) (value_of o.a) top
  best = record {
    finds = finds;
    value_lt = value_lt o.a;
    best_lt = greatest_lt o (2 ^ o.a.width) (pow_pos o.a.width) (value_lt o.a) m.words m.responses;
    bounds = λ k l c. greatest_bounds o m.words m.responses k (same m (begins m o accepted).sound) l c;
    has = λ h. let p = greatest_has o m.words m.responses h in (p.at, p.within, p.selected, p.value);
  }

  done : Ended m (begins m o accepted).sound (held o) fields (bit_of o.a) (value_of o.a) top (plan m.width o greatest most kind used) best
  done = extreme_ends m (begins m o accepted).sound (held o) fields (bit_of o.a) (value_of o.a) top (plan m.width o greatest most kind used) best

  -- "1+a plus, if any word is selected, the number of ones in the greatest syllable"
  pub greatest_pulses : pulses m (first o) ≡ 1 + o.a.width + ones o.a.width top
  unfolding pulses
  greatest_pulses =
      rw (first_is o most kind)
      (rw kind (ap (λ (vs : List ℕ). 1 + o.a.width + if_any vs (ones o.a.width (greatest_of vs))) (values_like o (held o) refl refl refl m.words m.responses)))
      ∙ ap (λ (k : ℕ). 1 + o.a.width + k) (any_ones o.a.width (values o m.words m.responses))

  -- the opening, and at each place the trial and, for each 1 of the greatest, the search after it
  pub greatest_commands : commands_of m (first o) ≡ command (held o) ∷ from_top (held o) (bit top) o.a.width
  unfolding commands_of command
  greatest_commands =
      rw (first_is o most kind)
      (rw kind (ap (λ (vs : List ℕ). opening (held o) ∷ from_top (held o) (bit (greatest_of vs)) o.a.width)
      (values_like o (held o) refl refl refl m.words m.responses)))

  whole : Whole m o done.end
  whole = record {
    many = ap (λ (ks : List Command). length ks) greatest_commands
        ∙ omega (arith, top_length (held o) (bit top) (digit_at top) o.a.width, greatest_pulses);
    run = rw (greatest_commands, first_is o most kind) done.run;
  }

  -- every step gives its command until the job is over
  pub greatest_course : Course m o
  greatest_course = whole_course m o done.end whole done.narrow.sound

  -- "X marks exactly the selected words with the extreme value."
  pub greatest_ends : Marks o top m (ended m o)
  greatest_ends =
      let n = done.narrow in
      rw (whole_ended m o done.end whole)
      (record {
        size = n.size;
        marks = λ k l. n.marks k l ∙ rw (div-one (value_of o.a (word m k)), div-one top);
        words = n.words;
        responses = n.others;
      })
