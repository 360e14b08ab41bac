-- Smallest of A: X marks the selected words with the smallest value, after 1 + a pulses and one for each 0 of that value.
-- The smallest is the greatest of the values' complements within A's width.
use Prim.Native.Nat.{ℕ, ◌+◌, ◌-◌, ◌^◌, ◌≤◌, ◌<◌}
use mathlib.Core.Path.{◌≡◌, refl, sym, ap, ap₂, ◌∙◌}
use mathlib.Core.Bool.{Bool, true, false, ◌&&◌}
use mathlib.Core.List.{List, ◌∷◌}
use native.Mathlib.Nat.{div-one}
use native.Mathlib.Omega.{arith}
use lib.Dec.{eqb}
use lib.ListN.{length}
use lib.Pow.{pow_pos}
use borrow.Author.Tests.{eq-eqb, ne_eqb, eqb-true, eqb-false}
use Rattle.std.specs.Prelude.{Ok}
use Rattle.laws.specs.Bits.{bit, digit}
use Rattle.laws.proofs.Digits.{Bit, off, on}
use Rattle.laws.proofs.Bits.{digit_at, not_bit, bit_none}
use Rattle.machine.specs.Machine.{Machine}
use Rattle.job_plans.specs.declared.Job.{Job}
use Rattle.job_plans.specs.Fields.{smallest, kind_of, extreme_check, used_check}
use Rattle.job_plans.specs.Places.{first}
use Rattle.job_plans.specs.declared.Command.{Command}
use Rattle.job_plans.specs.Commands.{bit_of, command, opening}
use Rattle.job_tally.specs.Totals.{ones, zeros, value_of, values, smallest_of, if_any, pulses}
use Rattle.job_tally.proofs.Sums.{any_zeros}
use Rattle.ends.specs.Ends.{Accepted, word, chosen, from_top, commands_of, Course, ended, Marks}
use Rattle.ends.proofs.Agreeing.{agrees, agrees_one}
use Rattle.ends.proofs.Parts.{value_lt, value_bit}
use Rattle.ends.proofs.Machines.{same}
use Rattle.ends.proofs.Pairs.{sum_like}
use Rattle.ends.proofs.Fields.{ExtremeFields, extreme_fields}
use Rattle.ends.proofs.Best.{smallest_le, smallest_bounds, smallest_has, values_like}
use Rattle.ends.proofs.Trials.{Best}
use Rattle.ends.proofs.Extreme.{Ended, extreme_ends}
use Rattle.ends.proofs.Orders.{top_like, top_length}
use Rattle.ends.proofs.Plans.{least, held, wanted, first_is, plan}
use Rattle.ends.proofs.Starts.{begins, Whole, whole_course, whole_ended}

flip : {b : ℕ} → Bit b → eqb b 0 ≡ eqb (1 - b) 1
flip off = refl
flip on = refl

-- complements are equal where the numbers are
mirrored : (top x y : ℕ) → x ≤ top → y ≤ top → eqb (top - x) (top - y) ≡ eqb x y
mirrored top x y h g = go (eqb x y) refl
  where
    go : (t : Bool) → eqb x y ≡ t → eqb (top - x) (top - y) ≡ t
    go true e = let z = eqb-true x y e in eq-eqb (top - x) (top - y) (omega arith)
    go false e = let z = eqb-false x y e in ne_eqb (top - x) (top - y) (λ q. z (omega arith))

module _ (m : Machine) (o : Job) (accepted : Accepted m o) (kind : kind_of o.kind ≡ smallest) where
  abbrev all_ones : ℕ
  all_ones = 2 ^ o.a.width - 1

  -- the smallest of A's values in the selected words, and all ones if there is none
  abbrev bottom : ℕ
  bottom = smallest_of all_ones (values o m.words m.responses)

  abbrev mirror : ℕ → ℕ
  mirror w = 2 ^ o.a.width - 1 - value_of o.a w

  used : extreme_check m.width (held o) ≡ Ok tt
  unfolding used_check extreme_check
  used = rw kind at (begins m o accepted).used

  fields : ExtremeFields m.width (held o)
  fields = extreme_fields m.width (held o) used

  low_top : bottom ≤ all_ones
  low_top = smallest_le o all_ones m.words m.responses

  -- a trial finds the bit of the complement
  finds : (i w : ℕ) → i < o.a.width → agrees m.width (bit_of o.a i) w 0 ≡ eqb (bit (mirror w) i) 1
  finds i w h =
      agrees_one m.width (o.a.low.0 + i) w 0 (omega (arith, fields.a.fits))
      ∙ ap₂ eqb (sym (value_bit o.a w i h)) (bit_none (o.a.low.0 + i))
      ∙ flip (digit_at (value_of o.a w) i)
      ∙ ap (λ (z : ℕ). eqb z 1) (sym (not_bit o.a.width (value_of o.a w) i (value_lt o.a w) h))

  best : Best m (held o) (wanted smallest o) mirror (all_ones - bottom)
  best = record {
    finds = finds;
    value_lt = λ w. omega (arith, pow_pos o.a.width);
    best_lt = omega (arith, pow_pos o.a.width);
    bounds = λ k l c. omega (arith, smallest_bounds o all_ones m.words m.responses k (same m (begins m o accepted).sound) l c);
    has = λ h. let p = smallest_has o all_ones m.words m.responses (omega arith) in (p.at, p.within, p.selected, ap (λ (v : ℕ). all_ones - v) p.value);
  }

  done : Ended m (begins m o accepted).sound (held o) fields (wanted smallest o) mirror (all_ones - bottom) (plan m.width o smallest least kind used) best
  done = extreme_ends m (begins m o accepted).sound (held o) fields (wanted smallest o) mirror (all_ones - bottom) (plan m.width o smallest least kind used) best

  -- "(of zeros in the smallest)"
  pub zeros_are : zeros o.a.width bottom ≡ ones o.a.width (all_ones - bottom)
  zeros_are = sum_like o.a.width _ _ (λ i l. sym (not_bit o.a.width bottom i (omega (arith, low_top, pow_pos o.a.width)) l))

  -- "1+a plus, if any word is selected, the number of ones in the greatest syllable (of zeros in the smallest)"
  pub smallest_pulses : pulses m (first o) ≡ 1 + o.a.width + zeros o.a.width bottom
  unfolding pulses
  smallest_pulses =
      rw (first_is o least kind)
      (rw kind (ap (λ (vs : List ℕ). 1 + o.a.width + if_any vs (zeros o.a.width (smallest_of all_ones vs))) (values_like o (held o) refl refl refl m.words m.responses)))
      ∙ ap (λ (k : ℕ). 1 + o.a.width + k) (any_zeros o.a.width (values o m.words m.responses))

  -- the opening, and at each place the trial and, for each 0 of the smallest, the search after it
  pub smallest_commands : commands_of m (first o) ≡ command (held o) ∷ from_top (held o) (bit (all_ones - bottom)) o.a.width
  unfolding commands_of command
  smallest_commands =
      rw (first_is o least kind)
      (rw kind (ap (λ (vs : List ℕ). opening (held o) ∷ from_top (held o) (λ i. 1 - bit (smallest_of all_ones vs) i) o.a.width)
      (values_like o (held o) refl refl refl m.words m.responses)))
      ∙ ap (λ (ks : List Command). command (held o) ∷ ks)
      (top_like (held o) _ _ o.a.width (λ i l. sym (not_bit o.a.width bottom i (omega (arith, low_top, pow_pos o.a.width)) l)))

  whole : Whole m o done.end
  whole = record {
    many = ap (λ (ks : List Command). length ks) smallest_commands
        ∙ omega (arith, top_length (held o) (bit (all_ones - bottom)) (digit_at (all_ones - bottom)) o.a.width, smallest_pulses, zeros_are);
    run = rw (smallest_commands, first_is o least kind) done.run;
  }

  -- every step gives its command until the job is over
  pub smallest_course : Course m o
  smallest_course = whole_course m o done.end whole done.narrow.sound

  -- "X marks exactly the selected words with the extreme value."
  pub smallest_ends : Marks o bottom m (ended m o)
  smallest_ends =
      let n = done.narrow in
      rw (whole_ended m o done.end whole)
      (record {
        size = n.size;
        marks = λ k l. n.marks k l ∙ rw (div-one (mirror (word m k)), div-one (all_ones - bottom))
            (ap (λ (t : Bool). digit (chosen m o k && t)) (mirrored all_ones (value_of o.a (word m k)) bottom (omega (arith, value_lt o.a (word m k))) low_top));
        words = n.words;
        responses = n.others;
      })
