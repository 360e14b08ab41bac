-- "plus, if any word is selected, ..": the number of pulses of an extreme, with a word selected and with none, and that it comes from the extreme alone.
use Prim.Native.Nat.{ℕ, zero, suc, ◌+◌, ◌-◌, ◌^◌, ◌≤◌, ◌<◌}
use mathlib.Core.Path.{◌≡◌, refl, sym, ap, ◌∙◌}
use mathlib.Core.Bool.{true, false}
use mathlib.Core.Logic.{⊎_elim}
use mathlib.Core.List.{List, [], ◌∷◌}
use native.Mathlib.Omega.{arith}
use lib.ListN.{length, get_or}
use Rattle.laws.specs.Bits.{bit}
use Rattle.laws.proofs.Digits.{tri}
use Rattle.laws.proofs.Bits.{bit_none}
use Rattle.machine.specs.Machine.{Machine, selected}
use Rattle.job_plans.specs.declared.Job.{Job}
use Rattle.job_plans.specs.Fields.{greatest, smallest, scaledAdd, product, kind_of}
use Rattle.job_plans.specs.Places.{first}
use Rattle.job_plans.specs.declared.Command.{Command}
use Rattle.job_plans.specs.Commands.{command}
use Rattle.job_tally.specs.Totals.{sum_below, ones, zeros, value_of, values, greatest_of, smallest_of, pulses}
use Rattle.ends.specs.Ends.{Accepted, word, chosen, from_top, commands_of, IsGreatest, IsSmallest, NoneChosen, Alike}
use Rattle.ends.proofs.Parts.{value_lt}
use Rattle.ends.proofs.Machines.{same}
use Rattle.ends.proofs.Best.{greatest_bounds, greatest_has, smallest_bounds, smallest_has}
use Rattle.ends.proofs.Starts.{begins}
use Rattle.ends.proofs.Plans.{held}
use Rattle.ends.proofs.Greatest.{greatest_commands, greatest_pulses}
use Rattle.ends.proofs.Smallest.{smallest_commands, zeros_are, smallest_pulses}
use Rattle.ends.proofs.ScaledAdd.{scaled_add_commands}
use Rattle.ends.proofs.Product.{product_commands}
use Rattle.ends.proofs.Ends.{course}

no_values : (o : Job) (ws rs : List ℕ) → length rs ≡ length ws → ((k : ℕ) → k < length ws → selected o.key o.care (get_or rs k 0) ≡ false) → values o ws rs ≡ []
unfolding values
no_values o [] rs e h = refl
no_values o (w ∷ ws) [] e h = refl
no_values o (w ∷ ws) (r ∷ rs) e h = rw (h 0 (omega arith)) (no_values o ws rs (omega arith) (λ k l. h (suc k) (omega arith)))

no_ones : (k : ℕ) → ones k 0 ≡ 0
unfolding sum_below
no_ones zero = refl
no_ones (suc k) = rw (bit_none k, no_ones k)

module _ (m : Machine) (o : Job) (accepted : Accepted m o) where
  same_length : length m.responses ≡ length m.words
  same_length = same m (begins m o accepted).sound

  abbrev most : ℕ
  most = greatest_of (values o m.words m.responses)

  abbrev all_ones : ℕ
  all_ones = 2 ^ o.a.width - 1

  abbrev least : ℕ
  least = smallest_of all_ones (values o m.words m.responses)

  -- ---- a word is selected

  is_most : (v : ℕ) → IsGreatest o m v → most ≡ v
  is_most v g =
      let low = greatest_bounds o m.words m.responses g.at same_length g.within g.selected in
      let up : most ≤ v =
      ⊎_elim (λ l. let p = greatest_has o m.words m.responses l in omega (arith, p.value, g.bounds p.at p.within p.selected))
      (⊎_elim (λ e. omega (arith, e)) (λ l. absurd (omega arith))) (tri 0 most) in
      omega (arith, low, up, g.value)

  pub some_greatest : (k : ℕ) → k < length m.words → chosen m o k ≡ true → IsGreatest o m most
  some_greatest k l c = ⊎_elim has (⊎_elim here (λ g. absurd (omega arith))) (tri 0 most)
    where
      bound : (j : ℕ) → j < length m.words → chosen m o j ≡ true → value_of o.a (word m j) ≤ most
      bound j = greatest_bounds o m.words m.responses j same_length

      has : 0 < most → IsGreatest o m most
      has g = let p = greatest_has o m.words m.responses g in record { at = p.at; within = p.within; selected = p.selected; value = p.value; bounds = bound }

      here : 0 ≡ most → IsGreatest o m most
      here e = record { at = k; within = l; selected = c; value = omega (arith, bound k l c, e); bounds = bound }

  pub greatest_some : kind_of o.kind ≡ greatest → (v : ℕ) → IsGreatest o m v → pulses m (first o) ≡ 1 + o.a.width + ones o.a.width v
  greatest_some kind v g = greatest_pulses m o accepted kind ∙ ap (λ (z : ℕ). 1 + o.a.width + ones o.a.width z) (is_most v g)

  is_least : (v : ℕ) → IsSmallest o m v → least ≡ v
  is_least v g =
      let up = smallest_bounds o all_ones m.words m.responses g.at same_length g.within g.selected in
      let top : v ≤ all_ones = omega (arith, value_lt o.a (word m g.at), g.value) in
      let low : v ≤ least =
      ⊎_elim (λ l. let p = smallest_has o all_ones m.words m.responses l in omega (arith, p.value, g.bounds p.at p.within p.selected))
      (⊎_elim (λ e. omega (arith, e, top)) (λ l. omega (arith, l, top))) (tri least all_ones) in
      omega (arith, low, up, g.value)

  pub some_smallest : (k : ℕ) → k < length m.words → chosen m o k ≡ true → IsSmallest o m least
  some_smallest k l c = ⊎_elim has (⊎_elim (λ e. here (omega (arith, e))) (λ g. here (omega (arith, g)))) (tri least all_ones)
    where
      bound : (j : ℕ) → j < length m.words → chosen m o j ≡ true → least ≤ value_of o.a (word m j)
      bound j = smallest_bounds o all_ones m.words m.responses j same_length

      has : least < all_ones → IsSmallest o m least
      has g = let p = smallest_has o all_ones m.words m.responses g in record { at = p.at; within = p.within; selected = p.selected; value = p.value; bounds = bound }

      here : all_ones ≤ least → IsSmallest o m least
      here e = record {
        at = k;
        within = l;
        selected = c;
        value = omega (arith, bound k l c, e, value_lt o.a (word m k));
        bounds = bound;
      }

  pub smallest_some : kind_of o.kind ≡ smallest → (v : ℕ) → IsSmallest o m v → pulses m (first o) ≡ 1 + o.a.width + zeros o.a.width v
  smallest_some kind v g = smallest_pulses m o accepted kind ∙ ap (λ (z : ℕ). 1 + o.a.width + zeros o.a.width z) (is_least v g)

  -- ---- none is

  pub greatest_none : kind_of o.kind ≡ greatest → NoneChosen o m → pulses m (first o) ≡ 1 + o.a.width
  unfolding greatest_of
  greatest_none kind n =
      greatest_pulses m o accepted kind
      ∙ ap (λ (vs : List ℕ). 1 + o.a.width + ones o.a.width (greatest_of vs)) (no_values o m.words m.responses same_length n)
      ∙ omega (arith, no_ones o.a.width)

  pub smallest_none : kind_of o.kind ≡ smallest → NoneChosen o m → pulses m (first o) ≡ 1 + o.a.width
  unfolding smallest_of
  smallest_none kind n =
      let z : all_ones - all_ones ≡ 0 = omega arith in
      let e : zeros o.a.width least ≡ 0 =
      zeros_are m o accepted kind
      ∙ ap (λ (vs : List ℕ). ones o.a.width (all_ones - smallest_of all_ones vs)) (no_values o m.words m.responses same_length n)
      ∙ ap (ones o.a.width) z ∙ no_ones o.a.width in
      smallest_pulses m o accepted kind ∙ omega (arith, e)

-- ---- "never from how many words there are": two machines, of any sizes

module _ (m n : Machine) (o : Job) (on_m : Accepted m o) (on_n : Accepted n o) where
  -- the same commands are as many
  alike : commands_of m (first o) ≡ commands_of n (first o) → Alike m n o
  alike e = (e, sym (course m o on_m).many ∙ ap (λ (ks : List Command). length ks) e ∙ (course n o on_n).many)

  pub same_greatest : kind_of o.kind ≡ greatest → (v : ℕ) → IsGreatest o m v → IsGreatest o n v → Alike m n o
  same_greatest kind v g h =
      alike (greatest_commands m o on_m kind
      ∙ ap (λ (z : ℕ). command (held o) ∷ from_top (held o) (bit z) o.a.width) (is_most m o on_m v g ∙ sym (is_most n o on_n v h))
      ∙ sym (greatest_commands n o on_n kind))

  pub same_smallest : kind_of o.kind ≡ smallest → (v : ℕ) → IsSmallest o m v → IsSmallest o n v → Alike m n o
  same_smallest kind v g h =
      alike (smallest_commands m o on_m kind
      ∙ ap (λ (z : ℕ). command (held o) ∷ from_top (held o) (bit (2 ^ o.a.width - 1 - z)) o.a.width) (is_least m o on_m v g ∙ sym (is_least n o on_n v h))
      ∙ sym (smallest_commands n o on_n kind))

  pub same_scaled_add : kind_of o.kind ≡ scaledAdd → Alike m n o
  same_scaled_add kind = alike (scaled_add_commands m o on_m kind ∙ sym (scaled_add_commands n o on_n kind))

  pub same_product : kind_of o.kind ≡ product → Alike m n o
  same_product kind = alike (product_commands m o on_m kind ∙ sym (product_commands n o on_n kind))
