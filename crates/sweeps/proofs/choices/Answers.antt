use Rattle.std.proofs.Common.{◌≡◌, ℕ, ◌≤◌, Bool, true, false, get_or, sym, refl, ◌∙◌, arith, length-set, get_or-set_other, get_or-set_same, rules, below_more}
use Rattle.laws.specs.Bits.{digit}
use Rattle.sweeps.specs.declared.Tags.{Tags}
use Rattle.sweeps.specs.Rules.{chosen, choice}
use Rattle.sweeps.proofs.Along.{none_yet, step_counts, all_counted, many_is}
use Rattle.sweeps.proofs.choices.Goals as goal

choice_le : (p : Tags) (r : ℕ) → choice p r ≤ 1
unfolding choice
choice_le p r = digit_le (chosen p r)
  where
    digit_le : (t : Bool) → digit t ≤ 1
    digit_le true = omega arith
    digit_le false = omega arith

choice_is : (p : Tags) (r : ℕ) {x : ℕ} → x ≡ choice p r → x ≡ digit (chosen p r)
unfolding choice
choice_is p r e = e

pub loop-i-init : goal.loop-i-init
loop-i-init c = ((λ j k. absurd (omega arith)), c.requires.1, none_yet _ _ _)

pub overflow_add-n : goal.overflow_add-n
overflow_add-n c =
    omega (arith, c.choice_of-x.ensures, choice_le c.args.p (get_or c.args.responses.now c.loop-i.i 0))

pub loop-i-preserved : goal.loop-i-preserved
loop-i-preserved c =
    let a = c.args in
    let r = get_or a.responses.now c.loop-i.i 0 in
    let x = c.choice_of-x in (
      below_more _ c.loop-i.i (λ j k. get_or-set_other c.loop-i.g c.loop-i.i j x.result 0 (λ e. omega arith) ∙ c.loop-i.invariant.0 j k)
          (get_or-set_same c.loop-i.g c.loop-i.i x.result 0 (omega arith) ∙ x.ensures),
      length-set c.loop-i.g c.loop-i.i x.result ∙ c.loop-i.invariant.1,
      rw (choice_is a.p r x.ensures)
          (step_counts (λ y z. chosen a.p z) a.responses.now a.responses.now c.loop-i.n c.loop-i.i (chosen a.p r) c.loop-i.invariant.2
          (search rules) (search rules) refl),
    )

pub returns : goal.returns
returns c =
    let a = c.args in record {
      value = all_counted (λ x r. chosen a.p r) a.responses.now a.responses.now c.loop-i.n c.loop-i.i c.loop-i.invariant.2 (search rules) (search rules) (search rules)
          ∙ sym (many_is (chosen a.p) a.responses.now);
      by_index = ((λ j k. c.loop-i.invariant.0 j (omega arith)), c.loop-i.invariant.1);
    }
