-- A held job that stands at its first place is the one that its start holds; and how many pulses a job takes at most.
use Prim.Native.Nat.{ℕ, zero, suc, ◌+◌, ◌*◌, ◌-◌, ◌/◌, ◌%◌, ◌^◌, ◌≤◌, ◌<◌}
use mathlib.Core.Path.{◌≡◌, refl}
use mathlib.Core.Bool.{Bool, true, false}
use native.Mathlib.Nat.{mod-lt}
use native.Mathlib.Omega.{arith}
use lib.Dec.{ltb, eqb}
use borrow.Author.Tests.{eqb-true}
use Rattle.std.specs.Prelude.{Ok, Some}
use Rattle.laws.specs.Bits.{bit, digit}
use Rattle.machine.specs.declared.ResponseBit.{ResponseBit}
use Rattle.machine.specs.Machine.{Machine}
use Rattle.job_plans.specs.declared.Span.{Span}
use Rattle.job_plans.specs.declared.Job.{Job}
use Rattle.job_plans.specs.Fields.{Kind, greatest, smallest, scaledAdd, product, unknown, kind_of, job, is_zero, unused_zero_for}
use Rattle.job_plans.specs.Places.{none, first_for, first, at_first, held_check, step_check}
use Rattle.job_plans.proofs.Fair.{and_true, Fair, fair, extreme_fields, scaled_fields, product_fields}
use Rattle.job_plans.proofs.Places.{narrow, fair_held}
use Rattle.job_tally.proofs.Sums.{any_ones, any_zeros}
use Rattle.job_tally.specs.Totals.{sum_below, values, greatest_of, smallest_of, pulses_for, pulses}

-- ---- a job that stands at its first place is the job that its start holds

no_span : (s : Span) → is_zero s ≡ true → s ≡ none
no_span s h =
    let z = and_true (eqb s.low.0 0) (eqb s.width 0) h in
    go s.low.0 s.width (eqb-true _ _ z.0) (eqb-true _ _ z.1)
  where
    go : (l w : ℕ) → l ≡ 0 → w ≡ 0 → ◌≡◌ {A = Span} (record { low = record { 0 = l }; width = w }) none
    go l w e f = rw (e, f) refl

same : (kind key care x : ℕ) (y : ResponseBit) (a b p : Span) (phase i j c x' : ℕ) (b' p' : Span) (phase' i' j' c' : ℕ) → x ≡ x' → b ≡ b' → p ≡ p' → phase ≡ phase'
    → i ≡ i' → j ≡ j' → c ≡ c' → job kind key care (record { 0 = x }) y a b p phase i j c ≡ job kind key care (record { 0 = x' }) y a b' p' phase' i' j' c'
same kind key care x y a b p phase i j c x' b' p' phase' i' j' c' ex eb ep ef ei ej ec = rw (ex, eb, ep, ef, ei, ej, ec) refl

module _ (o : Job) where
  placed : (x' : ℕ) (b' p' : Span) (phase' i' j' c' : ℕ) → o.x.0 ≡ x' → o.b ≡ b' → o.p ≡ p' → o.phase ≡ phase' → o.i ≡ i' → o.j ≡ j' → o.c ≡ c'
      → o ≡ job o.kind o.key o.care (record { 0 = x' }) o.y o.a b' p' phase' i' j' c'
  placed x' b' p' phase' i' j' c' =
      same o.kind o.key o.care o.x.0 o.y o.a o.b o.p o.phase o.i o.j o.c x' b' p' phase' i' j' c'

  extreme : unused_zero_for greatest o ≡ true → o.phase ≡ 0 → o.i ≡ o.a.width - 1 → o.j ≡ 0 → o ≡ first_for greatest o
  extreme z ef ei ej =
      let c = and_true _ (eqb o.c 0) z in
      let j = and_true _ (eqb o.j 0) c.0 in
      let b = and_true (is_zero o.b) (is_zero o.p) j.0 in
      placed o.x.0 none none 0 (o.a.width - 1) 0 0 refl (no_span _ b.0) (no_span _ b.1) ef ei ej (eqb-true _ _ c.1)

  at_first_lem : (k : Kind) → unused_zero_for k o ≡ true → o.phase ≡ (first_for k o).phase → o.i ≡ (first_for k o).i → o.j ≡ (first_for k o).j → o ≡ first_for k o
  at_first_lem greatest z ef ei ej = extreme z ef ei ej
  at_first_lem smallest z ef ei ej = extreme z ef ei ej
  at_first_lem scaledAdd z ef ei ej =
      let j = and_true _ (eqb o.j 0) z in
      let b = and_true (eqb o.x.0 0) (is_zero o.b) j.0 in
      placed 0 none o.p 1 0 0 o.c (eqb-true _ _ b.0) (no_span _ b.1) refl ef ei ej refl
  at_first_lem product z ef ei ej =
      let c = and_true (eqb o.x.0 0) (eqb o.c 0) z in
      placed 0 o.b o.p 1 0 0 0 (eqb-true _ _ c.0) refl refl ef ei ej (eqb-true _ _ c.1)
  at_first_lem unknown z ef ei ej = refl

pub is_first : (n : ℕ) (o : Job) → held_check n o ≡ Ok tt → at_first o ≡ true → o ≡ first o
unfolding first
is_first n o h e =
    let k = kind_of o.kind in
    let j = and_true _ (eqb o.j (first_for k o).j) e in
    let i = and_true (eqb o.phase (first_for k o).phase) (eqb o.i (first_for k o).i) j.0 in
    at_first_lem o k (fair n o h).zero (eqb-true _ _ i.0) (eqb-true _ _ i.1) (eqb-true _ _ j.1)

-- ---- no job takes more than 8,192 pulses

sum_few : (k : ℕ) (g : ℕ → ℕ) → ((i : ℕ) → g i ≤ 1) → sum_below k g ≤ k
unfolding sum_below
sum_few zero g h = omega arith
sum_few (suc k) g h = omega (arith, h k, sum_few k g h)

sum_many : (k : ℕ) (g : ℕ → ℕ) → ((i : ℕ) → g i ≤ 64) → sum_below k g ≤ k * 64
unfolding sum_below
sum_many zero g h = omega arith
sum_many (suc k) g h = omega (arith, h k, sum_many k g h)

one_bit : (v i : ℕ) → bit v i ≤ 1
one_bit v i = let h : v / 2 ^ i % 2 < 2 = mod-lt (v / 2 ^ i) (omega arith) in omega arith

one_digit : (b : Bool) → digit b ≤ 1
one_digit true = omega arith
one_digit false = omega arith

pub few_pulses : (m : Machine) (o : Job) → step_check m (Some o) ≡ Ok tt → pulses m o ≤ 8192
unfolding pulses
few_pulses m o ok = go (kind_of o.kind) (fair m.width o (fair_held m o ok))
  where
    w : m.width ≤ 64
    w = narrow m o ok

    go : (k : Kind) → Fair m.width o k → pulses_for k m o ≤ 8192
    go greatest f = omega (arith, w, (extreme_fields m.width o f.used).a.fits, any_ones o.a.width (values o m.words m.responses), sum_few o.a.width (bit (greatest_of (values o m.words m.responses))) (one_bit (greatest_of (values o m.words m.responses))))
    go smallest f = omega (arith, w, (extreme_fields m.width o f.used).a.fits, any_zeros o.a.width (values o m.words m.responses), sum_few o.a.width (λ i. 1 - bit (smallest_of (2 ^ o.a.width - 1) (values o m.words m.responses)) i) (λ i. omega arith))
    go scaledAdd f = omega (arith, w, (scaled_fields m.width o f.used).a.fits)
    go product f =
        let p = product_fields m.width o f.used in
        omega (arith, w, p.both.a.fits, sum_many o.a.width (λ i. sum_below o.b.width (λ j. digit (ltb (i + j) o.p.width))) (λ i. omega (arith, w, p.b.fits, sum_few o.b.width (λ j. digit (ltb (i + j) o.p.width)) (λ j. one_digit (ltb (i + j) o.p.width)))))
    go unknown f = omega arith
