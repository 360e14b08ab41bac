-- The commands and places of greatest and smallest: the same but for the bit that a trial wants.
use Prim.Native.Nat.{ℕ, zero, suc, ◌+◌, ◌-◌, ◌^◌, ◌<◌}
use mathlib.Core.Path.{◌≡◌, refl, ap, ◌∙◌}
use mathlib.Core.Bool.{true, ◌&&◌, ◌||◌, or-true}
use native.Mathlib.Omega.{arith}
use lib.Dec.{ltb, eqb}
use borrow.Author.Tests.{eq-eqb, lt-ltb}
use Rattle.std.specs.Prelude.{Ok, Some}
use Rattle.laws.specs.Bits.{pick}
use Rattle.job_plans.specs.declared.Job.{Job}
use Rattle.job_plans.specs.Fields.{Kind, greatest, smallest, scaledAdd, product, unknown, kind_of, extreme_check, used_check_for, used_check, unused_zero_for, unused_zero}
use Rattle.job_plans.specs.Places.{in_table_for, in_table, held_check, first, first_for, moved, next_below, after_trial, after_second, next}
use Rattle.job_plans.specs.Commands.{command, look, bit_of, trial, second}
use Rattle.ends.proofs.Fields.{extreme_fields}
use Rattle.ends.proofs.Trials.{below_is, Plan}

-- the two kinds
pub data Extreme : Kind → Type 0 where
  most : Extreme greatest
  least : Extreme smallest

-- the job held after the start
abbrev pub held : Job → Job
held o = first_for greatest o

-- "search that bit exact 1"; "the same with exact 0"
abbrev pub wanted : Kind → Job → ℕ → ℕ
wanted greatest o i = bit_of o.a i
wanted smallest o i = 0
wanted scaledAdd o i = 0
wanted product o i = 0
wanted unknown o i = 0

-- ---- by kind

first_of : {k : Kind} → Extreme k → (o : Job) → first_for k o ≡ held o
first_of most o = refl
first_of least o = refl

pub used_of : {k : Kind} → Extreme k → (n : ℕ) (o : Job) → used_check_for k n o ≡ extreme_check n o
used_of most n o = refl
used_of least n o = refl

clear_of : {k : Kind} → Extreme k → (o : Job) (f i : ℕ) → unused_zero_for k (moved (held o) f i 0) ≡ true
clear_of most o f i = refl
clear_of least o f i = refl

place_of : {k : Kind} → Extreme k → (o : Job) → in_table_for k o ≡ in_table_for greatest o
place_of most o = refl
place_of least o = refl

trial_of : {k : Kind} → Extreme k → (o : Job) → trial k o ≡ look (2 ^ o.x.0) (2 ^ o.x.0) o.y (bit_of o.a o.i) (wanted k o o.i)
trial_of most o = refl
trial_of least o = refl

wanted_of : {k : Kind} → Extreme k → (o : Job) (f i : ℕ) → wanted k (moved (held o) f i 0) i ≡ wanted k o i
wanted_of most o f i = refl
wanted_of least o f i = refl

second_of : {k : Kind} → Extreme k → (o : Job) → second k o ≡ look (2 ^ o.y.0) (2 ^ o.y.0) o.x 0 0
second_of most o = refl
second_of least o = refl

after_trial_of : {k : Kind} → Extreme k → (o : Job) (c : ℕ) → after_trial k o c ≡ pick (eqb c 0) (next_below o o.i) (Some (moved o 2 o.i 0))
after_trial_of most o c = refl
after_trial_of least o c = refl

after_second_of : {k : Kind} → Extreme k → (o : Job) → after_second k o ≡ next_below o o.i
after_second_of most o = refl
after_second_of least o = refl

-- ---- the plan

pub first_is : {k : Kind} (o : Job) → Extreme k → kind_of o.kind ≡ k → first o ≡ held o
unfolding first
first_is o x kind = rw kind (first_of x o)

module _ (n : ℕ) (o : Job) (k : Kind) (x : Extreme k) (kind : kind_of o.kind ≡ k) (used : extreme_check n (held o) ≡ Ok tt) where
  fits : (f i : ℕ) → in_table_for greatest (moved (held o) f i 0) ≡ true → held_check n (moved (held o) f i 0) ≡ Ok tt
  unfolding held_check used_check unused_zero in_table extreme_check
  fits f i h = rw (kind, used_of x n (moved (held o) f i 0), moved_used, clear_of x o f i, place_of x (moved (held o) f i 0), h)
    where
      moved_used : extreme_check n (moved (held o) f i 0) ≡ Ok tt
      moved_used = used

  some : 0 < o.a.width
  some = (extreme_fields n (held o) used).a.some

  pub plan : Plan n (held o) (wanted k o)
  unfolding command next
  plan = record {
    opens = refl;
    tries = λ i. rw kind (trial_of x (moved (held o) 1 i 0) ∙ ap (look (2 ^ o.x.0) (2 ^ o.x.0) o.y (bit_of o.a i)) (wanted_of x o 1 i));
    narrows = λ i. rw kind (second_of x (moved (held o) 2 i 0));
    after_opening = λ c. top o.a.width some;
    after_trial_lem = λ i c. rw kind (after_trial_of x (moved (held o) 1 i 0) c ∙ rw (below_is (held o) 1 i 0 i));
    after_second_lem = λ i c. rw kind (after_second_of x (moved (held o) 2 i 0) ∙ below_is (held o) 2 i 0 i);
    first_fits = fits 0 (o.a.width - 1) (rw (eq-eqb (o.a.width - 1 + 1) o.a.width (omega (arith, some))));
    fits = λ f i h l. fits f i (go f i h (lt-ltb i o.a.width l));
  }
    where
      top : (a : ℕ) → 0 < a → Some (moved (held o) 1 (a - 1) 0) ≡ next_below (held o) a
      top zero h = absurd (omega arith)
      top (suc a) h = let e : suc a - 1 ≡ a = omega arith in rw e

      go : (f i : ℕ) → (eqb f 1 || eqb f 2) ≡ true → ltb i o.a.width ≡ true → in_table_for greatest (moved (held o) f i 0) ≡ true
      go f i h g = rw (h, g) (or-true (eqb f 0 && eqb (i + 1) o.a.width))
