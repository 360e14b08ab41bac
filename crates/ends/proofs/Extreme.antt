-- An extreme: X is narrowed from the top place down to the selected words with the best value.
use Prim.Native.Nat.{ℕ, zero, suc, ◌≤◌, ◌<◌}
use mathlib.Core.Path.{◌≡◌, refl}
use mathlib.Core.Bool.{true, false, ◌||◌}
use mathlib.Core.List.{◌∷◌}
use native.Mathlib.Omega.{arith}
use lib.Dec.{eqb}
use borrow.Author.Tests.{ne_eqb}
use Rattle.std.specs.Prelude.{Ok, Some, None}
use Rattle.laws.specs.Bits.{bit}
use Rattle.laws.proofs.Digits.{Bit, off, on as lit}
use Rattle.laws.proofs.Bits.{digit_at}
use Rattle.machine.specs.Machine.{Machine}
use Rattle.machine.proofs.Refusals.{Sound}
use Rattle.job_plans.specs.declared.Job.{Job}
use Rattle.job_plans.specs.Places.{held_check, moved, next_below}
use Rattle.job_plans.specs.Commands.{command}
use Rattle.ends.specs.Ends.{SameSize, from_top}
use Rattle.ends.proofs.Steps.{on, pulsed_by, counted_by, Run, stay, step_then}
use Rattle.ends.proofs.Fields.{ExtremeFields}
use Rattle.ends.proofs.Trials as trials
use Rattle.ends.proofs.Trials.{Plan, Best}

module _ (m : Machine) (s : Sound m) (b : Job) (f : ExtremeFields m.width b) (comp u : ℕ → ℕ) (g : ℕ) (plan : Plan m.width b comp) (best : Best m b comp u g) where
  abbrev pub Narrowed : ℕ → Machine → Type 0
  Narrowed = trials.Narrowed m s b f comp u g plan best

  abbrev tried : (i : ℕ) (e : Machine) → i < b.a.width → Narrowed (suc i) e → Machine
  tried = trials.tried m s b f comp u g plan best

  abbrev second : (i : ℕ) (e : Machine) → i < b.a.width → Narrowed (suc i) e → Machine
  second = trials.second m s b f comp u g plan best

  -- ---- all the places below i: one pulse for each, and one more for each 1 of the best value
  pub record Done (i : ℕ) (e : Machine) : Type 0 where
    pub end : Machine
    pub run : Run (from_top b (bit g) i) (on e (next_below b i)) (on end None)
    pub narrow : Narrowed 0 end

  goes : (i : ℕ) → i ≤ b.a.width → (e : Machine) → Narrowed i e → Done i e
  unfolding from_top
  goes zero h e n = record { end = e; run = stay; narrow = n }
  goes (suc i) h e n = go (bit g i) (digit_at g i) refl (λ d. goes i (omega arith) d)
    where
      fits : (d : Machine) → SameSize m d → (p : ℕ) → (eqb p 1 || eqb p 2) ≡ true → held_check d.width (moved b p i 0) ≡ Ok tt
      fits d z p q = rw z.width (plan.fits p i q h)

      go : (t : ℕ) → Bit t → bit g i ≡ t → ((d : Machine) → Narrowed i d → Done i d) → Done (suc i) e
      go t off d later =
          let r = later (tried i e h n) (trials.stays m s b f comp u g plan best i e h n d) in
          record {
            end = r.end;
            run = rw d (step_then e (moved b 1 i 0) (on r.end None) n.sound (fits e n.size 1 refl)
                (rw (plan.after_trial_lem i (counted_by e (moved b 1 i 0)), trials.count_zero m s b f comp u g plan best i e h n d) r.run));
            narrow = r.narrow;
          }
      go t lit d later =
          let r = later (second i e h n) (trials.narrowed m s b f comp u g plan best i e h n d) in
          let z = trials.tries m s b f comp u g plan best i e h n in
          let c = trials.count_more m s b f comp u g plan best i e h n d in
          let q : eqb (counted_by e (moved b 1 i 0)) 0 ≡ false = ne_eqb (counted_by e (moved b 1 i 0)) 0 (λ z. omega arith) in
          record {
            end = r.end;
            run = rw d (step_then e (moved b 1 i 0) (on r.end None) n.sound (fits e n.size 1 refl)
                (rw (plan.after_trial_lem i (counted_by e (moved b 1 i 0)), q)
                (step_then (tried i e h n) (moved b 2 i 0) (on r.end None) z.sound (fits (tried i e h n) z.size 2 refl)
                (rw (plan.after_second_lem i (counted_by (tried i e h n) (moved b 2 i 0))) r.run))));
            narrow = r.narrow;
          }

  -- ---- the whole job
  pub record Ended : Type 0 where
    pub end : Machine
    pub run : Run (command b ∷ from_top b (bit g) b.a.width) (on m (Some b)) (on end None)
    pub narrow : Narrowed 0 end

  pub extreme_ends : Ended
  extreme_ends =
      let r = goes b.a.width (omega arith) (pulsed_by m b) (trials.opened m s b f comp u g plan best) in
      record {
        end = r.end;
        run = step_then m b (on r.end None) s plan.first_fits (rw (plan.after_opening (counted_by m b)) r.run);
        narrow = r.narrow;
      }
