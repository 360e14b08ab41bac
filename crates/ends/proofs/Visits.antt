-- An adding job visits its places in order: at each a trial search and a multiadd, and then it is over.
use Prim.Native.Nat.{ℕ, ◌+◌, ◌*◌, ◌^◌, ◌<◌}
use mathlib.Core.Path.{◌≡◌, refl, ap₂, ◌∙◌}
use mathlib.Core.Bool.{Bool}
use mathlib.Core.List.{List, [], ◌∷◌}
use Rattle.std.specs.Prelude.{Ok, Some, None}
use Rattle.laws.specs.Bits.{bit, digit}
use Rattle.machine.specs.Machine.{Machine}
use Rattle.machine.proofs.Refusals.{Sound}
use Rattle.job_plans.specs.Fields.{Held}
use Rattle.job_plans.specs.declared.Job.{Job}
use Rattle.job_plans.specs.Places.{held_check, moved, next}
use Rattle.job_plans.specs.declared.Command.{Command}
use Rattle.job_plans.specs.Commands.{command, look, plus}
use Rattle.ends.specs.Ends.{Outside, Adds}
use Rattle.ends.proofs.Agreeing.{agrees}
use Rattle.ends.proofs.Machines.{width_is}
use Rattle.ends.proofs.Steps.{on, pulsed_by, counted_by, Run, stay, step_then}
use Rattle.ends.proofs.Fields.{Inside, Working}
use Rattle.ends.proofs.Passing.{adds_none, adds_both, sound₁, sound₂, gate_adds}

-- a place, the bits that its search wants to be 1, whether a word has them, and what is then added to P
pub record Stop : Type 0 where
  pub i : ℕ
  pub j : ℕ
  pub mask : ℕ
  pub opens : ℕ → Bool
  pub value : ℕ

-- what the stops whose gate is open add to a word's P
unfoldable pub total : List Stop → ℕ → ℕ
total [] w = 0
total (q ∷ qs) w = digit (q.opens w) * q.value + total qs w

-- the job held before the first of these stops
abbrev pub start : Job → List Stop → Held
start b [] = None
start b (q ∷ qs) = Some (moved b 1 q.i q.j)

-- the place is one of the job's, with these commands; P has none of the bits that are searched for
pub record Good (n : ℕ) (b : Job) (q : Stop) : Type 0 where
  pub tried : command (moved b 1 q.i q.j) ≡ look b.key b.care b.y q.mask q.mask
  pub adds : command (moved b 2 q.i q.j) ≡ plus b.y b.p q.value
  pub onward : (c : ℕ) → next (moved b 1 q.i q.j) c ≡ Some (moved b 2 q.i q.j)
  pub first_fits : held_check n (moved b 1 q.i q.j) ≡ Ok tt
  pub second_fits : held_check n (moved b 2 q.i q.j) ≡ Ok tt
  pub small : q.value < 2 ^ b.p.width
  pub found : (w : ℕ) → agrees n q.mask w q.mask ≡ q.opens w
  pub kept : (w x : ℕ) → ((i : ℕ) → Outside b.p i → bit x i ≡ bit w i) → q.opens x ≡ q.opens w

-- the stops follow one another in the job's order
abbrev pub Route : ℕ → Job → List Stop → Type 0
Route n b [] = Unit {0}
Route n b (q ∷ qs) = Good n b q × ((c : ℕ) → next (moved b 2 q.i q.j) c ≡ start b qs) × Route n b qs

total_kept : (n : ℕ) (b : Job) (qs : List Stop) → Route n b qs → (w x : ℕ) → ((i : ℕ) → Outside b.p i → bit x i ≡ bit w i) → total qs x ≡ total qs w
unfolding total
total_kept n b [] r w x h = refl
total_kept n b (q ∷ qs) r w x h =
    ap₂ (λ (t : Bool) (u : ℕ). digit t * q.value + u) (r.0.kept w x h) (total_kept n b qs r.2 w x h)

-- both commands of each stop
unfoldable pub both : Job → List Stop → List Command
both b [] = []
both b (q ∷ qs) = command (moved b 1 q.i q.j) ∷ command (moved b 2 q.i q.j) ∷ both b qs

-- two pulses for each stop: none is refused, the last leaves no job held, and each word's P gains what its open gates add
pub record Visited (b : Job) (qs : List Stop) (m : Machine) : Type 0 where
  pub end : Machine
  pub run : Run (both b qs) (on m (start b qs)) (on end None)
  pub sound : Sound end
  pub adds : Adds b (total qs) m end

module _ (b : Job) (y_works : Working b.care b.y) where
  -- what the two pulses of one stop leave
  abbrev after₁ : Machine → Stop → Machine
  after₁ m q = pulsed_by m (moved b 1 q.i q.j)

  abbrev after₂ : Machine → Stop → Machine
  after₂ m q = pulsed_by (after₁ m q) (moved b 2 q.i q.j)

  pub record Stopped (m : Machine) (q : Stop) : Type 0 where
    pub sound₁ : Sound (after₁ m q)
    pub sound₂ : Sound (after₂ m q)
    pub width₁ : (after₁ m q).width ≡ m.width
    pub adds : Adds b (λ w. digit (q.opens w) * q.value) m (after₂ m q)

  stopped : (m : Machine) (q : Stop) → Sound m → Inside m.width b.p → Good m.width b q → Stopped m q
  stopped m q s p g = record {
    sound₁ = rw g.tried (sound₁ b m s y_works p q.mask q.value q.opens g.small g.found);
    sound₂ = rw (g.adds, g.tried) (sound₂ b m s y_works p q.mask q.value q.opens g.small g.found);
    width₁ = width_is m s _ _;
    adds = rw (g.adds, g.tried) (gate_adds b m s y_works p q.mask q.value q.opens g.small g.found);
  }

  pub visits : (n : ℕ) → Inside n b.p → (qs : List Stop) → Route n b qs → (m : Machine) → Sound m → m.width ≡ n → Visited b qs m
  unfolding total both
  visits n p [] r m s e = record { end = m; run = stay; sound = s; adds = adds_none b y_works m }
  visits n p (q ∷ qs) r m s e =
      let g : Good m.width b q = rw e r.0 in
      let z = stopped m q s (rw e p) g in
      let w₂ : (after₂ m q).width ≡ n = z.adds.size.width ∙ e in
      let v = visits n p qs r.2 (after₂ m q) z.sound₂ w₂ in
      let second : held_check (after₁ m q).width (moved b 2 q.i q.j) ≡ Ok tt = rw (z.width₁, e) r.0.second_fits in
      record {
        end = v.end;
        run = step_then m (moved b 1 q.i q.j) (on v.end None) s g.first_fits
            (rw (r.0.onward (counted_by m (moved b 1 q.i q.j)))
            (step_then (after₁ m q) (moved b 2 q.i q.j) (on v.end None) z.sound₁ second
            (rw (r.1 (counted_by (after₁ m q) (moved b 2 q.i q.j))) v.run)));
        sound = v.sound;
        adds = adds_both b y_works _ (total qs) m (after₂ m q) v.end (total_kept n b qs r.2) z.adds v.adds;
      }
