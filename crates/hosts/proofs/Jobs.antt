-- A job over stops: whatever is stored, stopped and resumed, what stands is what the job's steps alone would have left.
-- Document 01, 'Jobs' and 'The image'. The theorem: `survives`.
use Prim.Native.Nat.{ℕ, zero, suc, ◌+◌, ◌-◌, ◌≤◌, ◌<◌}
use mathlib.Core.Path.{◌≡◌, refl, sym, ap, ◌∙◌}
use mathlib.Core.Logic.{⊎_elim}
use mathlib.Core.List.{List, [], ◌∷◌}
use native.Mathlib.Omega.{arith}
use lib.ListN.{length}
use Rattle.std.specs.Prelude.{Some, None, Ok}
use Rattle.laws.proofs.Digits.{tri}
use Rattle.machine.specs.Machine.{Machine}
use Rattle.machine.specs.Refusals.{◌else◌, machine_check, Check}
use Rattle.machine.proofs.Refusals.{sound, else_passed}
use Rattle.job_plans.specs.declared.Job.{Job}
use Rattle.job_plans.specs.declared.Command.{Command}
use Rattle.job_plans.specs.Places.{held_check, step_held_check, first}
use Rattle.job_plans.specs.Fields.{Held}
use Rattle.job_tally.specs.Totals.{pulses}
use Rattle.jobs.specs.Calls.{step_check, step_of}
use Rattle.jobs.specs.Runs.{State, stepped, steps}
use Rattle.ends.specs.Ends.{Accepted, begun, Gives, command_at, ended}
use Rattle.ends.proofs.Steps.{left, given_passed, held_given, steps_on, steps_last}
use Rattle.ends.proofs.Machines.{words_length}
use Rattle.ends.proofs.Ends.{course, not_over, stays_over}
use Rattle.image_layout.specs.Format.{image_of}
use Rattle.image.specs.Calls.{Stored}
use Rattle.hosts.specs.Images.{Stores, Resumes}
use Rattle.hosts.specs.Stops as stops
use Rattle.hosts.specs.Stops.{Kept, In, here, there, Worked, NothingLost}
use Rattle.hosts.proofs.Images.{job_check, stored_image, can_store, resumed_machine, can_resume, stored_then_resumed}
use Rattle.hosts.specs.Images.{Typed}
use Rattle.hosts.proofs.Typed.{first_fits, stepped_typed}

steps_typed : (k : ℕ) (s : State) → Typed s → Typed (steps k s)
unfolding steps
steps_typed zero s t = t
steps_typed (suc k) s t = steps_typed k (stepped s) (stepped_typed s t)

none_in : (i : Kept) (is : List Kept) → In i is → is ≡ [] → ⊥
none_in i [] p e = elim p [ ]
none_in i (j ∷ is) p e = let z : ◌≡◌ {A = ℕ} 0 1 = cc in absurd (omega arith)

-- ---- the steps that were given

record Counted (k given : ℕ) (images : List Kept) : Type 0 where
  pub fewer : k ≤ given
  pub kept : (i : Kept) → In i images → i.pulses ≤ given

-- no image has more pulses behind it than were given
counted : {b : State} {k given : ℕ} {s : State} {images : List Kept} → Worked b k given s images → Counted k given images
counted stops.begun = record { fewer = omega arith; kept = λ i p. absurd (none_in i [] p refl) }
counted (stops.gave w g) = let c = counted w in record { fewer = omega (arith, c.fewer); kept = λ i p. omega (arith, c.kept i p) }
counted (stops.stored {k} {given} {s} {images} {image = image} w h) = let c = counted w in record { fewer = c.fewer; kept = λ i p. among c i p }
  where
    among : Counted k given images → (i : Kept) → In i (record { image = image; pulses = k; given = given } ∷ images) → i.pulses ≤ given
    among c i here = c.fewer
    among c i (there p) = c.kept i p
counted (stops.resumed {i = i} w p r) = let c = counted w in record { fewer = c.kept i p; kept = c.kept }

-- where nothing was lost, every pulse given stands
record All (k given : ℕ) (images : List Kept) : Type 0 where
  pub all : k ≡ given
  pub kept : (i : Kept) → In i images → i.pulses ≡ i.given

kept_all : {b : State} {k given : ℕ} {s : State} {images : List Kept} (w : Worked b k given s images) → NothingLost w → All k given images
unfolding NothingLost
kept_all stops.begun n = record { all = refl; kept = λ i p. absurd (none_in i [] p refl) }
kept_all (stops.gave w g) n = let c = kept_all w n in record { all = ap suc c.all; kept = c.kept }
kept_all (stops.stored {k} {given} {s} {images} {image = image} w h) n = let c = kept_all w n in record { all = c.all; kept = λ i p. among c i p }
  where
    among : All k given images → (i : Kept) → In i (record { image = image; pulses = k; given = given } ∷ images) → i.pulses ≡ i.given
    among c i here = c.all
    among c i (there p) = c.kept i p
kept_all (stops.resumed {i = i} w p r) n = let c = kept_all w n.1 in record { all = c.kept i p ∙ n.0; kept = c.kept }

-- the one job that is held
pub alone_passed : (c : Check) → c ≡ Ok tt → (c else (Ok tt)) ≡ Ok tt
alone_passed c h = rw h

-- a machine and a job that a step does not turn down can be stored
fit_to_store : (n : ℕ) (h : Held) → step_held_check n h ≡ Ok tt → job_check n h ≡ Ok tt
fit_to_store n None e = refl
fit_to_store n (Some o) e = alone_passed (held_check n o) e

passed_stored : (s : State) → Typed s → step_check s.machine s.held ≡ Ok tt → Stored s
unfolding step_check
passed_stored s t h =
    let p = else_passed (machine_check s.machine) (step_held_check s.machine.width s.held) h in
    record {
      machine = p.0;
      jobs = fit_to_store s.machine.width s.held p.1;
      responses = t.responses;
      typed = t.job;
    }

module _ (m : Machine) (o : Job) (accepted : Accepted m o) (typed : Typed (record { machine = m; held = Some o })) where
  begun_typed : Typed (begun m o)
  begun_typed = record { responses = typed.responses; job = first_fits o typed.job.0 }

  -- what stands after k of the job's pulses
  abbrev standing : ℕ → State
  standing k = steps k (begun m o)

  -- it can be stored, up to the end and there too
  pub storable : (k : ℕ) → k ≤ pulses m (first o) → Stored (standing k)
  storable k h = ⊎_elim before (⊎_elim at_end (λ g. absurd (omega arith))) (tri k (pulses m (first o)))
    where
      typed_then : Typed (standing k)
      typed_then = steps_typed k (begun m o) begun_typed

      before : k < pulses m (first o) → Stored (standing k)
      before g = passed_stored (standing k) typed_then (given_passed (standing k) ((course m o accepted).gives k g))

      at_end : k ≡ pulses m (first o) → Stored (standing k)
      at_end e = record {
        machine = ap (λ (i : ℕ). machine_check (standing i).machine) e ∙ (course m o accepted).passes;
        jobs = ap (job_check (standing k).machine.width) (ap (λ (i : ℕ). (standing i).held) e ∙ (course m o accepted).over);
        responses = typed_then.responses;
        typed = typed_then.job;
      }

  -- no word is added or lost
  size_kept : (k : ℕ) → k ≤ pulses m (first o) → length (standing k).machine.words ≡ length m.words
  unfolding steps
  size_kept zero h = refl
  size_kept (suc k) h =
      ap (λ (z : State). length z.machine.words) (steps_last k (begun m o))
      ∙ ap (λ (z : Machine). length z.words) (let g = (course m o accepted).gives k (omega arith) in g.leaves ∙ left (standing k).machine _ _ g.accepted)
      ∙ words_length (standing k).machine (sound (standing k).machine (storable k (omega arith)).machine) _ _
      ∙ size_kept k (omega arith)

  -- ---- what every course of events keeps

  -- an image is the one of what stood after as many pulses as it says
  record Right (i : Kept) : Type 0 where
    pub few : i.pulses ≤ pulses m (first o)
    pub is : i.image ≡ image_of (standing i.pulses)

  record Stands (k : ℕ) (s : State) (images : List Kept) : Type 0 where
    pub few : k ≤ pulses m (first o)
    pub is : s ≡ standing k
    pub kept : (i : Kept) → In i images → Right i

  -- a step that is accepted is one of the stated pulses
  one_more : (k : ℕ) (s : State) (images : List Kept) {c : Command} {n : ℕ} {h : Held} → Stands k s images
      → step_of s.machine s.held ≡ Ok (record { command = c; count = n; held = h }) → Stands (suc k) (stepped s) images
  one_more k s images w g = record {
    few = ⊎_elim (λ l. omega arith) (⊎_elim over (λ l. absurd (omega (arith, w.few)))) (tri k (pulses m (first o)));
    is = ap stepped w.is ∙ sym (steps_last k (begun m o));
    kept = w.kept;
  }
    where
      over : k ≡ pulses m (first o) → suc k ≤ pulses m (first o)
      over e =
          absurd (held_given s.machine s.held g
          (ap (λ (z : State). z.held) w.is ∙ ap (λ (i : ℕ). (standing i).held) e ∙ (course m o accepted).over))

  image_kept : (k : ℕ) (s : State) (images : List Kept) {output : List ℕ} (image : List ℕ) → Stands k s images → Stores output s image
      → (given : ℕ) → Stands k s (record { image = image; pulses = k; given = given } ∷ images)
  image_kept k s images image w h given = record { few = w.few; is = w.is; kept = λ i p. among i p }
    where
      right : Right (record { image = image; pulses = k; given = given })
      right = record { few = w.few; is = (stored_image (rw w.is (steps_typed k (begun m o) begun_typed)) h).1 ∙ ap image_of w.is }

      among : (i : Kept) → In i (record { image = image; pulses = k; given = given } ∷ images) → Right i
      among i here = right
      among i (there p) = w.kept i p

  went_back : (k : ℕ) (s t : State) (images : List Kept) (i : Kept) {words responses : List ℕ} → Stands k s images → In i images
      → Resumes words responses i.image t
      → Stands i.pulses t images
  went_back k s t images i w p r =
      let h = w.kept i p in
      record {
        few = h.few;
        is = resumed_machine (standing i.pulses) (storable i.pulses h.few) (rw h.is at r);
        kept = w.kept;
      }

  stands : {k given : ℕ} {s : State} {images : List Kept} → Worked (begun m o) k given s images → Stands k s images
  unfolding steps
  stands stops.begun = record { few = omega arith; is = refl; kept = λ i p. absurd (none_in i [] p refl) }
  stands (stops.gave w g) = one_more _ _ _ (stands w) g
  stands (stops.stored w h) = image_kept _ _ _ _ (stands w) h _
  stands (stops.resumed w p r) = went_back _ _ _ _ _ (stands w) p r

  -- ---- one stop: stored after k pulses, resumed, and stepped on

  pub one_stop : (k more : ℕ) → k + more ≡ pulses m (first o) → {output words responses image : List ℕ} {t : State}
      → Stores output (standing k) image → Resumes words responses image t
      → ((j : ℕ) → j < more → (steps j t).held ≡ None → ⊥) × (steps more t ≡ record { machine = ended m o; held = None })
  one_stop k more e {t = t} w r =
      let same : t ≡ standing k = stored_then_resumed (steps_typed k (begun m o) begun_typed) w r in
      let on : (j : ℕ) → steps j t ≡ standing (k + j) = λ j. ap (steps j) same ∙ sym (steps_on k j (begun m o)) in
      let end : k + more ≡ pulses m (first o) + 0 = omega (arith, e) in (
        λ j l z. not_over m o accepted (k + j) (omega (arith, e, l)) (sym (ap (λ (z : State). z.held) (on j)) ∙ z),
        on more ∙ ap standing end ∙ stays_over m o accepted 0,
      )

  -- ---- the theorem: of any course of events, with any stops

  module _ {k given : ℕ} {s : State} {images : List Kept} (worked : Worked (begun m o) k given s images) where
    -- what stands is what the job's steps alone leave
    pub as_without_stops : s ≡ steps k (begun m o)
    as_without_stops = (stands worked).is

    -- no more pulses than stated
    pub never_more : k ≤ pulses m (first o)
    never_more = (stands worked).few

    -- the end comes after the stated number of pulses, and is the end without stops
    pub same_end : s.held ≡ None → (k ≡ pulses m (first o)) × (s.machine ≡ ended m o)
    same_end e =
        let w = stands worked in
        let c : k ≡ pulses m (first o) =
        ⊎_elim (λ l. absurd (not_over m o accepted k l (sym (ap (λ (z : State). z.held) w.is) ∙ e)))
        (⊎_elim (λ q. q) (λ l. absurd (omega (arith, w.few)))) (tri k (pulses m (first o))) in
        (c, ap (λ (z : State). z.machine) w.is ∙ ap (λ (i : ℕ). (steps i (begun m o)).machine) c)

    -- the steps that were really given are no fewer, and as many if no resume lost one
    pub no_fewer : s.held ≡ None → pulses m (first o) ≤ given
    no_fewer e = omega (arith, (counted worked).fewer, (same_end e).0)

    pub same_total : NothingLost worked → s.held ≡ None → given ≡ pulses m (first o)
    same_total n e = sym (kept_all worked n).all ∙ (same_end e).0

    -- before it a step is not refused
    pub goes_on : k < pulses m (first o) → Gives (command_at m (first o) k) s
    goes_on l = rw (stands worked).is ((course m o accepted).gives k l)

    -- the steps that are left lead to it
    pub rest_ends : steps (pulses m (first o) - k) s ≡ record { machine = ended m o; held = None }
    rest_ends =
        let w = stands worked in
        ap (steps (pulses m (first o) - k)) w.is
        ∙ sym (steps_on k (pulses m (first o) - k) (begun m o))
        ∙ ap (λ (i : ℕ). steps i (begun m o)) (omega (arith, w.few))
        ∙ stays_over m o accepted 0

    -- what stands can be stored in any output that is long enough
    pub can_be_stored : (output : List ℕ) → length (image_of s) ≤ length output → Stores output s (image_of s)
    can_be_stored = can_store s (rw (stands worked).is (storable k (stands worked).few))

    -- and any stored image can be resumed, into any destinations that are long enough
    pub can_be_resumed : (i : Kept) → In i images → (words responses : List ℕ) → length m.words ≤ length words → length m.words ≤ length responses
        → Resumes words responses i.image (steps i.pulses (begun m o))
    can_be_resumed i p words responses h g =
        let w = (stands worked).kept i p in
        let l = size_kept i.pulses w.few in
        rw w.is (can_resume (standing i.pulses) (storable i.pulses w.few) words responses (omega (arith, h, l)) (omega (arith, g, l)))
