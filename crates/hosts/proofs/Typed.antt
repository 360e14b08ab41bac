-- A pulse leaves responses in the responses, and a job's key, care and c stay what they are, or c is 0: what the types say holds after any calls.
use Prim.Native.Nat.{ℕ, zero, suc, ◌+◌, ◌^◌, ◌<◌}
use mathlib.Core.Bool.{Bool, true, false, ◌&&◌}
use mathlib.Core.List.{List, [], ◌∷◌}
use native.Mathlib.Omega.{arith}
use lib.Dec.{ltb, eqb}
use Rattle.std.specs.Prelude.{Some, None, Ok, Err}
use Rattle.laws.specs.Bits.{bit, pick}
use Rattle.laws.specs.Lists.{zip}
use Rattle.laws.proofs.Bits.{number_lt}
use Rattle.machine.specs.declared.Panel.{Panel}
use Rattle.machine.specs.declared.Lines.{Lines}
use Rattle.machine.specs.Machine.{Machine, response_bits, selected}
use Rattle.machine.specs.Search.{matches, marked}
use Rattle.machine.specs.Pulse.{flipped, response_after, pulsed}
use Rattle.machine.specs.Refusals.{Check}
use Rattle.job_plans.specs.declared.Job.{Job}
use Rattle.job_plans.specs.Fields.{Kind, greatest, smallest, scaledAdd, product, unknown, kind_of, Held}
use Rattle.job_plans.specs.Places.{first_for, first, moved, next_below, next_above, next_within, after_trial, after_second, next}
use Rattle.jobs.specs.Calls.{step_check, gave, step_of, machine_after, after_step, given_by}
use Rattle.jobs.specs.Runs.{State, held_after, stepped}
use Rattle.image_layout.specs.Sizes.{response_size}
use Rattle.image_layout.specs.Format.{held_jobs, AreResponses, JobFits, JobsFit}
use Rattle.hosts.specs.Images.{Typed}
use Rattle.hosts.proofs.Below.{bit_below, digit_below, flip_below, either_below}

-- ---- responses

response_stays : (n : ℕ) (p : Panel) (l : Lines) (k w r : ℕ) → r < 256 ^ response_size → response_after n p l k w r < 256 ^ response_size
unfolding response_after marked flipped
response_stays n p l k w r h =
    either_below l.search
    (number_lt response_bits _ (λ i g. either_below (eqb (bit p.target i) 1) (digit_below (matches n p w r)) (bit_below r i)))
    (either_below (l.complement && selected p.key p.care r)
    (number_lt response_bits _ (λ i g. either_below (eqb (bit p.target i) 1) (flip_below (bit_below r i)) (bit_below r i))) h)

zip_responses : (f : ℕ → ℕ → ℕ → ℕ) → ((k w r : ℕ) → r < 256 ^ response_size → f k w r < 256 ^ response_size) → (j : ℕ) (ws rs : List ℕ) → AreResponses rs → AreResponses (zip f j ws rs)
unfolding zip
zip_responses f h j [] rs b = tt
zip_responses f h j (w ∷ ws) [] b = tt
zip_responses f h j (w ∷ ws) (r ∷ rs) b = (h j w r b.0, zip_responses f h (suc j) ws rs b.1)

pub pulsed_responses : (m : Machine) (p : Panel) (l : Lines) → AreResponses m.responses → AreResponses (pulsed m p l).responses
unfolding pulsed
pulsed_responses m p l h = zip_responses (response_after m.width p l) (response_stays m.width p l) 0 m.words m.responses h

-- ---- the job

abbrev Fits : Held → Type 0
Fits h = JobsFit (held_jobs h)

pick_fits : (t : Bool) (h g : Held) → Fits h → Fits g → Fits (pick t h g)
pick_fits true h g a b = a
pick_fits false h g a b = b

module _ (o : Job) (h : JobFits o) where
  pub first_fits : Fits (Some (first o))
  unfolding first
  first_fits = (go (kind_of o.kind), tt)
    where
      go : (k : Kind) → JobFits (first_for k o)
      go greatest = (h.0, h.1, omega arith)
      go smallest = (h.0, h.1, omega arith)
      go scaledAdd = h
      go product = (h.0, h.1, omega arith)
      go unknown = h

  -- wherever it stands
  moved_fits : (phase i j : ℕ) → Fits (Some (moved o phase i j))
  moved_fits phase i j = (h, tt)

  below_fits : (i : ℕ) → Fits (next_below o i)
  below_fits zero = tt
  below_fits (suc i) = moved_fits 1 i 0

  above_fits : Fits (next_above o)
  above_fits =
      pick_fits (ltb (o.i + 1) o.a.width && ltb (o.i + 1) o.p.width) (Some (moved o 1 (o.i + 1) 0)) None (moved_fits 1 (o.i + 1) 0) tt

  within_fits : Fits (next_within o)
  within_fits =
      pick_fits (ltb (o.j + 1) o.b.width && ltb (o.i + (o.j + 1)) o.p.width) (Some (moved o 1 o.i (o.j + 1))) (next_above o)
      (moved_fits 1 o.i (o.j + 1)) above_fits

  trial_fits : (k : Kind) (n : ℕ) → Fits (after_trial k o n)
  trial_fits greatest n = pick_fits (eqb n 0) (next_below o o.i) (Some (moved o 2 o.i 0)) (below_fits o.i) (moved_fits 2 o.i 0)
  trial_fits smallest n = pick_fits (eqb n 0) (next_below o o.i) (Some (moved o 2 o.i 0)) (below_fits o.i) (moved_fits 2 o.i 0)
  trial_fits scaledAdd n = moved_fits 2 o.i o.j
  trial_fits product n = moved_fits 2 o.i o.j
  trial_fits unknown n = tt

  second_fits : (k : Kind) → Fits (after_second k o)
  second_fits greatest = below_fits o.i
  second_fits smallest = below_fits o.i
  second_fits scaledAdd = above_fits
  second_fits product = within_fits
  second_fits unknown = tt

  next_fits : (n : ℕ) → Fits (next o n)
  unfolding next
  next_fits n =
      let k = kind_of o.kind in
      pick_fits (eqb o.phase 0) (Some (moved o 1 o.i 0)) _ (moved_fits 1 o.i 0)
      (pick_fits (eqb o.phase 1) (after_trial k o n) (after_second k o) (trial_fits k n) (second_fits k))

-- ---- a step, accepted or refused

pub stepped_typed : (s : State) → Typed s → Typed (stepped s)
unfolding stepped after_step step_of
stepped_typed s t = go (step_check s.machine s.held) s.held t.job
  where
    after : Check → Held → State
    after c h = record { machine = machine_after (given_by c (gave s.machine h)) s.machine; held = held_after (given_by c (gave s.machine h)) h }

    go : (c : Check) (h : Held) → Fits h → Typed (after c h)
    go (Err r) h f = record { responses = t.responses; job = f }
    go (Ok tt) None f = record { responses = t.responses; job = f }
    go (Ok tt) (Some o) f = record { responses = pulsed_responses s.machine _ _ t.responses; job = next_fits o f.0 _ }
