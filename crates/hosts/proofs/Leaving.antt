-- Calls that are none of a round's: what they keep, and which of them leave X and F as they are.
use Prim.Native.Nat.{ℕ, ◌+◌, ◌-◌, ◌<◌}
use mathlib.Core.Path.{◌≡◌, refl, sym, ap, ◌∙◌}
use mathlib.Core.Bool.{Bool, true, false, ◌&&◌, ◌||◌}
use native.Mathlib.Omega.{arith}
use lib.Dec.{eqb, ltb}
use lib.ListN.{length}
use borrow.Author.Tests.{eqb-true}
use Rattle.std.specs.Prelude.{Some, Result, Ok, Err}
use Rattle.laws.specs.Bits.{bit, pick, digit}
use Rattle.laws.proofs.Bits.{bit_none, number_bit, and_left}
use Rattle.machine.specs.declared.Panel.{Panel}
use Rattle.machine.specs.declared.Lines.{Lines}
use Rattle.machine.specs.declared.ResponseBit.{ResponseBit}
use Rattle.machine.specs.Machine.{Machine, response_bits, selected}
use Rattle.machine.specs.Search.{matches, marked}
use Rattle.machine.specs.Pulse.{flipped, response_after, pulsed}
use Rattle.machine.specs.Refusals.{machine_check, pulse_check, change_by, after, Check}
use Rattle.machine.proofs.Refusals.{sound, clean, else_passed}
use Rattle.machine.specs.declared.Refusal.{Refusal}
use Rattle.rounds.specs.Handout.{response}
use Rattle.rounds.proofs.Marks.{mask_else}
use Rattle.rounds.specs.Round.{Fit}
use Rattle.job_plans.specs.declared.Command.{Command}
use Rattle.job_plans.specs.declared.Job.{Job}
use Rattle.job_plans.specs.Fields.{Kind, greatest, smallest, scaledAdd, product, unknown, kind_of, Held}
use Rattle.job_plans.specs.Places.{at_place, in_table_for, in_table, held_check}
use Rattle.job_plans.proofs.Fair.{fair}
use Rattle.job_plans.specs.Commands.{opening, trial, second, command}
use Rattle.jobs.specs.Calls.{step_check, gave, step_of, machine_after, after_step, given_by}
use Rattle.jobs.specs.Runs.{State, stepped}
use Rattle.jobs.specs.declared.Stepped.{Stepped}
use Rattle.ends.proofs.Machines.{passes, same, response_at, responses_length}
use Rattle.ends.proofs.Starts.{accepted_is}
use Rattle.hosts.specs.Rounds as events
use Rattle.hosts.specs.Rounds.{Looks, Other, Leaves, ApartFor, Apart}
use Rattle.hosts.specs.Images.{Typed}
use Rattle.hosts.proofs.Typed.{pulsed_responses, first_fits, stepped_typed}
use Rattle.hosts.proofs.Fits.{pulsed_passes}
use Rattle.hosts.proofs.Elsewhere.{one_answer, whole_answers, answers_pass, answers_responses}
use Rattle.hosts.proofs.Below.{bit_below, digit_below, flip_below, either_below}

-- ---- the machine that each leaves

pub accepted_pulse : (m : Machine) (p : Panel) (l : Lines) → pulse_check m p l ≡ Ok tt → after m p l ≡ pulsed m p l
unfolding after
accepted_pulse m p l h = ap (λ (c : Check). change_by c (pulsed m p l) m) h

pub accepted_step : (s : State) {k : Command} {c : ℕ} {h : Held} → step_of s.machine s.held ≡ Ok (record { command = k; count = c; held = h })
    → (stepped s).machine ≡ pulsed s.machine k.panel k.lines
unfolding stepped after_step
accepted_step s e = ap (λ (a : Result Stepped Refusal). machine_after a s.machine) e

-- a call that only looks changes nothing of the machine
pub looks_nothing : {s t : State} → Looks s t → t.machine ≡ s.machine
looks_nothing (events.shows_word y e) = refl
looks_nothing (events.resolves key care e) = refl
looks_nothing (events.totals e) = refl
looks_nothing (events.starts o c e) = refl
looks_nothing (events.writes output e) = refl
looks_nothing (events.loads before after) = refl

looks_typed : {s t : State} → Looks s t → Typed s → Typed t
looks_typed (events.shows_word y e) t = t
looks_typed (events.resolves key care e) t = t
looks_typed (events.totals e) t = t
looks_typed (events.starts {s} {q} o c a) t =
    record { responses = t.responses; job = rw (accepted_is s.machine s.held o q a).1 (first_fits o c) }
looks_typed (events.writes output e) t = t
looks_typed (events.loads before after) t = t

pub other_passes : {s t : State} → Other s t → machine_check s.machine ≡ Ok tt → machine_check t.machine ≡ Ok tt
other_passes (events.looks l) h = rw (looks_nothing l) h
other_passes (events.pulses {s} p l a) h = rw (accepted_pulse s.machine p l a) (pulsed_passes s.machine p l h)
other_passes (events.steps {s} {k} a) h = rw (accepted_step s a) (pulsed_passes s.machine k.panel k.lines h)
other_passes (events.answers_word {s} y g k v a) h = answers_pass (one_answer y g k v s.machine a) h
other_passes (events.works_round {s} y g vs a) h = answers_pass (whole_answers y g vs s.machine a) h

pub other_typed : {s t : State} → Other s t → Typed s → Typed t
other_typed (events.looks l) t = looks_typed l t
other_typed (events.pulses {s} p l a) t =
    record { responses = rw (accepted_pulse s.machine p l a) (pulsed_responses s.machine p l t.responses); job = t.job }
other_typed (events.steps {s} a) t = stepped_typed s t
other_typed (events.answers_word {s} y g k v a) t =
    record { responses = answers_responses (one_answer y g k v s.machine a) t.responses; job = t.job }
other_typed (events.works_round {s} y g vs a) t =
    record { responses = answers_responses (whole_answers y g vs s.machine a) t.responses; job = t.job }

-- ---- pulses

-- a response bit that the target does not have
untouched : (n : ℕ) (p : Panel) (l : Lines) (k w r i : ℕ) → i < response_bits → bit p.target i ≡ 0 → bit (response_after n p l k w r) i ≡ bit r i
unfolding response_after marked flipped
untouched n p l k w r i h e = go l.search (l.complement && selected p.key p.care r)
  where
    search_at : bit (marked p.target (matches n p w r) r) i ≡ bit r i
    search_at =
        number_bit response_bits _ (λ j g. either_below (eqb (bit p.target j) 1) (digit_below (matches n p w r)) (bit_below r j)) i h
        ∙ ap (λ (t : ℕ). pick (eqb t 1) (digit (matches n p w r)) (bit r i)) e

    flip_at : bit (flipped p.target r) i ≡ bit r i
    flip_at =
        number_bit response_bits _ (λ j g. either_below (eqb (bit p.target j) 1) (flip_below (bit_below r j)) (bit_below r j)) i h
        ∙ ap (λ (t : ℕ). pick (eqb t 1) (1 - bit r i) (bit r i)) e

    go : (s c : Bool) → bit (pick s (marked p.target (matches n p w r) r) (pick c (flipped p.target r) r)) i ≡ bit r i
    go true c = search_at
    go false true = flip_at
    go false false = refl

-- neither search nor complement: no response changes
quiet : (n : ℕ) (p : Panel) (l : Lines) (k w r : ℕ) → l.search ≡ false → l.complement ≡ false → response_after n p l k w r ≡ r
unfolding response_after
quiet n p l k w r e g = rw (e, g)

-- bit i of each response is as it was, if the pulse's rule says so
module _ (m : Machine) (p : Panel) (l : Lines) (h : machine_check m ≡ Ok tt) where
  kept_bit : (i : ℕ) → ((k w r : ℕ) → bit (response_after m.width p l k w r) i ≡ bit r i)
      → (k : ℕ) → k < length m.responses → bit (response (pulsed m p l) k) i ≡ bit (response m k) i
  kept_bit i f k g =
      let s = sound m h in
      ap (λ (r : ℕ). bit r i) (response_at m s p l k (omega (arith, g, same m s))) ∙ f k _ (response m k)

  kept_by_rule : (x f : ResponseBit) → ((k w r : ℕ) → bit (response_after m.width p l k w r) x.0 ≡ bit r x.0)
      → ((k w r : ℕ) → bit (response_after m.width p l k w r) f.0 ≡ bit r f.0) → Leaves x f m (pulsed m p l)
  kept_by_rule x f a b = let s = sound m h in
      record { count = responses_length m s p l ∙ sym (same m s); mark = kept_bit x.0 a; fault = kept_bit f.0 b }

  pub spared : (x f : ResponseBit) → Fit x f → bit p.target x.0 ≡ 0 → bit p.target f.0 ≡ 0 → Leaves x f m (pulsed m p l)
  spared x f fit a b =
      kept_by_rule x f (λ k w r. untouched m.width p l k w r x.0 fit.mark a) (λ k w r. untouched m.width p l k w r f.0 fit.fault b)

  silent : (x f : ResponseBit) → l.search ≡ false → l.complement ≡ false → Leaves x f m (pulsed m p l)
  silent x f a b =
      kept_by_rule x f (λ k w r. ap (λ (z : ℕ). bit z x.0) (quiet m.width p l k w r a b))
      (λ k w r. ap (λ (z : ℕ). bit z f.0) (quiet m.width p l k w r a b))

module _ (x f : ResponseBit) (m : Machine) (p : Panel) (l : Lines) (accepted : pulse_check m p l ≡ Ok tt) where
  machine_fine : machine_check m ≡ Ok tt
  machine_fine = passes m (clean m p l accepted).sound

  -- an accepted pulse whose target has neither bit, or that raises neither search nor complement
  pub target_spares : Fit x f → bit p.target x.0 ≡ 0 → bit p.target f.0 ≡ 0 → Leaves x f m (after m p l)
  target_spares fit a b = rw (accepted_pulse m p l accepted) (spared m p l machine_fine x f fit a b)

  pub lines_spare : l.search ≡ false → l.complement ≡ false → Leaves x f m (after m p l)
  lines_spare a b = rw (accepted_pulse m p l accepted) (silent m p l machine_fine x f a b)

-- nothing changes
pub all_left : (x f : ResponseBit) (m : Machine) → Leaves x f m m
all_left x f m = record { count = refl; mark = λ k h. refl; fault = λ k h. refl }

pub looks_leave : (x f : ResponseBit) {s t : State} → Looks s t → Leaves x f s.machine t.machine
looks_leave x f {s} l = rw (looks_nothing l) (all_left x f s.machine)

-- ---- steps: each command's target is a working bit of the job, or none

module _ (o : Job) (b : ResponseBit) where
  picked : (t : Bool) (c d : Command) → bit c.panel.target b.0 ≡ 0 → bit d.panel.target b.0 ≡ 0 → bit (pick t c d).panel.target b.0 ≡ 0
  picked true c d h g = h
  picked false c d h g = g

  trial_spares : (k : Kind) → ApartFor k o b → bit (trial k o).panel.target b.0 ≡ 0
  trial_spares greatest h = mask_else o.y.0 b.0 h.1
  trial_spares smallest h = mask_else o.y.0 b.0 h.1
  trial_spares scaledAdd h = mask_else o.y.0 b.0 h
  trial_spares product h = mask_else o.y.0 b.0 h
  trial_spares unknown h = absurd h

  second_spares : (k : Kind) → ApartFor k o b → bit (second k o).panel.target b.0 ≡ 0
  second_spares greatest h = mask_else o.x.0 b.0 h.0
  second_spares smallest h = mask_else o.x.0 b.0 h.0
  second_spares scaledAdd h = bit_none b.0
  second_spares product h = bit_none b.0
  second_spares unknown h = absurd h

  -- phase 0 is for extremes only
  command_spares : in_table o ≡ true → Apart o b → bit (command o).panel.target b.0 ≡ 0
  unfolding command in_table
  command_spares t h = go (kind_of o.kind) t h (eqb o.phase 0) refl
    where
      later : (k : Kind) → ApartFor k o b → bit (pick (eqb o.phase 1) (trial k o) (second k o)).panel.target b.0 ≡ 0
      later k h = picked (eqb o.phase 1) (trial k o) (second k o) (trial_spares k h) (second_spares k h)

      not_open : at_place o ≡ true → eqb o.phase 0 ≡ true → ⊥
      not_open e z =
          let n : false ≡ true = sym (ap (λ (i : ℕ). eqb i 1 || eqb i 2) (eqb-true o.phase 0 z)) ∙ e in
          let q : ◌≡◌ {A = ℕ} 0 1 = cc in absurd (omega arith)

      go : (k : Kind) → in_table_for k o ≡ true → ApartFor k o b → (u : Bool) → eqb o.phase 0 ≡ u
          → bit (pick u (opening o) (pick (eqb o.phase 1) (trial k o) (second k o))).panel.target b.0 ≡ 0
      go k t h false e = later k h
      go greatest t h true e = mask_else o.x.0 b.0 h.0
      go smallest t h true e = mask_else o.x.0 b.0 h.0
      go scaledAdd t h true e =
          absurd (not_open (and_left (at_place o) (ltb o.i o.a.width) (and_left (at_place o && ltb o.i o.a.width) (ltb o.i o.p.width) t)) e)
      go product t h true e =
          let one = at_place o && ltb o.i o.a.width in
          let two = one && ltb o.j o.b.width in
          absurd (not_open (and_left (at_place o) (ltb o.i o.a.width) (and_left one (ltb o.j o.b.width) (and_left two (ltb (o.i + o.j) o.p.width) t))) e)
      go unknown t h true e = absurd h

-- an accepted step of a job that works on neither bit
step_command : (m : Machine) (o : Job) (x f : ResponseBit) → Fit x f → step_check m (Some o) ≡ Ok tt → Apart o x → Apart o f
    → Leaves x f m (pulsed m (command o).panel (command o).lines)
unfolding step_check in_table
step_command m o x f fit h a b =
    let p = else_passed (machine_check m) (held_check m.width o) h in
    let t : in_table o ≡ true = (fair m.width o p.1).place in
    spared m (command o).panel (command o).lines p.0 x f fit (command_spares o x t a) (command_spares o f t b)

pub step_spares : (x f : ResponseBit) → Fit x f → (s : State) (o : Job) → s.held ≡ Some o → Apart o x → Apart o f → {k : Command} {c : ℕ} {h : Held}
    → step_of s.machine s.held ≡ Ok (record { command = k; count = c; held = h }) → Leaves x f s.machine (stepped s).machine
unfolding stepped after_step step_of
step_spares x f fit s o e a b {k} {c} {h} g = rw e (go (step_check s.machine (Some o)) refl (ap (λ (h : Held). given_by (step_check s.machine h) (gave s.machine h)) (sym e) ∙ g))
  where
    go : (d : Check) → step_check s.machine (Some o) ≡ d → given_by d (gave s.machine (Some o)) ≡ Ok (record { command = k; count = c; held = h })
        → Leaves x f s.machine (machine_after (given_by d (gave s.machine (Some o))) s.machine)
    go (Ok tt) q r = step_command s.machine o x f fit q a b
    go (Err w) q r = all_left x f s.machine
