-- A held job that is in order stays so after each step, whatever the count: so what stands after any accepted calls can be stored.
-- Document 02, request d, 25: "unknown kind or place, unused field not 0".
use Prim.Native.Nat.{ℕ, zero, suc, ◌+◌, ◌<◌}
use mathlib.Core.Path.{◌≡◌, refl, sym, ap, ◌∙◌}
use mathlib.Core.Bool.{Bool, true, false, not, ◌&&◌, ◌||◌}
use native.Mathlib.Omega.{arith}
use lib.Dec.{ltb, eqb}
use borrow.Author.Tests.{eqb-true, ltb-true, lt-ltb}
use Rattle.std.specs.Prelude.{Some, None, Ok, Err}
use Rattle.laws.specs.Bits.{pick}
use Rattle.laws.proofs.Bits.{and_left, and_right}
use Rattle.machine.specs.Refusals.{◌else◌, refuse, Check}
use Rattle.machine.proofs.Refusals.{else_passed}
use Rattle.machine.specs.declared.Panel.{Panel}
use Rattle.machine.specs.declared.Lines.{Lines}
use Rattle.machine.specs.declared.Refusal.{Refusal}
use Rattle.machine.specs.Machine.{Machine}
use Rattle.machine.specs.Pulse.{pulsed}
use Rattle.job_plans.specs.declared.Job.{Job}
use Rattle.job_plans.specs.Fields.{Kind, greatest, smallest, scaledAdd, product, unknown, kind_of, extreme_check, scaled_add_check, product_check, used_check_for, used_check, is_zero, unused_zero_for, unused_zero, Held}
use Rattle.job_plans.specs.Places.{at_place, in_table_for, in_table, held_check, moved, next_below, next_above, next_within, after_trial, after_second, next}
use Rattle.job_plans.proofs.Fair.{Fair, fair}
use Rattle.job_plans.specs.declared.Command.{Command}
use Rattle.jobs.specs.Calls.{start_of, step_check, gave, step_of, given_by}
use Rattle.jobs.specs.Runs.{State, held_after, stepped, steps}
use Rattle.ends.specs.Ends.{Accepted}
use Rattle.ends.proofs.Starts.{accepted_is}
use Rattle.image_layout.specs.Format.{AreResponses, JobFits}
use Rattle.hosts.specs.Rounds as events
use Rattle.hosts.specs.Rounds.{Looks, Other}
use Rattle.hosts.specs.Images.{Typed}
use Rattle.hosts.proofs.Elsewhere.{one_answer, whole_answers, answers_width}
use Rattle.hosts.proofs.Leaving.{accepted_pulse, accepted_step}
use Rattle.hosts.proofs.Images.{job_check}
use Rattle.hosts.proofs.Jobs.{alone_passed, storable}

-- ---- bools

or_cases : (a b c : Bool) → (a || b) ≡ true → (a ≡ true → c ≡ true) → (b ≡ true → c ≡ true) → c ≡ true
or_cases true b c h f g = f refl
or_cases false b c h f g = g h

both : (a b : Bool) → a ≡ true → b ≡ true → (a && b) ≡ true
both true b h g = g
both false b h g = h

or_right : (a b : Bool) → b ≡ true → (a || b) ≡ true
or_right true b h = refl
or_right false b h = h

all_right : (c : Check) (r s : Refusal) (a b : Bool) → c ≡ Ok tt → a ≡ true → b ≡ true → (c else refuse r (not a) else refuse s (not b)) ≡ Ok tt
all_right c r s a b h g k = rw (h, g, k)

pulsed_width : (m : Machine) (p : Panel) (l : Lines) → (pulsed m p l).width ≡ m.width
unfolding pulsed
pulsed_width m p l = refl

module _ (n : ℕ) (o : Job) where
  used_same : (k : Kind) (phase i j : ℕ) → used_check_for k n (moved o phase i j) ≡ used_check_for k n o
  unfolding extreme_check scaled_add_check product_check
  used_same greatest phase i j = refl
  used_same smallest phase i j = refl
  used_same scaledAdd phase i j = refl
  used_same product phase i j = refl
  used_same unknown phase i j = refl

  -- in order at another place, where the unused fields and the place are right there too
  good : (k : Kind) → kind_of o.kind ≡ k → used_check_for k n o ≡ Ok tt → (phase i j : ℕ) → unused_zero_for k (moved o phase i j) ≡ true
      → in_table_for k (moved o phase i j) ≡ true → job_check n (Some (moved o phase i j)) ≡ Ok tt
  unfolding held_check used_check unused_zero in_table
  good k e u phase i j z t =
      let q = moved o phase i j in
      alone_passed _
      (all_right (used_check n q) _ _ (unused_zero q) (in_table q) (ap (λ (k : Kind). used_check_for k n q) e ∙ used_same k phase i j ∙ u)
      (ap (λ (k : Kind). unused_zero_for k q) e ∙ z) (ap (λ (k : Kind). in_table_for k q) e ∙ t))

  picked : (t : Bool) (h g : Held) → (t ≡ true → job_check n h ≡ Ok tt) → job_check n g ≡ Ok tt → job_check n (pick t h g) ≡ Ok tt
  picked true h g a b = a refl
  picked false h g a b = b

  -- ---- extremes

  module _ (k : Kind) (e : kind_of o.kind ≡ k) (f : Fair n o k)
      (zeros : (phase i : ℕ) → unused_zero_for k (moved o phase i 0) ≡ true)
      (at : (phase i : ℕ) → (eqb phase 1 || eqb phase 2) ≡ true → i < o.a.width → in_table_for k (moved o phase i 0) ≡ true) (small : o.i < o.a.width) where
    moves : (phase i : ℕ) → (eqb phase 1 || eqb phase 2) ≡ true → i < o.a.width → job_check n (Some (moved o phase i 0)) ≡ Ok tt
    moves phase i p l = good k e f.used phase i 0 (zeros phase i) (at phase i p l)

    below : (i : ℕ) → i ≡ o.i → job_check n (next_below o i) ≡ Ok tt
    below zero h = refl
    below (suc i) h = moves 1 i refl (omega arith)

    extreme_next : (c : ℕ) → job_check n (pick (eqb o.phase 0) (Some (moved o 1 o.i 0))
        (pick (eqb o.phase 1) (pick (eqb c 0) (next_below o o.i) (Some (moved o 2 o.i 0))) (next_below o o.i))) ≡ Ok tt
    extreme_next c =
        picked (eqb o.phase 0) _ _ (λ q. moves 1 o.i refl small)
        (picked (eqb o.phase 1) _ _ (λ q. picked (eqb c 0) (next_below o o.i) (Some (moved o 2 o.i 0)) (λ z. below o.i refl) (moves 2 o.i refl small)) (below o.i refl))

  -- what is known of an extreme at its place
  extreme_small : ((eqb o.phase 0 && eqb (o.i + 1) o.a.width) || (at_place o && ltb o.i o.a.width)) ≡ true → o.i < o.a.width
  extreme_small h =
      ltb-true o.i o.a.width
      (or_cases (eqb o.phase 0 && eqb (o.i + 1) o.a.width) (at_place o && ltb o.i o.a.width) (ltb o.i o.a.width) h
      (λ q. let e = eqb-true (o.i + 1) o.a.width (and_right (eqb o.phase 0) (eqb (o.i + 1) o.a.width) q) in lt-ltb o.i o.a.width (omega (arith, e)))
      (λ q. and_right (at_place o) (ltb o.i o.a.width) q))

  extreme_zeros : ((is_zero o.b && is_zero o.p) && eqb o.j 0) && eqb o.c 0 ≡ true → is_zero o.b && is_zero o.p && eqb 0 0 && eqb o.c 0 ≡ true
  extreme_zeros z =
      let spans = is_zero o.b && is_zero o.p in
      let e : o.j ≡ 0 = eqb-true o.j 0 (and_right spans (eqb o.j 0) (and_left (spans && eqb o.j 0) (eqb o.c 0) z)) in
      ap (λ (j : ℕ). spans && eqb j 0 && eqb o.c 0) (sym e) ∙ z

  extreme_at : (phase i : ℕ) → (eqb phase 1 || eqb phase 2) ≡ true → i < o.a.width
      → (eqb phase 0 && eqb (i + 1) o.a.width || (eqb phase 1 || eqb phase 2) && ltb i o.a.width) ≡ true
  extreme_at phase i p l =
      or_right (eqb phase 0 && eqb (i + 1) o.a.width) ((eqb phase 1 || eqb phase 2) && ltb i o.a.width) (both _ _ p (lt-ltb i o.a.width l))

  -- ---- the adding kinds

  module _ (e : kind_of o.kind ≡ scaledAdd) (f : Fair n o scaledAdd) where
    scaled_zeros : (phase i : ℕ) → unused_zero_for scaledAdd (moved o phase i 0) ≡ true
    scaled_zeros phase i =
        let rest = eqb o.x.0 0 && is_zero o.b in
        let z : o.j ≡ 0 = eqb-true o.j 0 (and_right rest (eqb o.j 0) f.zero) in ap (λ (j : ℕ). rest && eqb j 0) (sym z) ∙ f.zero

    in_a : ltb o.i o.a.width ≡ true
    in_a = and_right (at_place o) (ltb o.i o.a.width) (and_left (at_place o && ltb o.i o.a.width) (ltb o.i o.p.width) f.place)

    in_p : ltb o.i o.p.width ≡ true
    in_p = and_right (at_place o && ltb o.i o.a.width) (ltb o.i o.p.width) f.place

    scaled_moves : (phase i j : ℕ) → (eqb phase 1 || eqb phase 2) ≡ true → unused_zero_for scaledAdd (moved o phase i j) ≡ true
        → ltb i o.a.width ≡ true → ltb i o.p.width ≡ true → job_check n (Some (moved o phase i j)) ≡ Ok tt
    scaled_moves phase i j p z a b = good scaledAdd e f.used phase i j z (both _ _ (both _ _ p a) b)

    scaled_next : job_check n (pick (eqb o.phase 0) (Some (moved o 1 o.i 0)) (pick (eqb o.phase 1) (Some (moved o 2 o.i o.j)) (next_above o))) ≡ Ok tt
    scaled_next =
        let more = ltb (o.i + 1) o.a.width && ltb (o.i + 1) o.p.width in
        picked (eqb o.phase 0) _ _ (λ q. scaled_moves 1 o.i 0 refl (scaled_zeros 1 o.i) in_a in_p)
        (picked (eqb o.phase 1) _ _ (λ q. scaled_moves 2 o.i o.j refl f.zero in_a in_p)
        (picked more _ None
        (λ q. scaled_moves 1 (o.i + 1) 0 refl (scaled_zeros 1 (o.i + 1)) (and_left (ltb (o.i + 1) o.a.width) (ltb (o.i + 1) o.p.width) q) (and_right (ltb (o.i + 1) o.a.width) (ltb (o.i + 1) o.p.width) q))
        refl))

  module _ (e : kind_of o.kind ≡ product) (f : Fair n o product) where
    abbrev at_i : Bool
    at_i = at_place o && ltb o.i o.a.width

    i_in_a : o.i < o.a.width
    i_in_a =
        ltb-true o.i o.a.width
        (and_right (at_place o) (ltb o.i o.a.width)
        (and_left at_i (ltb o.j o.b.width) (and_left (at_i && ltb o.j o.b.width) (ltb (o.i + o.j) o.p.width) f.place)))

    j_in_b : o.j < o.b.width
    j_in_b =
        ltb-true o.j o.b.width
        (and_right at_i (ltb o.j o.b.width) (and_left (at_i && ltb o.j o.b.width) (ltb (o.i + o.j) o.p.width) f.place))

    sum_in_p : o.i + o.j < o.p.width
    sum_in_p = ltb-true (o.i + o.j) o.p.width (and_right (at_i && ltb o.j o.b.width) (ltb (o.i + o.j) o.p.width) f.place)

    product_moves : (phase i j : ℕ) → (eqb phase 1 || eqb phase 2) ≡ true → i < o.a.width → j < o.b.width → i + j < o.p.width
        → job_check n (Some (moved o phase i j)) ≡ Ok tt
    product_moves phase i j p a b c =
        good product e f.used phase i j f.zero
        (both _ _ (both _ _ (both _ _ p (lt-ltb i o.a.width a)) (lt-ltb j o.b.width b)) (lt-ltb (i + j) o.p.width c))

    product_next : job_check n (pick (eqb o.phase 0) (Some (moved o 1 o.i 0)) (pick (eqb o.phase 1) (Some (moved o 2 o.i o.j)) (next_within o))) ≡ Ok tt
    product_next =
        let more-j = ltb (o.j + 1) o.b.width && ltb (o.i + (o.j + 1)) o.p.width in
        let more-i = ltb (o.i + 1) o.a.width && ltb (o.i + 1) o.p.width in
        picked (eqb o.phase 0) _ _ (λ q. product_moves 1 o.i 0 refl i_in_a (omega (arith, j_in_b)) (omega (arith, sum_in_p)))
        (picked (eqb o.phase 1) _ _ (λ q. product_moves 2 o.i o.j refl i_in_a j_in_b sum_in_p)
        (picked more-j (Some (moved o 1 o.i (o.j + 1))) (next_above o)
        (λ q. product_moves 1 o.i (o.j + 1) refl i_in_a (ltb-true (o.j + 1) o.b.width (and_left (ltb (o.j + 1) o.b.width) (ltb (o.i + (o.j + 1)) o.p.width) q))
        (ltb-true (o.i + (o.j + 1)) o.p.width (and_right (ltb (o.j + 1) o.b.width) (ltb (o.i + (o.j + 1)) o.p.width) q)))
        (picked more-i (Some (moved o 1 (o.i + 1) 0)) None
        (λ q. let a = ltb-true (o.i + 1) o.a.width (and_left (ltb (o.i + 1) o.a.width) (ltb (o.i + 1) o.p.width) q) in
        let c = ltb-true (o.i + 1) o.p.width (and_right (ltb (o.i + 1) o.a.width) (ltb (o.i + 1) o.p.width) q) in
        product_moves 1 (o.i + 1) 0 refl a (omega (arith, j_in_b)) (omega (arith, c)))
        refl)))

  -- ---- every kind

  pub stays : held_check n o ≡ Ok tt → (c : ℕ) → job_check n (next o c) ≡ Ok tt
  unfolding next
  stays h c = go (kind_of o.kind) refl (fair n o h)
    where
      go : (k : Kind) → kind_of o.kind ≡ k → Fair n o k
          → job_check n (pick (eqb o.phase 0) (Some (moved o 1 o.i 0)) (pick (eqb o.phase 1) (after_trial k o c) (after_second k o))) ≡ Ok tt
      go greatest e f = extreme_next greatest e f (λ ph i. extreme_zeros f.zero) (λ ph i p l. extreme_at ph i p l) (extreme_small f.place) c
      go smallest e f = extreme_next smallest e f (λ ph i. extreme_zeros f.zero) (λ ph i p l. extreme_at ph i p l) (extreme_small f.place) c
      go scaledAdd e f = scaled_next e f
      go product e f = product_next e f
      go unknown e f = let z : ◌≡◌ {A = ℕ} 0 1 = cc f.used in absurd (omega arith)

-- ---- any accepted call that is none of a round's

start_held : (m : Machine) (h : Held) (o q : Job) → AreResponses m.responses → JobFits o → start_of m h o ≡ Ok q → job_check m.width (Some q) ≡ Ok tt
unfolding steps
start_held m h o q b c e =
    let p = accepted_is m h o q e in
    let a : Accepted m o = ap (λ (h : Held). start_of m h o) (sym p.0) ∙ e ∙ ap Ok p.1 in
    rw p.1 (storable m o a (record { responses = b; job = (c, tt) }) 0 (omega arith)).jobs

gave_held : (s : State) {k : Command} {c : ℕ} {h : Held} → step_of s.machine s.held ≡ Ok (record { command = k; count = c; held = h })
    → job_check s.machine.width s.held ≡ Ok tt → job_check s.machine.width (stepped s).held ≡ Ok tt
unfolding stepped step_of
gave_held s e b = go (step_check s.machine s.held) s.held b
  where
    go : (c : Check) (h : Held) → job_check s.machine.width h ≡ Ok tt → job_check s.machine.width (held_after (given_by c (gave s.machine h)) h) ≡ Ok tt
    go (Err r) h b = b
    go (Ok tt) None b = b
    go (Ok tt) (Some o) b = stays s.machine.width o (else_passed (held_check s.machine.width o) (Ok tt) b).0 _

looks_job : {s t : State} → Looks s t → Typed s → job_check s.machine.width s.held ≡ Ok tt → job_check t.machine.width t.held ≡ Ok tt
looks_job (events.shows_word b e) y h = h
looks_job (events.resolves key care e) y h = h
looks_job (events.totals e) y h = h
looks_job (events.starts {s} {q} o c a) y h = start_held s.machine s.held o q y.responses c a
looks_job (events.writes output e) y h = h
looks_job (events.loads before after) y h = h

pub other_job : {s t : State} → Other s t → Typed s → job_check s.machine.width s.held ≡ Ok tt → job_check t.machine.width t.held ≡ Ok tt
other_job (events.looks l) y h = looks_job l y h
other_job (events.pulses {s} p l a) y h = rw (accepted_pulse s.machine p l a, pulsed_width s.machine p l) h
other_job (events.steps {s} {k} a) y h = rw (accepted_step s a, pulsed_width s.machine k.panel k.lines) (gave_held s a h)
other_job (events.answers_word {s} y g k v a) t h = rw (answers_width (one_answer y g k v s.machine a)) h
other_job (events.works_round {s} y g vs a) t h = rw (answers_width (whole_answers y g vs s.machine a)) h
