-- The console's `total` and `run`: "`total` before any step of a job is the number that `run` then prints."
use Prim.Native.Nat.{ℕ, zero, suc, ◌≤◌, ◌<◌}
use mathlib.Core.Path.{◌≡◌, refl, sym, ap, subst, ◌∙◌}
use mathlib.Core.Bool.{Bool, true, false, not}
use mathlib.Core.List.{List}
use native.Mathlib.Omega.{arith}
use borrow.Author.Tests.{not-false}
use Rattle.std.specs.Prelude.{Some, None, Result, Ok, Err}
use Rattle.laws.specs.Bits.{pick}
use Rattle.machine.specs.declared.Refusal.{Refusal}
use Rattle.machine.specs.Machine.{Machine}
use Rattle.machine.specs.Refusals.{Check, refuse, machine_check, answer_by}
use Rattle.machine.proofs.Refusals.{else_passed, not_refused}
use Rattle.job_plans.specs.declared.Job.{Job}
use Rattle.job_plans.specs.Fields.{Held}
use Rattle.job_plans.specs.Places.{first, at_first, none_held, step_check}
use Rattle.job_plans.proofs.Fair.{used_fields}
use Rattle.job_plans.proofs.Places.{good, fair_held}
use Rattle.job_tally.specs.Totals.{pulses, first_check, total_check, total_of}
use Rattle.jobs.specs.declared.Stepped.{Stepped}
use Rattle.jobs.specs.Calls.{start_check, given_by, step_of}
use Rattle.jobs.specs.Runs.{State, stepped, steps}
use Rattle.job_plans.specs.declared.Command.{Command}
use Rattle.ends.specs.Ends.{Accepted, begun, Gives, command_at}
use Rattle.ends.proofs.Starts.{accepted_by}
use Rattle.ends.proofs.Ends.{course}
use Rattle.ends.proofs.Firsts.{is_first, few_pulses}
use Rattle.text.specs.Rows.{fits}
use Rattle.console_commands.specs.declared.Board.{Board}
use Rattle.console_commands.specs.declared.Outcome.TheVariants as outcome
use Rattle.console_commands.specs.Ends.{bad_line}
use Rattle.console_working.specs.Jobs.{one_more, accepted, most, ran, run_turn, counted, total_outcome}

-- ---- steps that give their command until the job is over are the accepted ones

nothing_more : (why : Refusal) (c : Check) (k : ℕ) → one_more (given_by c (Err why)) k ≡ 0
nothing_more why (Ok tt) k = refl
nothing_more why (Err r) k = refl

all_accepted : (c : ℕ → Command) (k n : ℕ) (s : State) → ((j : ℕ) → j < k → Gives (c j) (steps j s)) → (steps k s).held ≡ None → k ≤ n
    → accepted n s ≡ k
unfolding steps accepted step_of
all_accepted c zero zero s g e h = refl
all_accepted c (suc k) zero s g e h = absurd (omega arith)
all_accepted c zero (suc n) s g e h = rw e (nothing_more none_held (step_check s.machine None) (accepted n (stepped (record { machine = s.machine; held = None }))))
all_accepted c (suc k) (suc n) s g e h =
    ap (λ (a : Result Stepped Refusal). one_more a (accepted n (stepped s))) (g 0 (omega arith)).answers
    ∙ ap suc (all_accepted (λ j. c (suc j)) k n (stepped s) (λ j l. g (suc j) (omega arith)) e (omega arith))

-- ---- the theorem, where a job is held

module _ (m : Machine) (o : Job) (ok : total_check m (Some o) ≡ Ok tt) where
  asked : (step_check m (Some o) ≡ Ok tt) × (at_first o ≡ true)
  unfolding total_check
  asked =
      let e = else_passed (step_check m (Some o)) (first_check (Some o)) ok in
      (e.0, not-false _ (not_refused _ (not (at_first o)) e.1))

  stands : o ≡ first o
  stands = is_first m.width o (fair_held m o asked.0) asked.1

  started : Accepted m o
  unfolding start_check
  started =
      let g = good m (Some o) asked.0 in
      accepted_by m o (rw (g.machine, used_fields m.width o (fair_held m o asked.0)) refl)

  -- its course, told of the held job
  held_total : accepted most (record { machine = m; held = Some o }) ≡ pulses m o
  held_total =
      let c = course m o started in
      let f : pulses m (first o) ≤ 8192 = subst (λ (q : Job). pulses m q ≤ 8192) stands (few_pulses m o asked.0) in
      let h : pulses m (first o) ≤ most = omega arith in
      subst (λ (q : Job). accepted most (record { machine = m; held = Some q }) ≡ pulses m q) (sym stands)
      (all_accepted (command_at m (first o)) (pulses m (first o)) most (begun m o) c.gives c.over h)

  prints : (b : Board) → (ran b (step_of m (Some o)) (record { machine = m; held = Some o })).outcome
      ≡ outcome.Pulses (accepted most (record { machine = m; held = Some o }))
  unfolding step_of
  prints b = rw asked.0 refl

-- ---- whatever is held

-- no number where nothing is
total_none : (m : Machine) → total_check m None ≡ Ok tt → ⊥
unfolding total_check step_check
total_none m e =
    let h = (else_passed (machine_check m) (refuse none_held true) (else_passed (step_check m None) (first_check None) e).0).1 in
    cc (not_refused none_held true h)

told : (c : Check) (n k : ℕ) → answer_by c n ≡ Ok k → (c ≡ Ok tt) × (n ≡ k)
told (Ok tt) n k e = (refl, cc)
told (Err r) n k e = (cc, cc)

told_by : (t : Result ℕ Refusal) (k : ℕ) → counted t ≡ outcome.Pulses k → t ≡ Ok k
told_by (Ok n) k e = cc
told_by (Err why) k e = cc

module _ (m : Machine) where
  -- where `total` gives a number, that many steps are accepted until no job is held
  pub total_is_accepted : (h : Held) (k : ℕ) → total_of m h ≡ Ok k → accepted most (record { machine = m; held = h }) ≡ k
  unfolding total_of
  total_is_accepted None k e = absurd (total_none m (told (total_check m None) 0 k e).0)
  total_is_accepted (Some o) k e =
      let t = told (total_check m (Some o)) (pulses m o) k e in
      held_total m o t.0 ∙ t.1

  run_says : (b : Board) (h : Held) (k : ℕ) → total_of m h ≡ Ok k
      → (ran b (step_of m h) (record { machine = m; held = h })).outcome ≡ outcome.Pulses (accepted most (record { machine = m; held = h }))
  unfolding total_of
  run_says b None k e = absurd (total_none m (told (total_check m None) 0 k e).0)
  run_says b (Some o) k e = prints m o (told (total_check m (Some o)) (pulses m o) k e).0 b

-- what the command total prints, run prints
pub run_prints_total : (b : Board) (args : List (List ℕ)) (s : State) (k : ℕ) → total_outcome args s ≡ outcome.Pulses k → (run_turn b args s).outcome ≡ outcome.Pulses k
run_prints_total b args s k e = go (fits "" args) e
  where
    go : (right : Bool) → pick right (counted (total_of s.machine s.held)) outcome.BadLine ≡ outcome.Pulses k
        → (pick right (ran b (step_of s.machine s.held) s) (bad_line b)).outcome ≡ outcome.Pulses k
    go true e =
        let t = told_by (total_of s.machine s.held) k e in
        run_says s.machine b s.held k t ∙ ap outcome.Pulses (total_is_accepted s.machine s.held k t)
    go false e = cc
