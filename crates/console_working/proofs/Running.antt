-- A run's steps: how many are still to be accepted, and that they lead to the same end.
use Prim.Native.Nat.{ℕ, zero, suc, ◌+◌, ◌-◌, ◌<◌}
use mathlib.Core.Path.{◌≡◌, refl, sym, ap, ◌∙◌}
use mathlib.Core.List.{List}
use native.Mathlib.Omega.{arith}
use Rattle.std.specs.Prelude.{Result, Ok, Err}
use Rattle.machine.specs.declared.Refusal.{Refusal}
use Rattle.machine.specs.Machine.{machine}
use Rattle.machine.specs.Pulse.{pulsed}
use Rattle.job_plans.specs.Fields.{Held}
use Rattle.jobs.specs.declared.Stepped.{Stepped}
use Rattle.jobs.specs.Calls.{step_of, after_step}
use Rattle.jobs.specs.Runs.{State, state, stepped, steps}
use Rattle.console_working.specs.Jobs.{one_more, accepted, steps_or}

-- ---- what the definitions say

none_more : (s : State) → accepted 0 s ≡ 0
unfolding accepted
none_more s = refl

one_more_lem : (t : ℕ) (s : State) → accepted (suc t) s ≡ one_more (step_of s.machine s.held) (accepted t (stepped s))
unfolding accepted
one_more_lem t s = refl

stays : (s : State) → steps 0 s ≡ s
unfolding steps
stays s = refl

goes : (k : ℕ) (s : State) → steps (suc k) s ≡ steps k (stepped s)
unfolding steps
goes k s = refl

-- ---- a step's answer, and the words and responses after it

module _ (n : ℕ) (ws rs : List ℕ) (h : Held) (ws' rs' : List ℕ)
    (we : ws' ≡ (after_step (machine n ws rs) h).words) (re : rs' ≡ (after_step (machine n ws rs) h).responses) where
  taken : (s : Stepped) → Ok s ≡ step_of (machine n ws rs) h → state n ws' rs' s.held ≡ stepped (state n ws rs h)
  unfolding stepped after_step pulsed
  taken s is = rw (we, re, ← is)

  left_alone : (r : Refusal) → Err r ≡ step_of (machine n ws rs) h → state n ws' rs' h ≡ state n ws rs h
  unfolding after_step
  left_alone r is = rw (we, re, ← is)

-- ---- the first of so many turns

one_first : (t : ℕ) (s : State) (step : Stepped) → Ok step ≡ step_of s.machine s.held
    → (accepted (suc t) s ≡ suc (accepted t (stepped s))) × (steps (accepted (suc t) s) s ≡ steps (accepted t (stepped s)) (stepped s))
one_first t s step is =
    let f : accepted (suc t) s ≡ suc (accepted t (stepped s)) = rw (one_more_lem t s, ← is) in (f, rw (f, goes (accepted t (stepped s)) s))

none : (t : ℕ) (s : State) (r : Refusal) → Err r ≡ step_of s.machine s.held → accepted t s ≡ 0
none zero s r is = none_more s
none (suc t) s r is = rw (one_more_lem t s, ← is)

-- where some are accepted, the first is
some_first : (t : ℕ) (s : State) (k : ℕ) → 0 < accepted t s → Ok k ≡ steps_or (step_of s.machine s.held) k
some_first zero s k h = let e = none_more s in absurd (omega arith)
some_first (suc t) s k h = cases (step_of s.machine s.held) (accepted t (stepped s)) (rw (one_more_lem t s) at h)
  where
    cases : (a : Result Stepped Refusal) (n : ℕ) → 0 < one_more a n → Ok k ≡ steps_or a k
    cases (Ok step) n h = refl
    cases (Err r) n h = absurd (omega arith)

-- ---- what is left of a run from s₀ after k steps, which lead to s

pub record Left (most k : ℕ) (s₀ s : State) : Type 0 where
  pub count : accepted most s₀ ≡ k + accepted (most - k) s
  pub end : steps (accepted most s₀) s₀ ≡ steps (accepted (most - k) s) s
  pub first : k ≡ 0 → s ≡ s₀

pub all_left : (most : ℕ) (s : State) → Left most 0 s s
all_left most s = let z : most - 0 ≡ most = omega arith in record { count = rw z (omega arith); end = rw z; first = λ e. refl }

one_less : (most k : ℕ) (s₀ s : State) (step : Stepped) → Ok step ≡ step_of s.machine s.held → k < most → Left most k s₀ s → Left most (k + 1) s₀ (stepped s)
one_less most k s₀ s step is more l =
    let t : most - k ≡ suc (most - (k + 1)) = omega arith in
    let f = one_first (most - (k + 1)) s step is in
    let n : accepted most s₀ ≡ k + accepted (suc (most - (k + 1))) s = rw t at l.count in
    let e : steps (accepted most s₀) s₀ ≡ steps (accepted (suc (most - (k + 1))) s) s = rw t at l.end in
    record { count = omega (arith, n, f.0); end = e ∙ f.1; first = λ z. absurd (omega arith) }

-- ---- a turn of the loop, on these words and responses and with this job held

module _ (most n : ℕ) (s₀ : State) (ws rs : List ℕ) (h : Held) (k : ℕ) (l : Left most k s₀ (state n ws rs h)) where
  abbrev Over : Result ℕ Refusal → Held → List ℕ → List ℕ → Type 0
  Over r h' ws' rs' =
      let end = steps (accepted most s₀) s₀ in
      (r ≡ steps_or (step_of s₀.machine s₀.held) (accepted most s₀)) × ((h' ≡ end.held) × ((ws' ≡ end.machine.words) × (rs' ≡ end.machine.responses)))

  ended : (r : Result ℕ Refusal) (ws' rs' : List ℕ) → r ≡ steps_or (step_of s₀.machine s₀.held) (accepted most s₀)
      → state n ws' rs' h ≡ state n ws rs h → accepted (most - k) (state n ws rs h) ≡ 0 → Over r h ws' rs'
  ended r ws' rs' told d e =
      let f : state n ws' rs' h ≡ steps (accepted most s₀) s₀ = d ∙ sym (l.end ∙ rw (e, stays (state n ws rs h))) in
      (told, (ap (λ (x : State). x.held) f, (ap (λ (x : State). x.machine.words) f, ap (λ (x : State). x.machine.responses) f)))

  -- k were accepted, and there were some
  counted : 0 < k → accepted (most - k) (state n ws rs h) ≡ 0 → Ok k ≡ steps_or (step_of s₀.machine s₀.held) (accepted most s₀)
  counted some e = let c : accepted most s₀ ≡ k = omega (arith, l.count, e) in rw c (some_first most s₀ k (omega (arith, c)))

  pub finished : 0 < most → k ≡ most → Over (Ok most) h ws rs
  finished some e =
      let z : most - k ≡ 0 = omega arith in
      let o : accepted (most - k) (state n ws rs h) ≡ 0 = rw z (none_more (state n ws rs h)) in
      let f : ℕ → Result ℕ Refusal = λ x. Ok x in
      ended (Ok most) ws rs (ap f (sym e) ∙ counted (omega arith) o) refl o

  module _ (ws' rs' : List ℕ)
      (we : ws' ≡ (after_step (machine n ws rs) h).words) (re : rs' ≡ (after_step (machine n ws rs) h).responses) where
    pub went_on : k < most → (step : Stepped) → Ok step ≡ step_of (machine n ws rs) h → Left most (k + 1) s₀ (state n ws' rs' step.held)
    went_on more step is = rw (taken n ws rs h ws' rs' we re step is) (one_less most k s₀ (state n ws rs h) step is more l)

    module _ (why : Refusal) (is : Err why ≡ step_of (machine n ws rs) h) where
      pub refused : k ≡ 0 → Over (Err why) h ws' rs'
      refused e =
          let f : state n ws rs h ≡ s₀ = l.first e in
          ended (Err why) ws' rs' (rw (← f, ← is)) (left_alone n ws rs h ws' rs' we re why is) (none (most - k) (state n ws rs h) why is)

      pub stopped : 0 < k → Over (Ok k) h ws' rs'
      stopped some =
          let o = none (most - k) (state n ws rs h) why is in
          ended (Ok k) ws' rs' (counted some o) (left_alone n ws rs h ws' rs' we re why is) o
