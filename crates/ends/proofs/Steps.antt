-- Steps one after the other: each accepted, each one command's pulse.
use Prim.Native.Nat.{ℕ, zero, suc, ◌+◌, ◌<◌}
use mathlib.Core.Path.{◌≡◌, refl, sym, ap, ◌∙◌}
use mathlib.Core.Bool.{Bool, true, false}
use mathlib.Core.List.{List, [], ◌∷◌}
use lib.Dec.{eqb}
use lib.ListN.{length, get_or}
use native.Mathlib.Nat.{zero-add}
use native.Mathlib.Omega.{arith}
use Rattle.std.specs.Prelude.{Result, Ok, Err, Some, None}
use Rattle.machine.specs.declared.Panel.{Panel}
use Rattle.machine.specs.declared.Refusal.{Refusal}
use Rattle.machine.specs.declared.Lines.{Lines}
use Rattle.machine.specs.Refusals.{Check, pulse_check, answer_of, after}
use Rattle.machine.specs.Machine.{Machine}
use Rattle.machine.specs.Pulse.{count_of, read_of, pulsed}
use Rattle.machine.proofs.Refusals.{Sound}
use Rattle.job_plans.specs.declared.Job.{Job}
use Rattle.job_plans.specs.declared.Command.{Command}
use Rattle.jobs.specs.declared.Stepped.{Stepped}
use Rattle.laws.specs.Bits.{pick}
use Rattle.job_plans.specs.Fields.{Held, Kind, greatest, smallest, scaledAdd, product, unknown, kind_of}
use Rattle.job_plans.specs.Places.{held_check, next, none_held}
use Rattle.job_plans.specs.Commands.{command, opening, trial, second}
use Rattle.jobs.proofs.Calls.{pulse_passes}
use Rattle.jobs.specs.Calls.{step_check, gave, given_by, step_of, machine_after, after_step}
use Rattle.jobs.specs.Runs.{State, held_after, stepped, steps}
use Rattle.ends.specs.Ends.{Gives}
use Rattle.ends.proofs.Machines.{passes}

abbrev pub on : Machine → Held → State
on m h = record { machine = m; held = h }

abbrev pub pulsed_by : Machine → Job → Machine
pulsed_by m q = pulsed m (command q).panel (command q).lines

abbrev pub counted_by : Machine → Job → ℕ
counted_by m q = count_of m (command q).panel (command q).lines

-- ---- what the call pulse answers and leaves

-- no command reads
reads_nothing : (q : Job) → (command q).lines.read ≡ false
unfolding command
reads_nothing q = go (eqb q.phase 0) (eqb q.phase 1) (kind_of q.kind)
  where
    go : (t u : Bool) (k : Kind) → (pick t (opening q) (pick u (trial k q) (second k q))).lines.read ≡ false
    go true u k = refl
    go false true greatest = refl
    go false true smallest = refl
    go false true scaledAdd = refl
    go false true product = refl
    go false true unknown = refl
    go false false greatest = refl
    go false false smallest = refl
    go false false scaledAdd = refl
    go false false product = refl
    go false false unknown = refl

counted : (m : Machine) (q : Job) → pulse_check m (command q).panel (command q).lines ≡ Ok tt
    → answer_of m (command q).panel (command q).lines ≡ Ok (record { count = counted_by m q; read = 0 })
unfolding answer_of read_of
counted m q h = rw (h, reads_nothing q)

pub left : (m : Machine) (p : Panel) (l : Lines) → pulse_check m p l ≡ Ok tt → after m p l ≡ pulsed m p l
unfolding after
left m p l h = rw h

-- ---- one step of a held job that is in order, on a sound machine

module _ (m : Machine) (q : Job) (s : Sound m) (f : held_check m.width q ≡ Ok tt) where
  answered : step_of m (Some q) ≡ Ok (record { command = command q; count = counted_by m q; held = next q (counted_by m q) })
  unfolding step_of step_check
  answered = rw (passes m s, f)

  pub one_step : stepped (on m (Some q)) ≡ on (pulsed_by m q) (next q (counted_by m q))
  unfolding stepped after_step
  one_step = rw answered

  taken : pulse_check m (command q).panel (command q).lines ≡ Ok tt
  unfolding step_check
  taken = pulse_passes m q (rw (passes m s, f)) (command q) refl

  pub gives : Gives (command q) (on m (Some q))
  gives = record {
    count = counted_by m q;
    then = next q (counted_by m q);
    accepted = taken;
    counts = counted m q taken;
    answers = answered;
    leaves = ap (λ (z : State). z.machine) one_step ∙ sym (left m (command q).panel (command q).lines taken);
  }

-- a step that gives its command was not turned down: the machine passes 1 to 3 and the held job 8
pub given_passed : (s : State) {k : Command} → Gives k s → step_check s.machine s.held ≡ Ok tt
unfolding step_of
given_passed s g = go (step_check s.machine s.held) _ g.answers
  where
    go : (c : Check) (a : Result Stepped Refusal) {k : Command} {n : ℕ} {h : Held} → given_by c a ≡ Ok (record { command = k; count = n; held = h }) → c ≡ Ok tt
    go (Ok tt) a e = refl
    go (Err r) a e = cc

-- a step while none is held gives nothing
pub held_given : (m : Machine) (h : Held) {c : Command} {n : ℕ} {g : Held} → step_of m h ≡ Ok (record { command = c; count = n; held = g }) → h ≡ None → ⊥
unfolding step_of
held_given m h e z = go (step_check m None) (ap (λ (h : Held). given_by (step_check m h) (gave m h)) (sym z) ∙ e)
  where
    go : (c : Check) {k : Command} {n : ℕ} {g : Held} → given_by c (Err none_held) ≡ Ok (record { command = k; count = n; held = g }) → ⊥
    go (Ok tt) e = let z : ◌≡◌ {A = ℕ} 0 1 = cc in absurd (omega arith)
    go (Err r) e = let z : ◌≡◌ {A = ℕ} 0 1 = cc in absurd (omega arith)

-- ---- steps, and more steps

pub steps_on : (j k : ℕ) (s : State) → steps (j + k) s ≡ steps k (steps j s)
unfolding steps
steps_on zero k s = ap (λ (i : ℕ). steps i s) (zero-add k)
steps_on (suc j) k s = let e : suc j + k ≡ suc (j + k) = omega arith in ap (λ (i : ℕ). steps i s) e ∙ steps_on j k (stepped s)

-- the last of them
pub steps_last : (k : ℕ) (s : State) → steps (suc k) s ≡ stepped (steps k s)
unfolding steps
steps_last zero s = refl
steps_last (suc k) s = steps_last k (stepped s)

-- a step while no job is held is refused, and changes nothing
idle : (m : Machine) → stepped (on m None) ≡ on m None
unfolding stepped after_step step_of
idle m = go (step_check m None)
  where
    go : (c : Check) → on (machine_after (given_by c (gave m None)) m) (held_after (given_by c (gave m None)) None) ≡ on m None
    go (Ok tt) = refl
    go (Err r) = refl

pub steps_idle : (k : ℕ) (m : Machine) → steps k (on m None) ≡ on m None
unfolding steps
steps_idle zero m = refl
steps_idle (suc k) m = ap (steps k) (idle m) ∙ steps_idle k m

-- ---- steps that give these commands, from s to t

pub data Run : List Command → State → State → Type 0 where
  stay : {s : State} → Run [] s s
  then : {k : Command} {ks : List Command} {s t : State} → Gives k s → Run ks (stepped s) t → Run (k ∷ ks) s t

pub run_ends : {ks : List Command} {s t : State} → Run ks s t → steps (length ks) s ≡ t
unfolding steps
run_ends stay = refl
run_ends (then g r) = run_ends r

pub run_gives : {ks : List Command} {s t : State} → Run ks s t → (none : Command) (j : ℕ) → j < length ks → Gives (get_or ks j none) (steps j s)
unfolding steps
run_gives stay none j h = absurd (omega arith)
run_gives (then g r) none zero h = g
run_gives (then g r) none (suc j) h = run_gives r none j (omega arith)

-- one step before the others, whose end is t
pub step_then : (m : Machine) (q : Job) (t : State) → Sound m → held_check m.width q ≡ Ok tt → {ks : List Command}
    → Run ks (on (pulsed_by m q) (next q (counted_by m q))) t → Run (command q ∷ ks) (on m (Some q)) t
step_then m q t s f {ks} r = then {ks = ks} {t = t} (gives m q s f) (rw (one_step m q s f) r)
