-- Demand 3, jobs: "A job gives one named command a step, ends in the stated arithmetic, in exactly the stated number of pulses, and survives a stop at
-- any pulse." Of rounds: Rounds
use Prim.Native.Nat.{ℕ, zero, suc, ◌+◌, ◌*◌, ◌-◌, ◌^◌, ◌≤◌, ◌<◌, min}
use mathlib.Core.Path.{◌≡◌, refl, ap}
use mathlib.Core.Bool.{true, ◌&&◌}
use native.Mathlib.Omega.{arith}
use borrow.Author.Tests.{eq-eqb}
use mathlib.Core.List.{List}
use lib.Dec.{ltb, eqb}
use lib.ListN.{length}
use Rattle.std.specs.Prelude.{Some, None, Ok}
use Rattle.laws.specs.Bits.{digit}
use Rattle.machine.specs.Machine.{Machine}
use Rattle.job_plans.specs.declared.Job.{Job}
use Rattle.jobs.specs.Calls.{start_of}
use Rattle.job_plans.specs.Fields.{Held, Kind, greatest, smallest, scaledAdd, product, unknown, kind_of}
use Rattle.job_plans.specs.Places.{first, first_for, at_first}
use Rattle.job_tally.specs.Totals.{sum_below, ones, zeros, value_of, values, greatest_of, smallest_of, pulses, total_check, total_of}
use Rattle.jobs.specs.Runs.{State, steps}
use Rattle.ends.specs.Ends.{Accepted, begun, chosen, Gives, commands_of, command_at, ended, IsGreatest, IsSmallest, NoneChosen, Alike, Adds, Marks}
use Rattle.ends.proofs.Steps.{given_passed}
use Rattle.ends.proofs.Starts.{accepted_is, started_accepted}
use Rattle.ends.proofs.Ends.{course, not_over, stays_over}
use Rattle.ends.proofs.Greatest.{greatest_pulses, greatest_ends}
use Rattle.ends.proofs.Smallest.{smallest_pulses, smallest_ends}
use Rattle.ends.proofs.Cases.{some_greatest, greatest_some, some_smallest, smallest_some, greatest_none, smallest_none, same_greatest, same_smallest, same_scaled_add, same_product}
use Rattle.ends.proofs.ScaledAdd.{scaled_add_pulses, scaled_add_ends}
use Rattle.ends.proofs.Product.{product_pulses, product_ends}
use Rattle.image_layout.specs.Format.{image_of}
use Rattle.hosts.specs.Images.{Stores, Resumes}
use Rattle.hosts.specs.Stops.{Kept, In, Worked, NothingLost}
use Rattle.hosts.specs.Images.{Typed}
use Rattle.hosts.proofs.Jobs as over-stops
use Rattle.hosts.proofs.Jobs.{one_stop, as_without_stops, no_fewer, goes_on, rest_ends}

-- a started job is at its first place
at_first_lem : (o : Job) → at_first (first o) ≡ true
unfolding first
at_first_lem o = go (kind_of o.kind) refl
  where
    same : (x : ℕ) → (eqb 0 0 && eqb x x && eqb 0 0) ≡ true
    same x = rw (eq-eqb x x refl)

    go : (k : Kind) → kind_of o.kind ≡ k → at_first (first_for k o) ≡ true
    go greatest e = rw e (same (o.a.width - 1))
    go smallest e = rw e (same (o.a.width - 1))
    go scaledAdd e = rw e
    go product e = rw e
    go unknown e = rw (e, eq-eqb o.phase o.phase refl, eq-eqb o.i o.i refl, eq-eqb o.j o.j refl)

-- ---- jobs: for any machine m, whatever was held, and any job o whose start is accepted

module _ (m : Machine) (h : Held) (o q : Job) (start : start_of m h o ≡ Ok q) where
  accepted : Accepted m o
  accepted = started_accepted m h o q start

  -- the start finds no job held, and what is held then is the job at its first place: `begun m o` stands
  pub start_begins : (h ≡ None) × (record { machine = m; held = Some q } ≡ begun m o)
  start_begins = let e = accepted_is m h o q start in (e.0, ap (λ (z : Job). record { machine = m; held = Some z }) e.1)

  -- "A job step answers the command it gave, and the machine after it is that command's pulse" (`Gives`): step k gives the k-th of the job's
  -- commands in the table's order (`commands_of`), and they are as many as the stated pulses
  pub one_command_a_step : (k : ℕ) → k < pulses m (first o) → Gives (command_at m (first o) k) (steps k (begun m o))
  one_command_a_step = (course m o accepted).gives

  pub as_many_commands : length (commands_of m (first o)) ≡ pulses m (first o)
  as_many_commands = (course m o accepted).many

  -- over after exactly the stated number of pulses, and not before
  pub over_at_last : (steps (pulses m (first o)) (begun m o)).held ≡ None
  over_at_last = (course m o accepted).over

  pub not_over_before : (k : ℕ) → k < pulses m (first o) → (steps k (begun m o)).held ≡ None → ⊥
  not_over_before = not_over m o accepted

  -- further steps are refused and change nothing: an adding job is never added twice
  pub never_twice : (k : ℕ) → steps (pulses m (first o) + k) (begun m o) ≡ record { machine = ended m o; held = None }
  never_twice = stays_over m o accepted

  -- greatest: X marks exactly the selected words with the greatest value (`Marks`), in 1+a pulses and one for each of its ones
  pub greatest_marked : kind_of o.kind ≡ greatest → Marks o (greatest_of (values o m.words m.responses)) m (ended m o)
  greatest_marked = greatest_ends m o accepted

  pub greatest_takes : kind_of o.kind ≡ greatest
      → pulses m (first o) ≡ 1 + o.a.width + ones o.a.width (greatest_of (values o m.words m.responses))
  greatest_takes = greatest_pulses m o accepted

  -- "1+a plus, if any word is selected, the number of ones in the greatest syllable": case by case
  pub greatest_takes_ones : kind_of o.kind ≡ greatest → (v : ℕ) → IsGreatest o m v → pulses m (first o) ≡ 1 + o.a.width + ones o.a.width v
  greatest_takes_ones = greatest_some m o accepted

  pub greatest_of_none_takes : kind_of o.kind ≡ greatest → NoneChosen o m → pulses m (first o) ≡ 1 + o.a.width
  greatest_of_none_takes = greatest_none m o accepted

  pub any_has_greatest : (k : ℕ) → k < length m.words → chosen m o k ≡ true → (v : ℕ) × IsGreatest o m v
  any_has_greatest k within selected = (_, some_greatest m o accepted k within selected)

  -- smallest: the same with the smallest and its zeros
  pub smallest_marked : kind_of o.kind ≡ smallest → Marks o (smallest_of (2 ^ o.a.width - 1) (values o m.words m.responses)) m (ended m o)
  smallest_marked = smallest_ends m o accepted

  pub smallest_takes : kind_of o.kind ≡ smallest
      → pulses m (first o) ≡ 1 + o.a.width + zeros o.a.width (smallest_of (2 ^ o.a.width - 1) (values o m.words m.responses))
  smallest_takes = smallest_pulses m o accepted

  pub smallest_takes_zeros : kind_of o.kind ≡ smallest → (v : ℕ) → IsSmallest o m v → pulses m (first o) ≡ 1 + o.a.width + zeros o.a.width v
  smallest_takes_zeros = smallest_some m o accepted

  pub smallest_of_none_takes : kind_of o.kind ≡ smallest → NoneChosen o m → pulses m (first o) ≡ 1 + o.a.width
  smallest_of_none_takes = smallest_none m o accepted

  pub any_has_smallest : (k : ℕ) → k < length m.words → chosen m o k ≡ true → (v : ℕ) × IsSmallest o m v
  any_has_smallest k within selected = (_, some_smallest m o accepted k within selected)

  -- scaled add: P holds P+c·A modulo 2^p in selected words, all else unchanged (`Adds`), in 2·min(a,p) pulses
  pub scaled_added : kind_of o.kind ≡ scaledAdd → Adds o (λ w. o.c * value_of o.a w) m (ended m o)
  scaled_added = scaled_add_ends m o accepted

  pub scaled_takes : kind_of o.kind ≡ scaledAdd → pulses m (first o) ≡ 2 * min o.a.width o.p.width
  scaled_takes = scaled_add_pulses m o accepted

  -- product: P holds P+A·B modulo 2^p, in twice the number of pairs with i+j below p
  pub product_added : kind_of o.kind ≡ product → Adds o (λ w. value_of o.a w * value_of o.b w) m (ended m o)
  product_added = product_ends m o accepted

  pub product_takes : kind_of o.kind ≡ product
      → pulses m (first o) ≡ 2 * sum_below o.a.width (λ i. sum_below o.b.width (λ j. digit (ltb (i + j) o.p.width)))
  product_takes = product_pulses m o accepted

  some_pulse : (k : ℕ) → pulses m (first o) ≡ k → 0 < k
  unfolding steps
  some_pulse zero e = let z : ◌≡◌ {A = ℕ} 0 1 = cc (rw e at over_at_last) in absurd (omega arith)
  some_pulse (suc k) e = omega arith

  -- `total`, asked before the first step, answers the number of pulses that are then taken
  pub total_is_taken : total_of m (Some (first o)) ≡ Ok (pulses m (first o))
  unfolding total_of total_check steps
  total_is_taken = rw (given_passed (begun m o) (one_command_a_step 0 (some_pulse (pulses m (first o)) refl)), at_first_lem o)

-- ---- never from how many words there are: one job on two machines of any sizes and widths gives the same commands, in the same number of pulses
-- (`Alike`), if the selected words have the same extreme; and an adding job always

module _ (m n : Machine) (g h : Held) (o p q : Job) (on_m : start_of m g o ≡ Ok p) (on_n : start_of n h o ≡ Ok q) where
  left : Accepted m o
  left = started_accepted m g o p on_m

  right : Accepted n o
  right = started_accepted n h o q on_n

  pub same_greatest_same_course : kind_of o.kind ≡ greatest → (v : ℕ) → IsGreatest o m v → IsGreatest o n v → Alike m n o
  same_greatest_same_course = same_greatest m n o left right

  pub same_smallest_same_course : kind_of o.kind ≡ smallest → (v : ℕ) → IsSmallest o m v → IsSmallest o n v → Alike m n o
  same_smallest_same_course = same_smallest m n o left right

  pub scaled_add_same_course : kind_of o.kind ≡ scaledAdd → Alike m n o
  scaled_add_same_course = same_scaled_add m n o left right

  pub product_same_course : kind_of o.kind ≡ product → Alike m n o
  product_same_course = same_product m n o left right

-- ---- jobs over stops. `Typed` says what the buffers' types say: responses are bytes, c has 64 bits

-- stop after any pulse, resume from the image stored then, and the end and the total are the same: stored after k pulses, with so many more to go,
-- the job that is resumed gives exactly so many more, and the machine is then the one without a stop
pub stop_after_any_pulse : (m : Machine) (h : Held) (o q : Job) → start_of m h o ≡ Ok q → Typed (record { machine = m; held = Some o })
    → (k more : ℕ) → k + more ≡ pulses m (first o) → {output words responses image : List ℕ} {t : State}
    → Stores output (steps k (begun m o)) image → Resumes words responses image t
    → ((j : ℕ) → j < more → (steps j t).held ≡ None → ⊥) × (steps more t ≡ record { machine = ended m o; held = None })
stop_after_any_pulse m h o q start typed k more e stores resumes = one_stop m o (started_accepted m h o q start) typed k more e stores resumes

-- any stops: `Worked (begun m o) k given s images` says that after the start the host has given steps, stored images and resumed from any of them,
-- in any order and number, and that s stands now with k pulses behind it; `given` counts all steps that were really given

module _ (m : Machine) (h : Held) (o q : Job) (start : start_of m h o ≡ Ok q) (typed : Typed (record { machine = m; held = Some o }))
    {k given : ℕ} {s : State} {images : List Kept} (worked : Worked (begun m o) k given s images) where
  taken : Accepted m o
  taken = started_accepted m h o q start

  -- a stop changes nothing: what stands is what k steps alone leave
  pub stops_change_nothing : s ≡ steps k (begun m o)
  stops_change_nothing = as_without_stops m o taken typed worked

  -- the end is the one without stops, and so is the number of pulses behind it
  pub same_end : s.held ≡ None → (k ≡ pulses m (first o)) × (s.machine ≡ ended m o)
  same_end = over-stops.same_end m o taken typed worked

  -- all steps given are as many if each resume was from the image stored last, with no step after it (`NothingLost`), and never fewer
  pub same_total : NothingLost worked → s.held ≡ None → given ≡ pulses m (first o)
  same_total = over-stops.same_total m o taken typed worked

  pub never_fewer : s.held ≡ None → pulses m (first o) ≤ given
  never_fewer = no_fewer m o taken typed worked

  -- an adding job is never added twice
  pub scaled_added_once : kind_of o.kind ≡ scaledAdd → s.held ≡ None → Adds o (λ w. o.c * value_of o.a w) m s.machine
  scaled_added_once e over = rw (same_end over).1 (scaled_added m h o q start e)

  pub product_added_once : kind_of o.kind ≡ product → s.held ≡ None → Adds o (λ w. value_of o.a w * value_of o.b w) m s.machine
  product_added_once e over = rw (same_end over).1 (product_added m h o q start e)

  -- and the job can always go on: before the end a step gives its command, what stands can be stored, each stored image can be resumed into any
  -- destinations that are long enough, and the pulses that are left lead to the end
  pub step_gives : k < pulses m (first o) → Gives (command_at m (first o) k) s
  step_gives = goes_on m o taken typed worked

  pub can_be_stored : (output : List ℕ) → length (image_of s) ≤ length output → Stores output s (image_of s)
  can_be_stored = over-stops.can_be_stored m o taken typed worked

  pub can_be_resumed : (i : Kept) → In i images → (words responses : List ℕ) → length m.words ≤ length words → length m.words ≤ length responses
      → Resumes words responses i.image (steps i.pulses (begun m o))
  can_be_resumed = over-stops.can_be_resumed m o taken typed worked

  pub rest_leads_there : steps (pulses m (first o) - k) s ≡ record { machine = ended m o; held = None }
  rest_leads_there = rest_ends m o taken typed worked
