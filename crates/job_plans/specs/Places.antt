-- Document 01, 'Jobs' and 'The image': a job's places: which are in the table, the first, and the one after a pulse.
-- "Phase is the next pulse: 0 opening search, 1 trial search, 2 the pulse after it."
use Rattle.std.specs.Prelude.{ℕ, zero, suc, ◌+◌, ◌-◌, Bool, true, false, not, ◌&&◌, ◌||◌, ltb, eqb, Some, None}
use Rattle.laws.specs.Bits.{pick}
use Rattle.machine.specs.declared.Refusal.{Refusal}
use Rattle.machine.specs.declared.Refusal.TheVariants.{WrongJob}
use Rattle.machine.specs.declared.ResponseBit.{ResponseBit}
use Rattle.machine.specs.Machine.{Machine}
use Rattle.machine.specs.Refusals.{Check, ◌else◌, refuse, machine_check}
use Rattle.job_plans.specs.declared.Span.{Span}
use Rattle.job_plans.specs.declared.Job.{Job}
use Rattle.job_plans.specs.Fields.{job, Held, Kind, kind_of, by_kind, used_check, unused_check}

-- ---- "A place outside the job's table is malformed."

abbrev pub at_place : Job → Bool
at_place o = eqb o.phase 1 || eqb o.phase 2

-- "In phase 0, i is a-1; phase 0 is for extremes only"; "for each place from the top"
abbrev pub extreme_place : Job → Bool
extreme_place o = eqb o.phase 0 && eqb (o.i + 1) o.a.width || at_place o && ltb o.i o.a.width

-- "for place i from 0 below the smaller of the widths a and p"
abbrev pub scaled_place : Job → Bool
scaled_place o = at_place o && ltb o.i o.a.width && ltb o.i o.p.width

-- "for i from 0 below a, and within it j from 0 below b, with i+j below p"
abbrev pub product_place : Job → Bool
product_place o = at_place o && ltb o.i o.a.width && ltb o.j o.b.width && ltb (o.i + o.j) o.p.width

abbrev pub in_table_for : Kind → Job → Bool
in_table_for k o = by_kind k (extreme_place o) (scaled_place o) (product_place o) false

unfoldable pub in_table : Job → Bool
in_table o = in_table_for (kind_of o.kind) o

-- 25: "unknown .. place"
abbrev pub place_check : Job → Check
place_check o = refuse WrongJob (not (in_table o))

-- ---- 20 to 25 of a held job

-- after the start: used fields as at the start, the others 0, a place of the table
unfoldable pub held_check : ℕ → Job → Check
held_check n o = used_check n o else unused_check o else place_check o

-- 25: "step while none is"
abbrev pub none_held : Refusal
none_held = WrongJob

abbrev pub step_held_check : ℕ → Held → Check
step_held_check n None = refuse none_held true
step_held_check n (Some o) = held_check n o

unfoldable pub step_check : Machine → Held → Check
step_check m h = machine_check m else step_held_check m.width h

-- ---- "Starting a job sets its first place, and its unused fields to 0."

abbrev pub none : Span
none = record { low = record { 0 = 0 }; width = 0 }

abbrev pub no_bit : ResponseBit
no_bit = record { 0 = 0 }

-- "In phase 0, i is a-1 .. the others begin at phase 1 with i and j 0."
abbrev pub first_for : Kind → Job → Job
first_for k o = by_kind k (job o.kind o.key o.care o.x o.y o.a none none 0 (o.a.width - 1) 0 0)
    (job o.kind o.key o.care no_bit o.y o.a none o.p 1 0 0 o.c)
    (job o.kind o.key o.care no_bit o.y o.a o.b o.p 1 0 0 0) o

unfoldable pub first : Job → Job
first o = first_for (kind_of o.kind) o

-- where a job stands that has just been started
abbrev pub at_first : Job → Bool
at_first o = eqb o.phase (first o).phase && eqb o.i (first o).i && eqb o.j (first o).j

-- ---- the place after a pulse

-- the same job at another place
abbrev pub moved : Job → ℕ → ℕ → ℕ → Job
moved o phase i j = job o.kind o.key o.care o.x o.y o.a o.b o.p phase i j o.c

-- extremes: "for each place from the top". "A job that has given its last pulse is no longer held".
abbrev pub next_below : Job → ℕ → Held
next_below o zero = None
next_below o (suc i) = Some (moved o 1 i 0)

-- the others: "for place i from 0 below the smaller of the widths a and p"
abbrev pub next_above : Job → Held
next_above o = pick (ltb (o.i + 1) o.a.width && ltb (o.i + 1) o.p.width) (Some (moved o 1 (o.i + 1) 0)) None

-- "and within it j from 0 below b, with i+j below p"
abbrev pub next_within : Job → Held
next_within o = pick (ltb (o.j + 1) o.b.width && ltb (o.i + (o.j + 1)) o.p.width) (Some (moved o 1 o.i (o.j + 1))) (next_above o)

-- after the trial search, which counted m: "and, if any matched, ..." for extremes
abbrev pub after_trial : Kind → Job → ℕ → Held
after_trial k o m = by_kind k (pick (eqb m 0) (next_below o o.i) (Some (moved o 2 o.i 0)))
    (Some (moved o 2 o.i o.j)) (Some (moved o 2 o.i o.j)) None

-- after the pulse after it
abbrev pub after_second : Kind → Job → Held
after_second k o = by_kind k (next_below o o.i) (next_above o) (next_within o) None

unfoldable pub next : Job → ℕ → Held
next o m = pick (eqb o.phase 0) (Some (moved o 1 o.i 0))
    (pick (eqb o.phase 1) (after_trial (kind_of o.kind) o m) (after_second (kind_of o.kind) o))
