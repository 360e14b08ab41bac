-- A job for a caller in another language: "its record as the image has it, no job a record of no bytes" (house; docs/DECISIONS.md).
use Rattle.std.specs.Prelude.{ℕ, not, ◌||◌, List, [], eqb, length, Option, Some, None}
use Rattle.laws.specs.Bits.{pick}
use Rattle.machine.specs.declared.Refusal.TheVariants.{Size}
use Rattle.machine.specs.Refusals.{Check, refuse}
use Rattle.job_plans.specs.declared.Job.{Job}
use Rattle.image_layout.specs.Sizes.{record_size}
use Rattle.image_layout.specs.Format.{bytes, job_bytes, job_of, held_jobs}

-- a record of a wrong length is 1: where one has to be ..
abbrev pub record_check : List ℕ → Check
record_check bs = refuse Size (not (eqb (length bs) record_size))

-- .. and where there may be none
abbrev pub held_check : List ℕ → Check
held_check bs = refuse Size (not (eqb (length bs) 0 || eqb (length bs) record_size))

-- the job of a record, and of one that is refused all zeros
abbrev pub job_in : List ℕ → Job
job_in bs = job_of (pick (eqb (length bs) record_size) bs [])

abbrev pub held_in : List ℕ → Option Job
held_in bs = pick (eqb (length bs) record_size) (Some (job_of bs)) None

-- the record that is written of what is held: zeros, which every call refuses as a job, where nothing is
abbrev pub record_of : Option Job → List ℕ
record_of None = bytes record_size 0
record_of (Some o) = job_bytes o

-- 1 if a job is held, 0 if none is
abbrev pub count_held : Option Job → ℕ
count_held h = length (held_jobs h)
