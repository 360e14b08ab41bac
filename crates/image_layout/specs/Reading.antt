-- Document 01, number 9: which bytes are the image of a machine, and the place of the first field that is not right.
-- "The place in 9 is the offset of the first field, read in order, that is cut off or breaks a rule (a job is one field), or of the first byte
-- too many."
use Rattle.std.specs.Prelude.{ℕ, zero, suc, ◌+◌, Bool, true, not, ◌&&◌, List, [], ◌∷◌, ◌++◌, ltb, leb, eqb, length, take, drop, replicate, Result, Ok, Err}
use Rattle.laws.specs.Bits.{pick}
use Rattle.machine.specs.Refusals.{bad_width, too_wide, passes}
use Rattle.job_plans.specs.declared.Job.{Job}
use Rattle.job_plans.specs.Places.{held_check}
use Rattle.jobs.specs.Runs.{State, state}
use Rattle.image_layout.specs.Sizes.{count_size, width_size, word_size, response_size, record_size, most_jobs, items_at, width_at, words_at, responses_at, jobs_at}
use Rattle.image_layout.specs.Format.{value, number_at, job_of, held_of}

-- a field: how many bytes, and its rule
pub record Field : Type 0 where
  pub size : ℕ
  pub right : List ℕ → Bool

-- what a look through the bytes, field by field, finds: nothing wrong, or the place of the first field that is
abbrev pub Scanned : Type 0
Scanned = Result (Unit {0}) ℕ

-- field by field from this place on
unfoldable pub scan : List Field → ℕ → List ℕ → Scanned
scan [] at bs = pick (eqb (length bs) 0) (Ok tt) (Err at)
scan (f ∷ fs) at bs = pick (ltb (length bs) f.size) (Err at)
    (pick (f.right (take f.size bs)) (scan fs (at + f.size) (drop f.size bs)) (Err at))

-- ---- the fields, each with its rule

-- a count that must be this number
abbrev pub count_is : ℕ → Field
count_is n = record { size = count_size; right = λ bs. eqb (value bs) n }

-- "n words, 1 to 1,024, each of N bits, 1 to 64"
abbrev pub word_count : Field
word_count = record { size = count_size; right = λ bs. leb 1 (value bs) && leb (value bs) 1024 }

abbrev pub width_byte : Field
width_byte = record { size = width_size; right = λ bs. not (bad_width (value bs)) }

abbrev pub word_field : ℕ → Field
word_field n = record { size = word_size; right = λ bs. not (too_wide n (value bs)) }

abbrev pub response_field : Field
response_field = record { size = response_size; right = λ bs. true }

-- "job, count 0 or 1"
abbrev pub job_count : Field
job_count = record { size = count_size; right = λ bs. leb (value bs) most_jobs }

-- "A place outside the job's table is malformed."
abbrev pub job_field : ℕ → Field
job_field n = record { size = record_size; right = λ bs. passes (held_check n (job_of bs)) }

-- what the bytes say of width, words and jobs; it counts only where the fields before are right
abbrev pub width_in : List ℕ → ℕ
width_in bs = number_at width_size (items_at width_at) bs

abbrev pub words_in : List ℕ → ℕ
words_in bs = number_at count_size words_at bs

abbrev pub jobs_in : List ℕ → ℕ
jobs_in bs = number_at count_size (jobs_at (words_in bs)) bs

unfoldable pub fields_of : List ℕ → List Field
fields_of bs = count_is 1 ∷ width_byte
    ∷ word_count ∷ (replicate (words_in bs) (word_field (width_in bs))
    ++ (count_is (words_in bs) ∷ (replicate (words_in bs) response_field
    ++ (job_count ∷ replicate (jobs_in bs) (job_field (width_in bs))))))

unfoldable pub scanned : List ℕ → Scanned
scanned bs = scan (fields_of bs) 0 bs

-- ---- the machine that sound bytes stand for

-- n items of k bytes, as numbers
unfoldable pub numbers : ℕ → ℕ → List ℕ → List ℕ
numbers k zero bs = []
numbers k (suc n) bs = value (take k bs) ∷ numbers k n (drop k bs)

-- n records, as jobs
unfoldable pub records : ℕ → List ℕ → List Job
records zero bs = []
records (suc n) bs = job_of (take record_size bs) ∷ records n (drop record_size bs)

abbrev pub jobs_of : List ℕ → List Job
jobs_of bs = records (jobs_in bs) (drop (items_at (jobs_at (words_in bs))) bs)

unfoldable pub state_in : List ℕ → State
state_in bs = let n = words_in bs in
    state (width_in bs) (numbers word_size n (drop (items_at words_at) bs)) (numbers response_size n (drop (items_at (responses_at n)) bs)) (held_of (jobs_of bs))

-- ---- words of the theorems

-- of fields that begin at this place, the start of the one that has the byte at offset k
unfoldable pub start_of : List Field → ℕ → ℕ → ℕ
start_of [] at k = at
start_of (f ∷ fs) at k = pick (ltb k (at + f.size)) at (start_of fs (at + f.size) k)
