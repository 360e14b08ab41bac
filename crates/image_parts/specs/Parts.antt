-- The image's parts, as the code looks at them one after the other.
use Rattle.std.specs.Prelude.{ℕ, Bool, false, List, ◌∷◌, ◌++◌, ltb, length, take, replicate, Ok, Err}
use Rattle.laws.specs.Bits.{pick}
use Rattle.image_layout.specs.Sizes.{count_size, jobs_at}
use Rattle.image_layout.specs.Format.{number_at}
use Rattle.image_layout.specs.Reading.{Field, count_is, response_field, job_count, job_field, Scanned}

-- the first field of these bytes is whole, and right
unfoldable pub holds : Field → List ℕ → Bool
holds f bs = pick (ltb (length bs) f.size) false (f.right (take f.size bs))

-- where nothing is wrong so far, what comes after
abbrev pub onward : Scanned → Scanned → Scanned
onward (Ok tt) later = later
onward (Err at) later = Err at

-- the fields from the job's count on, which is at this place
abbrev pub job_fields : ℕ → ℕ → List ℕ → List Field
job_fields n at bs = job_count ∷ replicate (number_at count_size at bs) (job_field n)

-- the fields after k words
abbrev pub after_words : ℕ → ℕ → List ℕ → List Field
after_words n k bs = count_is k ∷ (replicate k response_field ++ job_fields n (jobs_at k) bs)
