-- A record is a job's bytes, whatever is held, and the job in it is read from its first byte on.
use Prim.Native.Nat.{ℕ}
use mathlib.Core.Path.{◌≡◌, refl}
use mathlib.Core.Bool.{Bool, true, false}
use mathlib.Core.List.{List, []}
use lib.ListN.{length}
use lib.Dec.{eqb}
use Rattle.std.specs.Prelude.{Option, Some, None, unwrap_or}
use Rattle.laws.specs.Bits.{pick}
use Rattle.job_plans.specs.declared.Job.{Job}
use Rattle.image_layout.specs.Sizes.{record_size}
use Rattle.image_layout.specs.Format.{job_of}
use Rattle.image_layout.proofs.Format.{length_bytes, length_job}
use Rattle.entry_forms.specs.Records.{job_in, held_in, record_of}

-- ---- reading

pub job_read : (bs : List ℕ) → unwrap_or (held_in bs) (job_of []) ≡ job_in bs
job_read bs = go (eqb (length bs) record_size)
  where
    go : (b : Bool) → unwrap_or (pick b (Some (job_of bs)) None) (job_of []) ≡ job_of (pick b bs [])
    go true = refl
    go false = refl

-- ---- writing

pub length_record : (h : Option Job) → length (record_of h) ≡ record_size
length_record None = length_bytes record_size 0
length_record (Some o) = length_job o
