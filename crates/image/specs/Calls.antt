-- Document 01, 'The image': what writing and reading answer, and what they leave in what is lent.
-- "writing an image for 1 to 3, 8 and 10; reading one for 9 and 10"; for 8 document 02, request d, has 20 to 25, and "a damaged job in an image
-- stays 9".
use Rattle.std.specs.Prelude.{◌≡◌, ℕ, ◌||◌, List, [], ◌∷◌, ltb, length, None, Result, Ok, Err}
use Rattle.std.proofs.lemmas.List.Edits.{sets}
use Rattle.machine.specs.declared.Refusal.TheVariants.{Malformed, NoRoom}
use Rattle.machine.specs.Refusals.{◌else◌, refuse, machine_check, answer_by, change_by, number_of, also_answers, Check}
use Rattle.machine.specs.declared.Refusal.{Refusal}
use Rattle.job_plans.specs.Fields.{Held}
use Rattle.job_plans.specs.declared.Job.{Job}
use Rattle.job_plans.specs.Places.{held_check}
use Rattle.jobs.specs.Runs.{State}
use Rattle.image_layout.specs.Format.{held_jobs, image_of, AreResponses, JobsFit}
use Rattle.image_layout.specs.Reading.{words_in, scanned, state_in, Scanned}
use Rattle.image.specs.declared.Loaded.{Loaded}

-- ---- writing

-- 20 to 25: each held job as after its start; none is fine
abbrev pub jobs_check : ℕ → List Job → Check
jobs_check n [] = Ok tt
jobs_check n (o ∷ os) = held_check n o else jobs_check n os

-- 10: "output shorter than the image"
unfoldable pub write_check : State → ℕ → Check
write_check s room =
    machine_check s.machine else jobs_check s.machine.width (held_jobs s.held) else refuse NoRoom (ltb room (length (image_of s)))

unfoldable pub write_of : State → ℕ → Result ℕ Refusal
write_of s room = answer_by (write_check s room) (length (image_of s))

-- "writing [changes] only the image's own bytes"
unfoldable pub written : State → List ℕ → List ℕ
written s out = change_by (write_check s (length out)) (sets out 0 (image_of s)) out

-- ---- reading

-- 9
abbrev pub refuse_bytes : Scanned → Check
refuse_bytes (Ok tt) = Ok tt
refuse_bytes (Err at) = Err (Malformed at)

-- 10: "either destination shorter than n"
unfoldable pub read_check : List ℕ → ℕ → ℕ → Check
read_check bs words responses = refuse_bytes (scanned bs) else refuse NoRoom (ltb words (words_in bs) || ltb responses (words_in bs))

unfoldable pub read_of : List ℕ → ℕ → ℕ → Result Loaded Refusal
read_of bs words responses = let s = state_in bs in
    answer_by (read_check bs words responses) (record { width = s.machine.width; words = length s.machine.words; held = s.held })

-- "Reading changes only the first n of each destination"
unfoldable pub words_read : List ℕ → List ℕ → List ℕ → List ℕ
words_read bs ws rs = change_by (read_check bs (length ws) (length rs)) (sets ws 0 (state_in bs).machine.words) ws

unfoldable pub responses_read : List ℕ → List ℕ → List ℕ → List ℕ
responses_read bs ws rs = change_by (read_check bs (length ws) (length rs)) (sets rs 0 (state_in bs).machine.responses) rs

-- ---- each answer's number and values; "other answer fields are 0"

-- of writing: how many bytes the image has
pub record ToldWrote : Type 0 where
  pub refusal : ℕ
  pub also : ℕ
  pub size : ℕ

abbrev pub told_wrote : Result ℕ Refusal → ToldWrote
told_wrote (Ok k) = record { refusal = 0; also = 0; size = k }
told_wrote (Err r) = record { refusal = number_of r; also = also_answers r; size = 0 }

-- of reading: N, n and the job held, of which 0 is none (house)
pub record ToldRead : Type 0 where
  pub refusal : ℕ
  pub also : ℕ
  pub width : ℕ
  pub words : ℕ
  pub held : Held

abbrev pub told_read : Result Loaded Refusal → ToldRead
told_read (Ok l) = record { refusal = 0; also = 0; width = l.width; words = l.words; held = l.held }
told_read (Err r) = record { refusal = number_of r; also = also_answers r; width = 0; words = 0; held = None }

-- ---- words of the theorems

-- a machine and its jobs that pass the checks of writing but room; responses and jobs are as their types have them
pub record Stored (s : State) : Type 0 where
  pub machine : machine_check s.machine ≡ Ok tt
  pub jobs : jobs_check s.machine.width (held_jobs s.held) ≡ Ok tt
  pub responses : AreResponses s.machine.responses
  pub typed : JobsFit (held_jobs s.held)
