-- Document 01, 'The image': storing and resuming, as a host does them by the calls `write` and `read`.
use Rattle.std.specs.Prelude.{ℕ, ◌≡◌, List, length, take, Ok}
use Rattle.machine.specs.Machine.{machine}
use Rattle.job_plans.specs.Fields.{Held}
use Rattle.jobs.specs.Runs.{State}
use Rattle.image_layout.specs.Format.{held_jobs, AreResponses, JobsFit}
use Rattle.image.specs.Calls.{write_of, written, read_of, words_read, responses_read}

-- the host stores into `output`: writing is accepted, and the image is the first n bytes of the output, whatever that held before
pub record Stores (output : List ℕ) (s : State) (image : List ℕ) : Type 0 where
  pub size : ℕ
  pub accepted : write_of s (length output) ≡ Ok size
  pub bytes : image ≡ take size (written s output)

-- the host resumes into `words` and `responses`: reading is accepted, and the machine has the width and the job answered and the first n of each
-- destination, whatever these held before
pub record Resumes (words responses image : List ℕ) (s : State) : Type 0 where
  pub width : ℕ
  pub size : ℕ
  pub held : Held
  pub accepted : read_of image (length words) (length responses) ≡ Ok (record { width = width; words = size; held = held })
  pub stands : s ≡ record { machine = machine width (take size (words_read image words responses)) (take size (responses_read image words responses)); held = held }

-- what the types of the buffers and of the job say: responses, key and care are responses, c is a number of 64 bits
pub record Typed (s : State) : Type 0 where
  pub responses : AreResponses s.machine.responses
  pub job : JobsFit (held_jobs s.held)
