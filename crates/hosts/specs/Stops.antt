-- Document 01, 'Jobs' and 'The image': a job worked by steps, with images stored and stops in between.
use Rattle.std.specs.Prelude.{ℕ, suc, ◌≡◌, List, [], ◌∷◌, Ok}
use Rattle.job_plans.specs.Fields.{Held}
use Rattle.job_plans.specs.declared.Command.{Command}
use Rattle.jobs.specs.Calls.{step_of}
use Rattle.jobs.specs.Runs.{State, stepped}
use Rattle.hosts.specs.Images.{Stores, Resumes}

-- a stored image, how many pulses of the job stood behind it, and how many the host had given in all by then
pub record Kept : Type 0 where
  pub image : List ℕ
  pub pulses : ℕ
  pub given : ℕ

-- one of a list
pub data In (i : Kept) : List Kept → Type 0 where
  here : {is : List Kept} → In i (i ∷ is)
  there : {j : Kept} {is : List Kept} → In i is → In i (j ∷ is)

-- `Worked b k given s images`: from b the host has given steps, stored these images, and stopped and resumed from any of them, in any order and
-- number; nothing else has changed width, words, responses or job. Now s stands, and k pulses stand behind it: those given since b, or, after a
-- stop, since b up to the image that was read. `given` counts all steps that were really given: no stop sets it back
pub data Worked (b : State) : ℕ → ℕ → State → List Kept → Type 0 where
  begun : Worked b 0 0 b []
  gave : {k given : ℕ} {s : State} {images : List Kept} {c : Command} {n : ℕ} {h : Held} → Worked b k given s images
      → step_of s.machine s.held ≡ Ok (record { command = c; count = n; held = h }) → Worked b (suc k) (suc given) (stepped s) images
  stored : {k given : ℕ} {s : State} {images : List Kept} {output image : List ℕ} → Worked b k given s images → Stores output s image
      → Worked b k given s (record { image = image; pulses = k; given = given } ∷ images)
  resumed : {k given : ℕ} {s t : State} {images : List Kept} {i : Kept} {words responses : List ℕ} → Worked b k given s images → In i images
      → Resumes words responses i.image t
      → Worked b i.pulses given t images

-- each resume was from an image with no step after it: the one stored last, or one stored beside it
unfoldable pub NothingLost : {b : State} {k given : ℕ} {s : State} {images : List Kept} → Worked b k given s images → Type 0
NothingLost begun = Unit {0}
NothingLost (gave w e) = NothingLost w
NothingLost (stored w e) = NothingLost w
NothingLost (resumed {given = given} {i = i} w p r) = (i.given ≡ given) × NothingLost w
