-- Writing and reading an image for callers in other languages: what is refused, told and left (house, but for the calls' own definitions;
-- docs/DECISIONS.md, 'The library for C').
use Rattle.std.specs.Prelude.{ℕ, List, [], ◌∷◌, Result, Ok, Err, length}
use Rattle.std.proofs.lemmas.List.Edits.{sets}
use Rattle.machine.specs.declared.Refusal.{Refusal}
use Rattle.machine.specs.Refusals.{Check, answer_by, change_by}
use Rattle.jobs.specs.Runs.{State}
use Rattle.image_layout.specs.Format.{image_of}
use Rattle.image_layout.specs.Reading.{state_in}
use Rattle.image.specs.declared.Loaded.{Loaded}
use Rattle.image.specs.Calls.{write_check, read_check, ToldWrote, told_wrote, ToldRead, told_read}
use Rattle.entry_forms.specs.Numbers.{lower, room_check, tell_in}
use Rattle.entry_forms.specs.Records.{record_check, held_check, record_of, count_held}

-- ---- writing: of the machine and the job of the record, into a buffer

abbrev pub write_size : ℕ
write_size = 3

abbrev pub write_numbers : ToldWrote → List ℕ
write_numbers t = t.refusal ∷ t.also ∷ t.size ∷ []

abbrev pub write_own : List ℕ → ℕ → Check
write_own job room = lower (held_check job) (room_check write_size room)

unfoldable pub write_entry : State → List ℕ → List ℕ → ℕ → Check
write_entry s job image room = lower (write_own job room) (write_check s (length image))

unfoldable pub write_told : State → List ℕ → List ℕ → ℕ → ToldWrote
write_told s job image room = told_wrote (answer_by (write_entry s job image room) (length (image_of s)))

unfoldable pub write_left : State → List ℕ → List ℕ → ℕ → List ℕ
write_left s job image room = change_by (write_entry s job image room) (sets image 0 (image_of s)) image

-- ---- reading: into words, responses and a record

abbrev pub read_size : ℕ
read_size = 5

abbrev pub read_numbers : ToldRead → List ℕ
read_numbers t = t.refusal ∷ t.also ∷ t.width ∷ t.words ∷ count_held t.held ∷ []

abbrev pub read_own : List ℕ → ℕ → Check
read_own job room = lower (record_check job) (room_check read_size room)

-- by the image, the lengths of the two destinations, the record and the room for the answer
unfoldable pub read_entry : List ℕ → ℕ → ℕ → List ℕ → ℕ → Check
read_entry image words responses job room = lower (read_own job room) (read_check image words responses)

abbrev pub read_by : Check → List ℕ → Result Loaded Refusal
read_by c image =
    let s = state_in image in
    answer_by c (record { width = s.machine.width; words = length s.machine.words; held = s.held })

unfoldable pub read_told : List ℕ → ℕ → ℕ → List ℕ → ℕ → ToldRead
read_told image words responses job room = told_read (read_by (read_entry image words responses job room) image)

unfoldable pub words_left : List ℕ → List ℕ → List ℕ → List ℕ → ℕ → List ℕ
words_left image ws rs job room = change_by (read_entry image (length ws) (length rs) job room) (sets ws 0 (state_in image).machine.words) ws

unfoldable pub responses_left : List ℕ → List ℕ → List ℕ → List ℕ → ℕ → List ℕ
responses_left image ws rs job room = change_by (read_entry image (length ws) (length rs) job room) (sets rs 0 (state_in image).machine.responses) rs

abbrev pub read_in : Result Loaded Refusal → List ℕ → List ℕ
read_in (Ok m) job = tell_in (record_of m.held) job
read_in (Err r) job = job

unfoldable pub record_left : List ℕ → ℕ → ℕ → List ℕ → ℕ → List ℕ
record_left image words responses job room = read_in (read_by (read_entry image words responses job room) image) job
