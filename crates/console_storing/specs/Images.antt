-- What the commands store, list, room, resume and fit do, in the words of docs/BOARD.md, on the board's machine and the job it holds
-- (`state`). `args` are the words after the command's name, `bytes` the room that the console lends for an image.
use Rattle.std.specs.Prelude.{ℕ, Bool, ◌&&◌, List, [], ◌∷◌, ◌++◌, Option, Some, None, Result, Ok, Err, leb, length, take, drop}
use Rattle.std.proofs.lemmas.List.Edits.{sets}
use Rattle.laws.specs.Bits.{pick}
use Rattle.jobs.specs.Runs.{State}
use Rattle.machine.specs.declared.Refusal.{Refusal}
use Rattle.image.specs.declared.Loaded.{Loaded}
use Rattle.image.specs.Calls.{write_of, written, read_of, words_read, responses_read}
use Rattle.text.specs.Numbers.{letter_of, pairs, bytes_of}
use Rattle.text.specs.Rows.{fits, values, number_at}
use Rattle.console_commands.specs.declared.Board.{Board}
use Rattle.console_commands.specs.declared.Turn.{Turn}
use Rattle.console_commands.specs.declared.Outcome.{Outcome}
use Rattle.console_commands.specs.declared.Outcome.TheVariants as outcome
use Rattle.console_commands.specs.Ends.{bad_line, fine, refused}

-- ---- written

-- what is printed of an image of n bytes that was written, or the refusal
abbrev pub wrote_or : (ℕ → Outcome) → Result ℕ Refusal → Outcome
wrote_or say (Ok n) = say n
wrote_or say (Err why) = outcome.Refused why

-- "store: writes the image", "all its bytes"; "list: what the program `list` prints of the machine's image"
abbrev pub store_outcome : List (List ℕ) → State → ℕ → Outcome
store_outcome args s room = pick (fits "" args) (wrote_or outcome.Image (write_of s room)) outcome.BadLine

abbrev pub list_outcome : List (List ℕ) → State → ℕ → Outcome
list_outcome args s room = pick (fits "" args) (wrote_or outcome.Listing (write_of s room)) outcome.BadLine

abbrev pub stored : List (List ℕ) → State → List ℕ → List ℕ
stored args s bytes = pick (fits "" args) (written s bytes) bytes

-- "room K: writes the image into an output of K bytes (0 to 20000)", of which the console has `room`
abbrev pub output_of : List (List ℕ) → ℕ
output_of args = number_at (values "k" args) 0

abbrev pub has_output : List (List ℕ) → ℕ → Bool
has_output args room = fits "k" args && leb (output_of args) room

abbrev pub room_outcome : List (List ℕ) → State → ℕ → Outcome
room_outcome args s room = pick (has_output args room) (wrote_or outcome.Length (write_of s (output_of args))) outcome.BadLine

abbrev pub room_written : List (List ℕ) → State → List ℕ → List ℕ
room_written args s bytes =
    let k = output_of args in pick (has_output args (length bytes)) (written s (take k bytes) ++ drop k bytes) bytes

-- ---- read

-- "An image is one word of digit pairs, or no word for an image of no bytes": the image's digits, and how many bytes they are
abbrev pub digits : List (List ℕ) → List ℕ
digits [] = []
digits (word ∷ more) = word

abbrev pub image_length : List (List ℕ) → ℕ → Option ℕ
image_length [] room = Some 0
image_length (word ∷ []) room = bytes_of room word
image_length (word ∷ (next ∷ more)) room = None

-- where they are kept: as many as there is room for, of the pairs that are some
abbrev pub kept : List (List ℕ) → List ℕ → List ℕ
kept [] bytes = bytes
kept (word ∷ []) bytes = sets bytes 0 (take (length bytes) (pairs word))
kept (word ∷ (next ∷ more)) bytes = bytes

-- "the machine is then the one read, the panel stays"
abbrev pub taken : Board → Result Loaded Refusal → Turn
taken b (Ok m) = fine (record { width = m.width; words = m.words; responses = m.words; panel = b.panel; held = m.held })
taken b (Err why) = refused b why

-- destinations of w words and r responses, which the console's buffers have
abbrev pub have : ℕ → ℕ → List ℕ → List ℕ → Bool
have w r words responses = leb w (length words) && leb r (length responses)

-- the line's image read into such destinations, the first w and r entries of the console's buffers
abbrev pub read_turn : Board → Option ℕ → List ℕ → Bool → ℕ → ℕ → Turn
read_turn b (Some n) image fit w r = pick fit (taken b (read_of image w r)) (bad_line b)
read_turn b None image fit w r = bad_line b

abbrev pub read_words : Option ℕ → List ℕ → Bool → ℕ → ℕ → List ℕ → List ℕ → List ℕ
read_words (Some n) image fit w r words responses =
    pick fit (words_read image (take w words) (take r responses) ++ drop w words) words
read_words None image fit w r words responses = words

abbrev pub read_responses : Option ℕ → List ℕ → Bool → ℕ → ℕ → List ℕ → List ℕ → List ℕ
read_responses (Some n) image fit w r words responses =
    pick fit (responses_read image (take w words) (take r responses) ++ drop r responses) responses
read_responses None image fit w r words responses = responses

-- what a reading command is: its two lengths, bad where the line's are, and the words of the image
pub record Reading : Type 0 where
  pub words : Option ℕ
  pub responses : Option ℕ
  pub image : List (List ℕ)

-- "resume HEX..: into the machine's own buffers, made 1024 long for it"
abbrev pub resuming : List (List ℕ) → Reading
resuming args = record { words = Some 1024; responses = Some 1024; image = args }

-- "fit W R HEX..: the same into destinations of W words and R responses (0 to 2048 each)"
abbrev pub fitting : List (List ℕ) → Reading
fitting [] = record { words = None; responses = None; image = [] }
fitting (w ∷ []) = record { words = None; responses = None; image = [] }
fitting (w ∷ (r ∷ image)) = record { words = letter_of 110 w; responses = letter_of 110 r; image = image }

-- the numbers of a reading, and a bad line where one is bad
abbrev pub both : {A : Type 0} → Option ℕ → Option ℕ → (ℕ → ℕ → A) → A → A
both (Some w) (Some r) good bad = good w r
both (Some w) None good bad = bad
both None r good bad = bad

abbrev pub reading_turn : Board → Reading → List ℕ → List ℕ → ℕ → Turn
reading_turn b q words responses room =
    both q.words q.responses
    (λ w r. read_turn b (image_length q.image room) (pairs (digits q.image)) (have w r words responses) w r)
    (bad_line b)

abbrev pub reading_words : Reading → List ℕ → List ℕ → ℕ → List ℕ
reading_words q words responses room =
    both q.words q.responses
    (λ w r. read_words (image_length q.image room) (pairs (digits q.image)) (have w r words responses) w r words responses)
    words

abbrev pub reading_responses : Reading → List ℕ → List ℕ → ℕ → List ℕ
reading_responses q words responses room =
    both q.words q.responses
    (λ w r. read_responses (image_length q.image room) (pairs (digits q.image)) (have w r words responses) w r words responses)
    responses

-- the console's room for an image afterwards
abbrev pub reading_bytes : Reading → List ℕ → List ℕ
reading_bytes q bytes = both q.words q.responses (λ w r. kept q.image bytes) bytes
