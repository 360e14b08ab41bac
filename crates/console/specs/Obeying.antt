-- Which command a line is, and all that stands after it: docs/BOARD.md, "Line". A table has the commands' names in one row and what each
-- does in the other, in the same order.
use Rattle.std.specs.Prelude.{ℕ, ◌&&◌, List, [], ◌∷◌, ◌++◌, leb, length, get_or, take, drop}
use Prim.Native.String.{String}
use Rattle.laws.specs.Bits.{pick}
use Rattle.machine.specs.Machine.{Machine, machine}
use Rattle.rounds.specs.declared.Verdict.TheVariants.{Done, Faulty}
use Rattle.jobs.specs.Runs.{State, state}
use Rattle.text.specs.Ascii.{ascii}
use Rattle.text.specs.Words.{words_of, place_of}
use Rattle.text.specs.Rows.{fits}
use Rattle.console_commands.specs.declared.Board.{Board}
use Rattle.console_commands.specs.declared.Turn.{Turn}
use Rattle.console_commands.specs.declared.Outcome.{Outcome}
use Rattle.console_commands.specs.declared.Outcome.TheVariants as outcome
use Rattle.console_commands.specs.Ends.{bad_line}
use Rattle.console_setting.specs.Settings as settings
use Rattle.console_pulsing.specs.Lines as naming
use Rattle.console_pulsing.specs.Calls as calls
use Rattle.console_working.specs.Jobs as jobs
use Rattle.console_storing.specs.Images as images

-- the board, its two buffers, and the console's room for an image
pub record Desk : Type 0 where
  pub board : Board
  pub words : List ℕ
  pub responses : List ℕ
  pub bytes : List ℕ

abbrev pub desk : Board → List ℕ → List ℕ → List ℕ → Desk
desk b words responses bytes = record { board = b; words = words; responses = responses; bytes = bytes }

abbrev pub machine_of : Desk → Machine
machine_of d = machine d.board.width d.words d.responses

abbrev pub state_of : Desk → State
state_of d = state d.board.width d.words d.responses d.board.held

-- the command of a name among these, or what no name of them is
abbrev pub among : {A : Type 0} → String → List ℕ → List A → A → A
among names name does other = get_or does (place_of name (words_of (ascii names))) other

-- ---- the commands that change nothing: what is to be printed, and the console's room for an image

pub record Looked : Type 0 where
  pub outcome : Outcome
  pub bytes : List ℕ

abbrev pub said : Desk → Outcome → Looked
said d out = record { outcome = out; bytes = d.bytes }

abbrev pub lookings : Desk → List (List ℕ) → List Looked
lookings d args =
    let m = machine_of d in
    let s = state_of d in
    let p = d.board.panel in
    let room = length d.bytes in
    said d (settings.panel_told d.board args)
    ∷ said d (calls.resolve_outcome args m p)
    ∷ said d (calls.resolve_outcome args m p)
    ∷ said d (calls.show_outcome args m)
    ∷ said d (jobs.total_outcome args s)
    ∷ record { outcome = images.store_outcome args s room; bytes = images.stored args s d.bytes }
    ∷ record { outcome = images.list_outcome args s room; bytes = images.stored args s d.bytes }
    ∷ record { outcome = images.room_outcome args s room; bytes = images.room_written args s d.bytes }
    ∷ said d (calls.why_outcome args m p)
    ∷ []

unfoldable pub looked : Desk → List ℕ → List (List ℕ) → Looked
looked d name args = among "panel resolve tree show total store list room why" name (lookings d args) (said d outcome.BadLine)

-- ---- those that change words and responses alone

pub record Marked : Type 0 where
  pub outcome : Outcome
  pub words : List ℕ
  pub responses : List ℕ
  pub bytes : List ℕ

abbrev pub marks : Desk → Outcome → List ℕ → List ℕ → Marked
marks d out words responses = record { outcome = out; words = words; responses = responses; bytes = d.bytes }

abbrev pub unmarked : Desk → Looked → Marked
unmarked d a = record { outcome = a.outcome; words = d.words; responses = d.responses; bytes = a.bytes }

abbrev pub markings : Desk → List (List ℕ) → List Marked
markings d args =
    let m = machine_of d in
    let p = d.board.panel in
    let lines = naming.lines_of args in
    let pulse = marks d (calls.pulse_outcome lines m p) (calls.pulse_after lines m p).words (calls.pulse_after lines m p).responses in
    marks d (settings.write_outcome "ax" args d.words) (settings.word_written args d.words) d.responses
    ∷ marks d (settings.write_outcome "ah" args d.responses) d.words (settings.response_written args d.responses)
    ∷ pulse
    ∷ pulse
    ∷ marks d (calls.answer_outcome args m) d.words (calls.answer_after args Done m).responses
    ∷ marks d (calls.answer_outcome args m) d.words (calls.answer_after args Faulty m).responses
    ∷ []

unfoldable pub marked : Desk → List ℕ → List (List ℕ) → Marked
marked d name args = among "word response pulse cells done faulty" name (markings d args) (unmarked d (looked d name args))

-- ---- those that change the panel or the held job

pub record After : Type 0 where
  pub turn : Turn
  pub words : List ℕ
  pub responses : List ℕ
  pub bytes : List ℕ

-- a turn and nothing else
abbrev pub only : Desk → Turn → After
only d t = record { turn = t; words = d.words; responses = d.responses; bytes = d.bytes }

-- and other buffers
abbrev pub buffers : Desk → Turn → List ℕ → List ℕ → After
buffers d t words responses = record { turn = t; words = words; responses = responses; bytes = d.bytes }

abbrev pub unchanged : Desk → Marked → After
unchanged d a =
    record {
      turn = record { board = d.board; outcome = a.outcome };
      words = a.words;
      responses = a.responses;
      bytes = a.bytes;
    }

abbrev pub changes : Desk → List (List ℕ) → List After
changes d args =
    let b = d.board in
    let s = state_of d in
    only d (settings.loaded b args)
    ∷ only d (settings.job_written b args)
    ∷ only d (settings.dropped b args)
    ∷ only d (jobs.start_turn b args s)
    ∷ buffers d (jobs.step_turn b args s) (jobs.step_after args s).machine.words (jobs.step_after args s).machine.responses
    ∷ buffers d (jobs.run_turn b args s) (jobs.run_after args s).machine.words (jobs.run_after args s).machine.responses
    ∷ []

unfoldable pub changed : Desk → List ℕ → List (List ℕ) → After
changed d name args = among "load job drop start step run" name (changes d args) (unchanged d (marked d name args))

-- ---- these on the machine's own entries, the first of the console's buffers

abbrev pub own : Desk → Desk
own d = desk d.board (take d.board.words d.words) (take d.board.responses d.responses) d.bytes

abbrev pub behind : Desk → After → After
behind d a =
    record {
      turn = a.turn;
      words = a.words ++ drop d.board.words d.words;
      responses = a.responses ++ drop d.board.responses d.responses;
      bytes = a.bytes;
    }

unfoldable pub on_machine : Desk → List ℕ → List (List ℕ) → After
on_machine d name args =
    pick (leb d.board.words (length d.words) && leb d.board.responses (length d.responses))
    (behind d (changed (own d) name args))
    (only d (bad_line d.board))

-- ---- and those that change how long the machine's buffers are

abbrev pub reading : Desk → images.Reading → After
reading d q =
    let room = length d.bytes in
    record {
      turn = images.reading_turn d.board q d.words d.responses room;
      words = images.reading_words q d.words d.responses room;
      responses = images.reading_responses q d.words d.responses room;
      bytes = images.reading_bytes q d.bytes;
    }

abbrev pub makings : Desk → List (List ℕ) → List After
makings d args =
    let b = d.board in
    buffers d (settings.made b args) (settings.cleared (fits "bn" args) d.words) (settings.cleared (fits "bn" args) d.responses)
    ∷ buffers d (settings.lent b args) d.words (settings.cleared (fits "n" args) d.responses)
    ∷ reading d (images.resuming args)
    ∷ reading d (images.fitting args)
    ∷ []

unfoldable pub named : Desk → List ℕ → List (List ℕ) → After
named d name args = among "machine lend resume fit" name (makings d args) (on_machine d name args)

-- a line's first word is the command's name; a line that isn't one of those "prints `bad line` and changes nothing"
unfoldable pub obeyed : Desk → List (List ℕ) → After
obeyed d [] = only d (bad_line d.board)
obeyed d (name ∷ args) = named d name args
