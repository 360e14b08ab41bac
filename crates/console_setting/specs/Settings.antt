-- What the commands machine, lend, word, response, load, panel, job and drop do, in the words of docs/BOARD.md.
-- `args` are the words after the command's name.
use Rattle.std.specs.Prelude.{ℕ, Bool, ◌&&◌, List, [], ◌∷◌, ltb, eqb, length, replicate, set, Some, None}
use Prim.Native.String.{String}
use Rattle.laws.specs.Bits.{pick}
use Rattle.machine.specs.declared.Panel.{Panel}
use Rattle.machine.specs.Panel.{panel_of, load}
use Rattle.job_plans.specs.declared.Job.{Job}
use Rattle.text.specs.Ascii.{ascii}
use Rattle.text.specs.Words.{words_of, place_of}
use Rattle.text.specs.Rows.{fits, values, number_at, byte_at}
use Rattle.console_commands.specs.declared.Board.{Board}
use Rattle.console_commands.specs.declared.Turn.{Turn}
use Rattle.console_commands.specs.declared.Outcome.{Outcome}
use Rattle.console_commands.specs.declared.Outcome.TheVariants as outcome
use Rattle.console_commands.specs.Boards.{fresh_board, holding}
use Rattle.console_commands.specs.Ends.{bad_line, fine}
use Rattle.console_commands.specs.Jobs.{response_at, job_of}

-- ---- the buffers

-- a buffer made anew where the line is right: "all 0"
abbrev pub cleared : Bool → List ℕ → List ℕ
cleared right old = pick right (replicate (length old) 0) old

-- "machine N n: width N (0 to 255), n words and n responses (0 to 2048), all 0; panel all 0; no job"
abbrev pub made : Board → List (List ℕ) → Turn
made b args = let row = values "bn" args in pick (fits "bn" args) (fine (fresh_board (byte_at row 0) (number_at row 1))) (bad_line b)

abbrev pub with_responses : Board → ℕ → Board
with_responses b m = record { width = b.width; words = b.words; responses = m; panel = b.panel; held = b.held }

-- "lend m: a response buffer of m entries (0 to 2048), all 0"
abbrev pub lent : Board → List (List ℕ) → Turn
lent b args = pick (fits "n" args) (fine (with_responses b (number_at (values "n" args) 0))) (bad_line b)

-- "the host writes word I of its own buffer, unchecked; I below n": whether a line of these letters has such an I
abbrev pub hits : String → List (List ℕ) → List ℕ → Bool
hits letters args buffer = fits letters args && ltb (number_at (values letters args) 0) (length buffer)

abbrev pub write_outcome : String → List (List ℕ) → List ℕ → Outcome
write_outcome letters args buffer = pick (hits letters args buffer) outcome.Fine outcome.BadLine

-- "word I HEX"
abbrev pub word_written : List (List ℕ) → List ℕ → List ℕ
word_written args words = let row = values "ax" args in pick (hits "ax" args words) (set words (number_at row 0) (number_at row 1)) words

-- "response I HEX", "HEX at most FF"
abbrev pub response_written : List (List ℕ) → List ℕ → List ℕ
response_written args responses =
    let row = values "ah" args in pick (hits "ah" args responses) (set responses (number_at row 0) (response_at row 1)) responses

-- ---- the panel

abbrev pub with_panel : Board → Panel → Board
with_panel b p = record { width = b.width; words = b.words; responses = b.responses; panel = p; held = b.held }

-- the registers' names in the order of their numbers
abbrev pub register_names : List (List ℕ)
register_names = words_of (ascii "comp sdr sc1 sc2 mor key care target address sc3")

-- "`comp` `sdr` `sc1` `sc2` `mor`, or `key` `care` `target` (at most FF)"; "the address, decimal, below 2^64"; 02 c: "load sc3 HEX"
abbrev pub letter_for : ℕ → String
letter_for register = pick (ltb register 5) "x" (pick (ltb register 8) "h" (pick (eqb register 8) "a" "x"))

-- register k loaded with the number that follows; "Loading one register of the panel changes that register and no other"
abbrev pub loaded_at : Board → ℕ → List (List ℕ) → Turn
loaded_at b k args =
    pick (ltb k 10 && fits (letter_for k) args)
    (fine (with_panel b (panel_of (load k (number_at (values (letter_for k) args) 0) b.panel))))
    (bad_line b)

-- "load R HEX", "load address A"; 02 c: "load sc3 HEX"
unfoldable pub loaded : Board → List (List ℕ) → Turn
loaded b [] = bad_line b
loaded b (name ∷ args) = loaded_at b (place_of name register_names) args

-- "panel: prints the panel"
abbrev pub panel_told : Board → List (List ℕ) → Outcome
panel_told b args = pick (fits "" args) (outcome.Registers b.panel) outcome.BadLine

-- ---- the held job

-- the job of a row with its place and its constant
abbrev pub placed : Job → ℕ → ℕ → ℕ → ℕ → Job
placed o phase i j c =
    record {
      kind = o.kind;
      key = o.key;
      care = o.care;
      x = o.x;
      y = o.y;
      a = o.a;
      b = o.b;
      p = o.p;
      phase = phase;
      i = i;
      j = j;
      c = c;
    }

-- "job KIND .. PHASE I J C: the host writes the held job's record itself, unchecked"
abbrev pub job_written : Board → List (List ℕ) → Turn
job_written b args =
    let row = values "bhhbbbbbbbbbbbx" args in
    pick (fits "bhhbbbbbbbbbbbx" args)
    (fine (holding b (Some (placed (job_of row) (byte_at row 11) (byte_at row 12) (byte_at row 13) (number_at row 14)))))
    (bad_line b)

-- "drop: the host drops the held job"
abbrev pub dropped : Board → List (List ℕ) → Turn
dropped b args = pick (fits "" args) (fine (holding b None)) (bad_line b)
