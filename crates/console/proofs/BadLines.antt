-- "a line that isn't one of those .. prints `bad line` and changes nothing": where a line's outcome is `bad line`, the board and its two
-- buffers are what they were. The console's room for an image is scratch.
use Prim.Native.Nat.{ℕ, zero, suc}
use Prim.Native.String.{String}
use mathlib.Core.Path.{◌≡◌, refl}
use mathlib.Core.Bool.{Bool, true, false, ◌&&◌}
use mathlib.Core.List.{List, [], ◌∷◌}
use lib.Dec.{leb, ltb}
use lib.ListN.{length, get_or, take-append-drop}
use Rattle.std.specs.Prelude.{Option, Some, None}
use Rattle.laws.specs.Bits.{pick}
use Rattle.machine.specs.Machine.{Machine}
use Rattle.machine.specs.Refusals.{answer_of}
use Rattle.machine.specs.declared.Panel.{Panel}
use Rattle.rounds.specs.Round.{reply_of}
use Rattle.jobs.specs.Calls.{start_of, step_of}
use Rattle.image.specs.Calls.{read_of}
use Rattle.text.specs.Ascii.{ascii}
use Rattle.text.specs.Words.{words_of, place_of}
use Rattle.text.specs.Rows.{fits, values}
use Rattle.console_commands.specs.declared.Board.{Board}
use Rattle.console_commands.specs.declared.Outcome.TheVariants as outcome
use Rattle.console_commands.specs.Ends.{bad_line}
use Rattle.console_setting.specs.Settings.{register_names, letter_for, loaded, hits}
use Rattle.machine.specs.declared.Lines.{Lines}
use Rattle.console_pulsing.specs.Lines.{lines_of}
use Rattle.console_pulsing.specs.Calls.{bit_in, word_in, pulse_outcome, pulse_after}
use Rattle.console_working.specs.Jobs.{offered}
use Rattle.console_storing.specs.Images.{image_length, read_turn, read_words, read_responses, fitting}
use Rattle.console.specs.Obeying.{Desk, After, among, only, unmarked, unchanged, behind, own, machine_of, state_of, looked, markings, marked, changes, changed, on_machine, reading, makings, named, obeyed}
use Rattle.console.proofs.Others.{wrong, wrong_turn, fine_other, told_other, replied_other, begun_other, given_other, ran_other, taken_other}

-- ---- definitions

infixr 5 ◌and◌
-- all entries of a table are so: one and the next
abbrev Each : {A : Type 0} → (A → Type 0) → List A → Type 0
Each p [] = Unit {0}
Each p (x ∷ xs) = p x × Each p xs

◌and◌ : {P Q : Type 0} → P → Q → P × Q
p and q = (p, q)

-- if this is a bad line, it leaves the board and its buffers
abbrev Still : Desk → After → Type 0
Still d a =
    a.turn.outcome ≡ outcome.BadLine → (a.turn.board ≡ d.board) × (a.words ≡ d.words) × (a.responses ≡ d.responses)

-- ---- what all of a table's entries are, and what stands for no name, the named one is

entry_at : {A : Type 0} (p : A → Type 0) (does : List A) (n : ℕ) (other : A) → Each p does → p other → p (get_or does n other)
entry_at p [] n other all e = e
entry_at p (x ∷ xs) zero other all e = all.0
entry_at p (x ∷ xs) (suc n) other all e = entry_at p xs n other all.1 e

entry : {A : Type 0} (p : A → Type 0) (names : String) (name : List ℕ) (does : List A) (other : A) → Each p does → p other →
    p (among names name does other)
entry p names name does = entry_at p does (place_of name (words_of (ascii names)))

-- ---- the commands with more ways than right and wrong

pulse_still : (l : Option Lines) (m : Machine) (p : Panel) (b : Board) → pulse_outcome l m p ≡ outcome.BadLine →
    (b ≡ b) × ((pulse_after l m p).words ≡ m.words) × ((pulse_after l m p).responses ≡ m.responses)
pulse_still (Some l) m p b e = let no = told_other (answer_of m p l) e in (refl, cc, cc)
pulse_still None m p b e = (refl, refl, refl)

load_still : (b : Board) (args : List (List ℕ)) → (loaded b args).outcome ≡ outcome.BadLine → (loaded b args).board ≡ b
unfolding loaded
load_still b [] e = refl
load_still b (name ∷ args) e =
    let k = place_of name register_names in rw (wrong_turn (ltb k 10 && fits (letter_for k) args) _ _ e fine_other) refl

read_still : (b : Board) (n : Option ℕ) (image : List ℕ) (fit : Bool) (w r : ℕ) (words responses : List ℕ) →
    (read_turn b n image fit w r).outcome ≡ outcome.BadLine → ((read_turn b n image fit w r).board ≡ b)
    × (read_words n image fit w r words responses ≡ words) × (read_responses n image fit w r words responses ≡ responses)
read_still b (Some n) image true w r words responses e = let no = taken_other b (read_of image w r) e in (cc, cc, cc)
read_still b (Some n) image false w r words responses e = (refl, refl, refl)
read_still b None image fit w r words responses e = (refl, refl, refl)

-- ---- the tables

module _ (d : Desk) (args : List (List ℕ)) where
  markings_still : Each (λ a. Still d (unchanged d a)) (markings d args)
  markings_still =
      let pulse = pulse_still (lines_of args) (machine_of d) d.board.panel d.board in
      let row = values "bba" args in
      let answer = replied_other (reply_of (bit_in row 0) (bit_in row 1) (word_in row) (machine_of d)) in
      (λ e. rw (wrong (hits "ax" args d.words) _ e fine_other) (refl, refl, refl))
      and (λ e. rw (wrong (hits "ah" args d.responses) _ e fine_other) (refl, refl, refl))
      and pulse
      and pulse
      and (λ e. rw (wrong (fits "bba" args) _ e answer) (refl, refl, refl))
      and (λ e. rw (wrong (fits "bba" args) _ e answer) (refl, refl, refl))
      and tt

  changes_still : Each (Still d) (changes d args)
  changes_still =
      let b = d.board in
      let start = start_of (machine_of d) b.held (offered args) in
      let step = step_of (machine_of d) b.held in
      (λ e. (load_still b args e, refl, refl))
      and (λ e. rw (wrong_turn (fits "bhhbbbbbbbbbbbx" args) _ _ e fine_other) (refl, refl, refl))
      and (λ e. rw (wrong_turn (fits "" args) _ _ e fine_other) (refl, refl, refl))
      and (λ e. rw (wrong_turn (fits "bhhbbbbbbbbx" args) _ _ e (begun_other b start)) (refl, refl, refl))
      and (λ e. rw (wrong_turn (fits "" args) _ _ e (given_other b step)) (refl, refl, refl))
      and (λ e. rw (wrong_turn (fits "" args) _ _ e (ran_other b step (state_of d))) (refl, refl, refl))
      and tt

  changed_still : (name : List ℕ) → Still d (changed d name args)
  unfolding changed marked
  changed_still name =
      entry (Still d) "load job drop start step run" name (changes d args) (unchanged d (marked d name args)) changes_still
      (entry (λ a. Still d (unchanged d a)) "word response pulse cells done faulty" name (markings d args)
      (unmarked d (looked d name args)) markings_still (λ e. (refl, refl, refl)))

module _ (d : Desk) where
  -- the machine's own entries are whole again with those behind them
  machine_still : (right : Bool) (name : List ℕ) (args : List (List ℕ)) →
      Still d (pick right (behind d (changed (own d) name args)) (only d (bad_line d.board)))
  machine_still true name args e =
      let s = changed_still (own d) args name e in
      (s.0, rw s.1 (take-append-drop d.board.words d.words), rw s.2 (take-append-drop d.board.responses d.responses))
  machine_still false name args e = (refl, refl, refl)

  reading_still : (w r : Option ℕ) (image : List (List ℕ)) → Still d (reading d (record { words = w; responses = r; image = image }))
  reading_still (Some w) (Some r) image e = read_still d.board (image_length image (length d.bytes)) _ _ w r d.words d.responses e
  reading_still (Some w) None image e = (refl, refl, refl)
  reading_still None r image e = (refl, refl, refl)

  makings_still : (args : List (List ℕ)) → Each (Still d) (makings d args)
  makings_still args =
      (λ e. rw (wrong_turn (fits "bn" args) _ _ e fine_other) (refl, refl, refl))
      and (λ e. rw (wrong_turn (fits "n" args) _ _ e fine_other) (refl, refl, refl))
      and reading_still (Some 1024) (Some 1024) args
      and reading_still (fitting args).words (fitting args).responses (fitting args).image
      and tt

-- ---- the law

pub bad_line_lem : (d : Desk) (ws : List (List ℕ)) → (obeyed d ws).turn.outcome ≡ outcome.BadLine →
    ((obeyed d ws).turn.board ≡ d.board) × ((obeyed d ws).words ≡ d.words) × ((obeyed d ws).responses ≡ d.responses)
unfolding obeyed named on_machine
bad_line_lem d [] e = (refl, refl, refl)
bad_line_lem d (name ∷ args) e =
    let has = leb d.board.words (length d.words) && leb d.board.responses (length d.responses) in
    entry (Still d) "machine lend resume fit" name (makings d args) _ (makings_still d args) (machine_still d has name args) e
