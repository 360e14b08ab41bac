-- What the commands pulse, cells, resolve, tree, why, show, done and faulty do, in the words of docs/BOARD.md: each is one call of the library on
-- the board's machine. `args` are the words after the command's name.
use Rattle.std.specs.Prelude.{ℕ, List, Option, Some, None, Result, Ok, Err}
use Rattle.laws.specs.Bits.{pick}
use Rattle.machine.specs.declared.Panel.{Panel}
use Rattle.machine.specs.declared.WordSlice.{WordSlice}
use Rattle.machine.specs.declared.ResponseBit.{ResponseBit}
use Rattle.machine.specs.declared.Lines.{Lines}
use Rattle.machine.specs.declared.Refusal.{Refusal}
use Rattle.machine.specs.declared.Answer.{Answer}
use Rattle.machine.specs.Machine.{Machine}
use Rattle.machine.specs.Refusals.{Check, answer_of, after}
use Rattle.explainer.specs.Reasons.{explained}
use Rattle.resolver.specs.Answers.{resolution}
use Rattle.rounds.specs.declared.Verdict.{Verdict}
use Rattle.rounds.specs.Round.{show_of, reply_of, after_answer}
use Rattle.text.specs.Rows.{fits, values, number_at, byte_at}
use Rattle.console_commands.specs.declared.Outcome.{Outcome}
use Rattle.console_commands.specs.declared.Outcome.TheVariants as outcome

-- ---- pulse and cells

-- "count C read HEX", or the refusal
abbrev pub told : Result Answer Refusal → Outcome
told (Ok done) = outcome.Pulsed done.count done.read
told (Err why) = outcome.Refused why

-- "pulse L..: one pulse"; "cells L..: the same pulse on the plain machine"
abbrev pub pulse_outcome : Option Lines → Machine → Panel → Outcome
pulse_outcome (Some lines) m p = told (answer_of m p lines)
pulse_outcome None m p = outcome.BadLine

abbrev pub pulse_after : Option Lines → Machine → Panel → Machine
pulse_after (Some lines) m p = after m p lines
pulse_after None m p = m

-- ---- resolve, tree, why and show

-- "`word I` or `none`", or the refusal
abbrev pub found : Result (Option WordSlice) Refusal → Outcome
found (Ok (Some word)) = outcome.Word word
found (Ok None) = outcome.NoWord
found (Err why) = outcome.Refused why

-- "resolve: resolution under the panel's key and care"; "tree: the same, by the network"
abbrev pub resolve_outcome : List (List ℕ) → Machine → Panel → Outcome
resolve_outcome args m p = pick (fits "" args) (found (resolution p.key p.care m)) outcome.BadLine

-- "why I: why word I (below 2^64) is or is not picked by a search under the panel"
abbrev pub why_outcome : List (List ℕ) → Machine → Panel → Outcome
why_outcome args m p = pick (fits "a" args) (outcome.Why (explained m p (record { 0 = number_at (values "a" args) 0 }))) outcome.BadLine

-- number k of a row, as a response bit's
abbrev pub bit_in : List ℕ → ℕ → ResponseBit
bit_in row k = record { 0 = byte_at row k }

-- "show X: the round's next word; X 0 to 255"
abbrev pub show_outcome : List (List ℕ) → Machine → Outcome
show_outcome args m = pick (fits "b" args) (found (show_of (bit_in (values "b" args) 0) m)) outcome.BadLine

-- ---- done and faulty

-- "ok", or the refusal
abbrev pub replied : Check → Outcome
replied (Ok tt) = outcome.Fine
replied (Err why) = outcome.Refused why

-- "done X F I": X and F 0 to 255, I below 2^64
abbrev pub word_in : List ℕ → WordSlice
word_in row = record { 0 = number_at row 2 }

abbrev pub answer_outcome : List (List ℕ) → Machine → Outcome
answer_outcome args m =
    let row = values "bba" args in
    pick (fits "bba" args) (replied (reply_of (bit_in row 0) (bit_in row 1) (word_in row) m)) outcome.BadLine

abbrev pub answer_after : List (List ℕ) → Verdict → Machine → Machine
answer_after args verdict m =
    let row = values "bba" args in
    pick (fits "bba" args) (after_answer (bit_in row 0) (bit_in row 1) (word_in row) verdict m) m
