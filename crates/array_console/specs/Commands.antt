-- What the commands cells3, cell3, select3, load3, search3, read3, write3 and list3 do, in the words of docs/BOARD.md.
-- `args` are the words after the command's name.
use Rattle.std.specs.Prelude.{ℕ, Bool, ◌&&◌, List, [], ◌∷◌, ltb, length, replicate, set, Option, Some, None, Result, Ok, Err}
use Rattle.laws.specs.Bits.{pick}
use Rattle.text.specs.Rows.{fits, values, number_at, byte_at}
use Rattle.array.specs.declared.Registers.{Registers}
use Rattle.array.specs.declared.Answer.{Answer}
use Rattle.array.specs.Registers as registers
use Rattle.array.specs.Operations.{Array}
use Rattle.array.specs.Refusals.{answer_of, after}
use Rattle.array.specs.declared.Refusal.{Refusal}
use Rattle.array.specs.declared.Operation.{Operation}
use Rattle.array_lines.specs.Choices.{place_in, is_in, sink_at}
use Rattle.array_console.specs.declared.Rack.{Rack}
use Rattle.array_console.specs.declared.Turn.{Turn}
use Rattle.array_console.specs.declared.Outcome.{Outcome}
use Rattle.array_console.specs.declared.Outcome.TheVariants as outcome

-- ---- how a command ends

abbrev pub ended : Rack → Outcome → Turn
ended k out = record { rack = k; outcome = out }

abbrev pub with_registers : Rack → Registers → Rack
with_registers k r = record { width = k.width; words = k.words; registers = r }

-- ---- what the host does to its array

-- "a fresh array: width N .., n words ..; all cells, selectors and registers 0"
abbrev pub fresh_rack : ℕ → ℕ → Rack
fresh_rack width n = record { width = width; words = n; registers = record { r1 = 0; r2 = 0; m = 0 } }

-- a buffer made anew where the line is right: "all .. 0"
abbrev pub cleared : Bool → List ℕ → List ℕ
cleared right old = pick right (replicate (length old) 0) old

-- "cells3 N n"
abbrev pub made : Rack → List (List ℕ) → Turn
made k args =
    let row = values "bn" args in
    pick (fits "bn" args) (ended (fresh_rack (byte_at row 0) (number_at row 1)) outcome.Fine) (ended k outcome.BadLine)

-- "I below n": I is the first of a line's numbers
abbrev pub below : List ℕ → List ℕ → Bool
below row buffer = ltb (number_at row 0) (length buffer)

-- "the host writes word I's two planes, unchecked; I below n": whether a line has such an I
abbrev pub cells_hit : List (List ℕ) → List ℕ → List ℕ → Bool
cells_hit args ones xs = let row = values "axx" args in fits "axx" args && (below row ones && below row xs)

abbrev pub cells_outcome : List (List ℕ) → List ℕ → List ℕ → Outcome
cells_outcome args ones xs = pick (cells_hit args ones xs) outcome.Fine outcome.BadLine

-- "cell3 I ONES XS": a plane gets the number at its place of the line, 1 or 2
abbrev pub cells_written : ℕ → List (List ℕ) → List ℕ → List ℕ → List ℕ → List ℕ
cells_written place args ones xs plane =
    let row = values "axx" args in pick (cells_hit args ones xs) (set plane (number_at row 0) (number_at row place)) plane

-- "select3 I HEX": "I below n, HEX at most FF"
abbrev pub selectors_hit : List (List ℕ) → List ℕ → Bool
selectors_hit args selectors = fits "ah" args && below (values "ah" args) selectors

abbrev pub selectors_outcome : List (List ℕ) → List ℕ → Outcome
selectors_outcome args selectors = pick (selectors_hit args selectors) outcome.Fine outcome.BadLine

abbrev pub selectors_written : List (List ℕ) → List ℕ → List ℕ
selectors_written args selectors =
    let row = values "ah" args in pick (selectors_hit args selectors) (set selectors (number_at row 0) (byte_at row 1)) selectors

-- "load3 R HEX": "loads register R: `r1` `r2` `m`"
unfoldable pub loaded : Rack → List (List ℕ) → Turn
loaded k [] = ended k outcome.BadLine
loaded k (name ∷ args) =
    pick (is_in "r1 r2 m" name && fits "x" args)
    (ended (with_registers k (registers.load (sink_at (place_in "r1 r2 m" name)) (number_at (values "x" args) 0) k.registers)) outcome.Fine)
    (ended k outcome.BadLine)

-- "list3"
abbrev pub list_outcome : List (List ℕ) → Outcome
list_outcome args = pick (fits "" args) outcome.Listing outcome.BadLine

-- ---- the three operations: "the three operations print `count C`"

abbrev pub answered : Rack → Result Answer Refusal → Turn
answered k (Ok a) = ended (with_registers k a.registers) (outcome.Counted a.count)
answered k (Err why) = ended k (outcome.Refused why)

abbrev pub operate_turn : Rack → Option Operation → Array → Turn
operate_turn k (Some o) a = answered k (answer_of a k.registers o)
operate_turn k None a = ended k outcome.BadLine

abbrev pub operate_after : Rack → Option Operation → Array → Array
operate_after k (Some o) a = after a k.registers o
operate_after k None a = a
