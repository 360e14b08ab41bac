-- Which command a line for the array is, and all that stands after it: docs/BOARD.md, the table of the array's lines.
use Rattle.std.specs.Prelude.{ℕ, Bool, ◌&&◌, List, [], ◌∷◌, ◌++◌, leb, eqb, length, get_or, take, drop, Option}
use Rattle.laws.specs.Bits.{pick}
use Rattle.text.specs.Rows.{fits}
use Rattle.array.specs.Operations.{Array, array}
use Rattle.array.specs.declared.Operation.{Operation}
use Rattle.array_lines.specs.Choices.{place_in, search_line, read_line, write_line}
use Rattle.array_console.specs.declared.Rack.{Rack}
use Rattle.array_console.specs.declared.Turn.{Turn}
use Rattle.array_console.specs.declared.Outcome.TheVariants as outcome
use Rattle.array_console.specs.Commands as commands

-- the rack and its three buffers
pub record Bench : Type 0 where
  pub rack : Rack
  pub ones : List ℕ
  pub xs : List ℕ
  pub selectors : List ℕ

abbrev pub bench : Rack → List ℕ → List ℕ → List ℕ → Bench
bench k ones xs selectors = record { rack = k; ones = ones; xs = xs; selectors = selectors }

pub record After : Type 0 where
  pub turn : Turn
  pub ones : List ℕ
  pub xs : List ℕ
  pub selectors : List ℕ

abbrev pub buffers : Turn → List ℕ → List ℕ → List ℕ → After
buffers t ones xs selectors = record { turn = t; ones = ones; xs = xs; selectors = selectors }

-- a turn and nothing else
abbrev pub only : Bench → Turn → After
only b t = buffers t b.ones b.xs b.selectors

abbrev pub array_of : Bench → Array
array_of b = array b.rack.width b.ones b.xs b.selectors

abbrev pub operated : Bench → Option Operation → After
operated b asked =
    let a = commands.operate_after b.rack asked (array_of b) in
    buffers (commands.operate_turn b.rack asked (array_of b)) a.ones a.xs a.selectors

-- ---- the commands that are lent just the array's own entries

abbrev pub doings : Bench → List (List ℕ) → List After
doings b args =
    let k = b.rack in
    buffers (commands.ended k (commands.cells_outcome args b.ones b.xs))
    (commands.cells_written 1 args b.ones b.xs b.ones)
    (commands.cells_written 2 args b.ones b.xs b.xs)
    b.selectors
    ∷ buffers (commands.ended k (commands.selectors_outcome args b.selectors)) b.ones b.xs (commands.selectors_written args b.selectors)
    ∷ only b (commands.loaded k args)
    ∷ operated b (search_line args)
    ∷ operated b (read_line args)
    ∷ operated b (write_line args)
    ∷ only b (commands.ended k (commands.list_outcome args))
    ∷ []

unfoldable pub on_own : Bench → List ℕ → List (List ℕ) → After
on_own b name args =
    get_or (doings b args) (place_in "cell3 select3 load3 search3 read3 write3 list3" name) (only b (commands.ended b.rack outcome.BadLine))

-- ---- these on the first of the console's buffers

abbrev pub own : Bench → Bench
own b = bench b.rack (take b.rack.words b.ones) (take b.rack.words b.xs) (take b.rack.words b.selectors)

abbrev pub behind : Bench → After → After
behind b a =
    buffers a.turn
    (a.ones ++ drop b.rack.words b.ones)
    (a.xs ++ drop b.rack.words b.xs)
    (a.selectors ++ drop b.rack.words b.selectors)

abbrev pub has_room : Bench → Bool
has_room b = leb b.rack.words (length b.ones) && leb b.rack.words (length b.xs) && leb b.rack.words (length b.selectors)

-- ---- and `cells3`, which makes all of them anew

abbrev pub makes : Bench → List (List ℕ) → After
makes b args =
    let right = fits "bn" args in
    buffers (commands.made b.rack args) (commands.cleared right b.ones) (commands.cleared right b.xs) (commands.cleared right b.selectors)

unfoldable pub named : Bench → List ℕ → List (List ℕ) → After
named b name args =
    pick (eqb (place_in "cells3" name) 0) (makes b args)
    (pick (has_room b) (behind b (on_own (own b) name args)) (only b (commands.ended b.rack outcome.BadLine)))

-- a line's first word is the command's name
unfoldable pub obeyed : Bench → List (List ℕ) → After
obeyed b [] = only b (commands.ended b.rack outcome.BadLine)
obeyed b (name ∷ args) = named b name args
