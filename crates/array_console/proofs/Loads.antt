-- A register's name and its number on a line, and the rack after the load.
use Prim.Native.Nat.{ℕ, ◌-◌}
use mathlib.Core.Bool.{true, false, ◌&&◌}
use mathlib.Core.Path.{◌≡◌, refl}
use mathlib.Core.List.{List, [], ◌∷◌}
use native.Mathlib.Omega.{arith}
use lib.ListN.{length, take, drop, get_or, length-drop}
use lib.Seq.{take_all}
use Rattle.laws.specs.Bits.{pick}
use Rattle.text.specs.Rows.{fits, values, number_at}
use Rattle.text.specs.Words.{joined, words_of}
use Rattle.array.specs.declared.Registers.{Registers}
use Rattle.array.specs.declared.Sink.{Sink}
use Rattle.array.specs.Registers as registers
use Rattle.array_lines.specs.declared.Choice.{Choice}
use Rattle.array_lines.specs.Choices.{place_in, is_in, sink_at}
use Rattle.array_lines.proofs.Names.{not_in, Chose, Missed}
use Rattle.array_console.specs.declared.Rack.{Rack}
use Rattle.array_console.specs.declared.Turn.{Turn}
use Rattle.array_console.specs.declared.Outcome.TheVariants as outcome
use Rattle.array_console.specs.Commands.{ended, with_registers, loaded}

-- the rack with the register at a place loaded
abbrev loaded_at : Rack → ℕ → ℕ → Rack
loaded_at k place value = with_registers k (registers.load (sink_at place) value k.registers)

loaded_is : (k : Rack) (args : List (List ℕ)) →
    loaded k args ≡
    pick (is_in "r1 r2 m" (get_or args 0 []) && fits "x" (drop 1 args))
    (ended (loaded_at k (place_in "r1 r2 m" (get_or args 0 [])) (number_at (values "x" (drop 1 args)) 0)) outcome.Fine)
    (ended k outcome.BadLine)
unfolding loaded
loaded_is k [] = rw (not_in "r1 r2 m")
loaded_is k (name ∷ args) = refl

-- the rest of a line from a place on, as code cuts it out
abbrev pub after : List ℕ → ℕ → List ℕ
after line from = take (length line - from) (drop from line)

pub after_is : (line : List ℕ) (from : ℕ) → after line from ≡ drop from line
after_is line from = take_all (length line - from) (drop from line) (omega (arith, length-drop from line))

-- ---- load3 R HEX

module _ (k : Rack) (line : List ℕ) where
  pub unnamed : Missed line 0 "r1 r2 m" 3 → ended k outcome.BadLine ≡ loaded k (words_of line)
  unfolding words_of joined
  unnamed h = rw (loaded_is, ← h)

  module _ (c : Choice) (chose : Chose line 0 "r1 r2 m" 3 c) where
    split : loaded k (words_of line) ≡
        pick (fits "x" (words_of (after line c.to)))
        (ended (loaded_at k c.place (number_at (values "x" (words_of (after line c.to))) 0)) outcome.Fine)
        (ended k outcome.BadLine)
    unfolding words_of joined
    split = rw (loaded_is, after_is line c.to, ← chose.0, chose.2.1, chose.1)

    pub misread : false ≡ fits "x" (words_of (after line c.to)) → ended k outcome.BadLine ≡ loaded k (words_of line)
    misread g = rw (split, ← g)

    pub wellread : true ≡ fits "x" (words_of (after line c.to)) → (row : List ℕ) → row ≡ values "x" (words_of (after line c.to)) →
        (s : Sink) → s ≡ sink_at c.place → (r : Registers) → r ≡ registers.load s (number_at row 0) k.registers →
        (t : Turn) → t ≡ ended (with_registers k r) outcome.Fine → t ≡ loaded k (words_of line)
    wellread g row reads s e0 r e1 t e2 = rw (split, ← g, e2, e1, e0, reads)
