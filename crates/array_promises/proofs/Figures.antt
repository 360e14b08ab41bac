-- Source document 001, 'Associative processing array': its truth tables; and docs/BOARD.md, 'Cells of three states': its examples, with M stored by
-- two writes, as rows of one table under one statement.
use Prim.Native.Nat.{ℕ}
use mathlib.Core.Path.{◌≡◌, refl}
use mathlib.Core.List.{List, [], ◌∷◌, map}
use mathlib.Core.Bool.{true}
use Rattle.laws.specs.Bits.{number, every, digit}
use Rattle.laws.specs.Lists.{all}
use Rattle.machine.specs.Refusals.{bad_size, bad_width}
use Rattle.array.specs.declared.Cell.{Cell}
use Rattle.array.specs.declared.Cell.TheVariants.{Zero, One, X}
use Rattle.array.specs.declared.Registers.{Registers}
use Rattle.array.specs.declared.Source.TheVariants as source
use Rattle.array.specs.declared.Mask.TheVariants as mask
use Rattle.array.specs.declared.Latches.TheVariants as latches
use Rattle.array.specs.declared.Selector.TheVariants as selector
use Rattle.array.specs.declared.Form.TheVariants.{True, Complement}
use Rattle.array.specs.declared.Wanted.TheVariants.{Agree, Disagree}
use Rattle.array.specs.declared.Combine.TheVariants.{Replace, And}
use Rattle.array.specs.declared.Sink.TheVariants as sink
use Rattle.array.specs.declared.Kind.TheVariants.{Normal, Special}
use Rattle.array.specs.declared.Operation.{Operation}
use Rattle.array.specs.declared.Operation.TheVariants.{Search, Read, Write}
use Rattle.array.specs.Cells.{argument, mismatch, written}
use Rattle.array.specs.Words.{word, words, each, how_many, lowest_word}
use Rattle.array.specs.Selectors.{marked}
use Rattle.array.specs.Operations.{Array, array, agrees, bus, read_into, written_to, word_after, registers_after, counted}
use Rattle.array.specs.Refusals.{bad_sizes, first_too_wide, bad_cells, bad_registers, call_check, answer_of, after, Told, told}

-- ---- 001's truth tables

-- what f gives for each of the rows and each of the columns
abbrev grid : {A B C : Type 0} → (A → B → C) → List A → List B → List (List C)
grid f rows columns = map (λ row. map (f row) columns) rows

abbrev bits : List ℕ
bits = 0 ∷ 1 ∷ []

abbrev states : List Cell
states = Zero ∷ One ∷ X ∷ []

-- a register's one bit after a read, under this mask, of one word of one cell
abbrev loaded : ℕ → ℕ → ℕ → ℕ → ℕ
loaded one x m old = read_into 1 m old (λ byte. true) (word one x 0 ∷ [])

-- "Generation of search arguments": the mask, the data; "Generation of mismatch signals": the argument, the cell; "Effect of Read operation on
-- specified register": the bus, the mask, "No change" under 0, and "an X state reads as zero"; "Write Normal" and "Write Special": the argument,
-- for any cell
pub truth_tables : (grid argument bits bits ≡ (X ∷ X ∷ []) ∷ (Zero ∷ One ∷ []) ∷ [])
    × (grid (λ a c. digit (mismatch a c)) states states ≡ (0 ∷ 1 ∷ 0 ∷ []) ∷ (1 ∷ 0 ∷ 0 ∷ []) ∷ (0 ∷ 0 ∷ 0 ∷ []) ∷ [])
    × (grid (λ b m. map (loaded b 0 m) bits) bits bits ≡ (bits ∷ (0 ∷ 0 ∷ []) ∷ []) ∷ (bits ∷ (1 ∷ 1 ∷ []) ∷ []) ∷ [])
    × (map (λ m. map (loaded 0 1 m) bits) bits ≡ bits ∷ (0 ∷ 0 ∷ []) ∷ [])
    × ((c : Cell) → map (λ a. written Normal a c) states ≡ Zero ∷ One ∷ c ∷ [])
    × ((c : Cell) → map (λ a. written Special a c) states ≡ X ∷ X ∷ c ∷ [])
unfolding number read_into bus
truth_tables = (refl, refl, refl, refl, λ c. refl, λ c. refl)

-- ---- BOARD.md's examples: "Here each word is a rule for households of 8 bits"

-- what can be seen of an operation: the whole answer and the array afterwards
pub record Shown : Type 0 where
  pub answer : Told
  pub array : Array

-- what the definitions give, and what is stated
pub record Row : Type 0 where
  pub given : Shown
  pub stated : Shown

-- an operation that is accepted: the count, the registers and the array afterwards
abbrev accepted : Array → Registers → Operation → ℕ → Registers → Array → Row
accepted a r o c r' a' =
    record {
      given = record { answer = told (answer_of a r o); array = after a r o };
      stated = record { answer = record { refusal = 0; also = 0; registers = r'; count = c }; array = a' };
    }

-- one that is turned down: the number and the word
abbrev refused : Array → Registers → Operation → ℕ → ℕ → Row
refused a r o k also =
    record {
      given = record { answer = told (answer_of a r o); array = after a r o };
      stated = record { answer = record { refusal = k; also = also; registers = record { r1 = 0; r2 = 0; m = 0 }; count = 0 }; array = a };
    }

abbrev registers : ℕ → ℕ → ℕ → Registers
registers r1 r2 m = record { r1 = r1; r2 = r2; m = m }

abbrev three : ℕ → ℕ → ℕ → List ℕ
three x y z = x ∷ y ∷ z ∷ []

abbrev rules : List ℕ → List ℕ → List ℕ → Array
rules = array 8

-- "Rule 0 is for those due in 3 days .. rule 1 for those that are not paused and due in 5; rule 2 for all": after no search, the first, the second
abbrev unasked : Array
unasked = rules (three 0x03 0x05 0x00) (three 0xF0 0x70 0xFF) (three 0 0 0)

abbrev asked : Array
asked = rules (three 0x03 0x05 0x00) (three 0xF0 0x70 0xFF) (three 1 0 1)

abbrev marked_twice : Array
marked_twice = rules (three 0x03 0x05 0x00) (three 0xF0 0x70 0xFF) (three 1 2 1)

-- after the first write, the second
abbrev blanked : Array
blanked = rules (three 0x03 0x00 0x00) (three 0xF0 0x7F 0xFF) (three 1 2 1)

abbrev filled : Array
filled = rules (three 0x03 0x03 0x03) (three 0xF0 0x70 0xF0) (three 1 2 1)

-- "A cell with a one in both planes is none of the three": rule 1 so written, and written past the width
abbrev no_cell : Array
no_cell = rules (three 0x03 0x05 0x03) (three 0xF0 0x75 0xF0) (three 1 2 1)

abbrev past : Array
past = rules (three 0x03 0x105 0x03) (three 0xF0 0x75 0xF0) (three 1 2 1)

-- 001: "the need to load and store the mask register from and to the array": M is no source of data, so two writes store it (house,
-- docs/DECISIONS.md 'How is M stored into the array?'), here into rule 1, which S selects. R1 holds 0, R2 all ones, M 0F: after the first write, the
-- second
abbrev cleared : Array
cleared = rules (three 0x03 0x00 0x03) (three 0xF0 0x00 0xF0) (three 1 2 1)

abbrev holding_m : Array
holding_m = rules (three 0x03 0x0F 0x03) (three 0xF0 0x00 0xF0) (three 1 2 1)

abbrev pub table : List Row
table =
    accepted unasked (registers 0x53 0 0) (Search source.R1 mask.Ones Agree latches.P Replace) 2 (registers 0x53 0 0) asked
    ∷ accepted asked (registers 0x53 0 0x0F) (Search source.R1 mask.M Disagree latches.S Replace) 2 (registers 0x53 0 0x0F) marked_twice
    ∷ accepted marked_twice (registers 0x53 0 0x0F) (Read selector.P True sink.R2 mask.M) 2 (registers 0x53 0x03 0x0F) marked_twice
    ∷ accepted marked_twice (registers 0x53 0x03 0x0F) (Write Special source.R1 mask.M selector.S True) 1 (registers 0x53 0x03 0x0F) blanked
    ∷ accepted blanked (registers 0x53 0x03 0x0F) (Write Normal source.R1 mask.M selector.Zeros Complement) 3 (registers 0x53 0x03 0x0F) filled
    ∷ accepted filled (registers 0x00 0xFF 0x0F) (Write Normal source.R1 mask.Ones selector.S True) 1 (registers 0x00 0xFF 0x0F) cleared
    ∷ accepted cleared (registers 0x00 0xFF 0x0F) (Write Normal source.R2 mask.M selector.S True) 1 (registers 0x00 0xFF 0x0F) holding_m
    ∷ refused no_cell (registers 0x53 0x03 0x0F) (Search source.R1 mask.M Agree latches.P And) 12 0
    ∷ refused past (registers 0x53 0x03 0x0F) (Search source.R1 mask.M Agree latches.P And) 3 1
    ∷ []

-- the statement: what the definitions give is what is stated, in every row
pub figures : map (λ (r : Row). r.given) table ≡ map (λ (r : Row). r.stated) table
unfolding number every all bad_size bad_width words each how_many lowest_word marked agrees bus read_into written_to word_after registers_after counted bad_sizes first_too_wide bad_cells bad_registers call_check answer_of after
figures = refl
