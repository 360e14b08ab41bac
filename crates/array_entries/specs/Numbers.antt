-- An operation, the registers and an answer as plain numbers, for callers in other languages.
use Rattle.std.specs.Prelude.{ℕ, suc, ◌*◌, ◌/◌, ◌%◌, ◌^◌, Bool, ◌&&◌, List, [], ◌∷◌, ltb, eqb, length, get_or, Option, Some, None, Result, Ok, Err}
use Rattle.laws.specs.Bits.{pick}
use Rattle.array.specs.declared.Registers.{Registers}
use Rattle.array.specs.declared.Operation.{Operation}
use Rattle.array.specs.declared.Operation.TheVariants.{Search, Read, Write}
use Rattle.array.specs.declared.Answer.{Answer}
use Rattle.array.specs.declared.Refusal.{Refusal}
use Rattle.array.specs.Operations.{Array}
use Rattle.array.specs.Refusals.{Check, call_check, answer_of, after, Told, told}
use Rattle.array_lines.specs.Choices.{source_at, mask_at, wanted_at, latches_at, combine_at, selector_at, form_at, sink_at, kind_at}

-- ---- a code (house, docs/DECISIONS.md 'How does a caller in another language name an operation?'): digits to the base 4, the lowest 0 for search,
-- 1 for read, 2 for write; then the choices in the order of docs/BOARD.md, each the place of its name there

abbrev pub from : ℕ → ℕ → ℕ
from code k = code / 2 ^ (2 * k)

abbrev pub digit_of : ℕ → ℕ → ℕ
digit_of code k = from code k % 4

-- the digits from digit k up are each the place of one of so many names, and there is none above the last of them
unfoldable pub named : ℕ → ℕ → List ℕ → Bool
named code k [] = eqb (from code k) 0
named code k (names ∷ more) = ltb (digit_of code k) names && named code (suc k) more

-- DATA, MASK, WORDS, SET, HOW
abbrev pub is_search : ℕ → Bool
is_search code = named code 1 (2 ∷ 3 ∷ 2 ∷ 2 ∷ 3 ∷ [])

abbrev pub search_of : ℕ → Option Operation
search_of code =
    pick (is_search code)
    (Some (Search (source_at (digit_of code 1)) (mask_at (digit_of code 2)) (wanted_at (digit_of code 3)) (latches_at (digit_of code 4)) (combine_at (digit_of code 5))))
    None

-- SET, SENSE, SINK, MASK
abbrev pub is_read : ℕ → Bool
is_read code = named code 1 (3 ∷ 2 ∷ 3 ∷ 3 ∷ [])

abbrev pub read_of : ℕ → Option Operation
read_of code =
    pick (is_read code)
    (Some (Read (selector_at (digit_of code 1)) (form_at (digit_of code 2)) (sink_at (digit_of code 3)) (mask_at (digit_of code 4))))
    None

-- KIND, DATA, MASK, SET, SENSE
abbrev pub is_write : ℕ → Bool
is_write code = named code 1 (2 ∷ 2 ∷ 3 ∷ 3 ∷ 2 ∷ [])

abbrev pub write_of : ℕ → Option Operation
write_of code =
    pick (is_write code)
    (Some (Write (kind_at (digit_of code 1)) (source_at (digit_of code 2)) (mask_at (digit_of code 3)) (selector_at (digit_of code 4)) (form_at (digit_of code 5))))
    None

abbrev pub operation_of : ℕ → Option Operation
operation_of code =
    pick (eqb (digit_of code 0) 0) (search_of code)
    (pick (eqb (digit_of code 0) 1) (read_of code)
    (pick (eqb (digit_of code 0) 2) (write_of code) None))

-- ---- R1, R2 and M in a lent buffer of three

abbrev pub registers_of : List ℕ → Registers
registers_of held = record { r1 = get_or held 0 0; r2 = get_or held 1 0; m = get_or held 2 0 }

-- ---- what an entry is asked for by its code and by the room of the answer's buffer

-- how many numbers an answer has
abbrev pub answer_size : ℕ
answer_size = 6

-- a code that names no operation is 6, and a buffer without room for the answer 10
abbrev pub order_of : Option Operation → ℕ → Result Operation ℕ
order_of None room = Err 6
order_of (Some o) room = pick (ltb room answer_size) (Err 10) (Ok o)

-- ---- what it is told: in this order 1 for a buffer of registers that is not of three, the numbers of the operation itself, 6 and 10 (house)

-- a refusal that also answers nothing
abbrev pub refused : ℕ → Told
refused number = record { refusal = number; also = 0; registers = record { r1 = 0; r2 = 0; m = 0 }; count = 0 }

abbrev pub turned : Check → ℕ → Told
turned (Ok tt) number = refused number
turned (Err why) number = told (Err why)

abbrev pub told_by : Array → Registers → Result Operation ℕ → Told
told_by a r (Ok o) = told (answer_of a r o)
told_by a r (Err number) = turned (call_check a r) number

abbrev pub is_three : List ℕ → Bool
is_three held = eqb (length held) 3

unfoldable pub entry_told : Array → List ℕ → ℕ → ℕ → Told
entry_told a held code room =
    pick (is_three held) (told_by a (registers_of held) (order_of (operation_of code) room)) (refused 1)

-- the answer's numbers, in the order of `told`
abbrev pub numbers_of : Told → List ℕ
numbers_of t = t.refusal ∷ t.also ∷ t.registers.r1 ∷ t.registers.r2 ∷ t.registers.m ∷ t.count ∷ []

-- ---- what is left: nothing lent changes on a refusal

abbrev pub left_by : Array → Registers → Result Operation ℕ → Array
left_by a r (Ok o) = after a r o
left_by a r (Err number) = a

unfoldable pub left : Array → List ℕ → ℕ → ℕ → Array
left a held code room = pick (is_three held) (left_by a (registers_of held) (order_of (operation_of code) room)) a

-- the registers after an accepted operation
abbrev pub loaded : Result Answer Refusal → List ℕ → List ℕ
loaded (Ok a) held = a.registers.r1 ∷ a.registers.r2 ∷ a.registers.m ∷ []
loaded (Err why) held = held

abbrev pub registers_by : Array → Registers → Result Operation ℕ → List ℕ → List ℕ
registers_by a r (Ok o) held = loaded (answer_of a r o) held
registers_by a r (Err number) held = held

unfoldable pub registers_left : Array → List ℕ → ℕ → ℕ → List ℕ
registers_left a held code room = pick (is_three held) (registers_by a (registers_of held) (order_of (operation_of code) room) held) held
