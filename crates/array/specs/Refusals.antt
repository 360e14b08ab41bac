-- Document 02, request a: "Refusals: 1 to 4 as before, 12 for a cell coded as neither 0, 1 nor X, after 3"; what an operation answers and leaves.
-- The conditions are quoted from document 01's table, which "as before" means; what they are held to here is (house), each with its decision in
-- docs/DECISIONS.md.
use Rattle.std.specs.Prelude.{ℕ, Bool, not, ◌||◌, List, length, Option, Some, None, Result, Ok, Err}
use Rattle.laws.specs.Bits.{bit, every}
use Rattle.laws.specs.Lists.{all}
use Rattle.machine.specs.declared.WordSlice.{WordSlice}
use Rattle.machine.specs.Refusals.{bad_size, bad_width, too_wide, ◌else◌, refuse, answer_by, change_by}
use Rattle.array.specs.declared.Registers.{Registers}
use Rattle.array.specs.declared.Operation.{Operation}
use Rattle.array.specs.declared.Refusal.{Refusal}
use Rattle.array.specs.declared.Refusal.TheVariants.{Size, Width, WordTooWide, NoCell, RegisterTooWide}
use Rattle.array.specs.declared.Answer.{Answer}
use Rattle.array.specs.Cells.{is_cell}
use Rattle.array.specs.Words.{Word, lowest_word}
use Rattle.array.specs.Operations.{Array, words_of, registers_after, count_of, operated}

-- ---- the conditions

-- 1: "n is 0 or above 1,024, or the response buffer isn't n long": n is the length of `ones`, and both other buffers are to be n long (house, 'What is n?')
unfoldable pub bad_sizes : ℕ → ℕ → ℕ → Bool
bad_sizes n xs selectors = bad_size n xs || bad_size n selectors

-- 2, "N not 1 to 64", is the machine's bad_width

-- 3: "a word has a one at or above bit N", in either plane (house, 'How are a word's cells lent?'), and the "lowest such word"
abbrev pub word_too_wide : ℕ → Word → Bool
word_too_wide n w = too_wide n w.ones || too_wide n w.xs

unfoldable pub first_too_wide : ℕ → List Word → Option WordSlice
first_too_wide n ws = lowest_word (word_too_wide n) 0 ws

-- 12: "a cell coded as neither 0, 1 nor X", in any word (house, 'Which cells does 12 judge?')
abbrev pub all_cells : ℕ → Word → Bool
all_cells n w = every n (λ i. is_cell (bit w.ones i) (bit w.xs i))

unfoldable pub bad_cells : ℕ → List Word → Bool
bad_cells n ws = not (all (all_cells n) ws)

-- 4: "a panel register has such a one": R1, R2 or M (house, 'Which data does refusal 4 judge?')
unfoldable pub bad_registers : ℕ → Registers → Bool
bad_registers n r = too_wide n r.r1 || too_wide n r.r2 || too_wide n r.m

-- ---- in this order, the first that holds

-- what checking a call finds: nothing wrong, or the refusal
abbrev pub Check : Type 0
Check = Result (Unit {0}) Refusal

abbrev pub refuse_word : Option WordSlice → Check
refuse_word (Some k) = Err (WordTooWide k)
refuse_word None = Ok tt

-- 12 and then 4 (house, '12 or 3, 12 or 4?')
abbrev pub rest_check : ℕ → Registers → List Word → Check
rest_check n r ws = refuse NoCell (bad_cells n ws) else refuse RegisterTooWide (bad_registers n r)

unfoldable pub call_check : Array → Registers → Check
call_check a r =
    refuse Size (bad_sizes (length a.ones) (length a.xs) (length a.selectors))
    else refuse Width (bad_width a.width)
    else refuse_word (first_too_wide a.width (words_of a))
    else rest_check a.width r (words_of a)

-- ---- what an operation answers, and what stands in the array afterwards

unfoldable pub answer_of : Array → Registers → Operation → Result Answer Refusal
answer_of a r o = answer_by (call_check a r) (record { registers = registers_after a.width r o (words_of a); count = count_of a r o })

-- "Nothing lent changes"
unfoldable pub after : Array → Registers → Operation → Array
after a r o = change_by (call_check a r) (operated a r o) a

-- ---- each refusal's number, and what it also answers

abbrev pub tells : Refusal → ℕ × ℕ
tells Size = (1, 0)
tells Width = (2, 0)
tells (WordTooWide k) = (3, k.0)
tells NoCell = (12, 0)
tells RegisterTooWide = (4, 0)

abbrev pub number_of : Refusal → ℕ
number_of why = (tells why).0

abbrev pub also_answers : Refusal → ℕ
also_answers why = (tells why).1

-- ---- an answer's number and values; "other answer fields are 0"

-- the refusal's number, 0 for none, and what it also answers; the registers and the count
pub record Told : Type 0 where
  pub refusal : ℕ
  pub also : ℕ
  pub registers : Registers
  pub count : ℕ

-- R1, R2 and M are fields of the answer, so they are 0 there on a refusal (house, 'What are the registers of a refusal?')
abbrev pub told : Result Answer Refusal → Told
told (Ok a) = record { refusal = 0; also = 0; registers = a.registers; count = a.count }
told (Err why) =
    record { refusal = number_of why; also = also_answers why; registers = record { r1 = 0; r2 = 0; m = 0 }; count = 0 }
