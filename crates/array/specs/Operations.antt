-- Source document 001, 'Associative processing array': search, read and write, each word and register after one of them. Quotations are 001's where
-- no other document is named.
use Rattle.std.specs.Prelude.{ℕ, max, Bool, not, List, [], ◌∷◌}
use Rattle.laws.specs.Bits.{bit, number, every, pick, under}
use Rattle.array.specs.declared.Cell.{Cell}
use Rattle.array.specs.declared.Kind.{Kind}
use Rattle.array.specs.declared.Registers.{Registers}
use Rattle.array.specs.declared.Operation.{Operation}
use Rattle.array.specs.declared.Operation.TheVariants.{Search, Read, Write}
use Rattle.array.specs.Cells.{one_of, x_of, argument, mismatch, reads, written}
use Rattle.array.specs.Words.{Word, word, cell_at, words, each, how_many}
use Rattle.array.specs.Selectors.{selected, marked}
use Rattle.array.specs.Registers.{data_of, mask_of, sink_of, load}

-- 01: "n words, 1 to 1,024, each of N bits, 1 to 64", here of three-state cells: its width and its three lent buffers (house, docs/DECISIONS.md
-- 'How are a word's cells lent?' and 'How are the selectors lent?')
pub record Array : Type 0 where
  pub width : ℕ
  pub ones : List ℕ
  pub xs : List ℕ
  pub selectors : List ℕ

abbrev pub array : ℕ → List ℕ → List ℕ → List ℕ → Array
array n ones xs selectors = record { width = n; ones = ones; xs = xs; selectors = selectors }

abbrev pub words_of : Array → List Word
words_of a = words a.ones a.xs a.selectors

-- ---- search

-- "A ternary search argument is generated .. between the specified data register .. and the specified mask .. on a bit by bit basis"
abbrev pub argument_at : ℕ → ℕ → ℕ → Cell
argument_at d mask i = argument (bit mask i) (bit d i)

-- "Mismatch signals for a cell are ORed to give a mismatch signal for the word": a word of n cells agrees if no cell mismatches
unfoldable pub agrees : ℕ → ℕ → ℕ → Word → Bool
agrees n d mask w = every n (λ i. not (mismatch (argument_at d mask i) (cell_at w i)))

-- ---- read

-- "The contents of cells from selected words are ORed in the bit direction onto a read bus": bit i of it
unfoldable pub bus : (ℕ → Bool) → List Word → ℕ → ℕ
bus chosen [] i = 0
bus chosen (w ∷ ws) i = max (pick (chosen w.selectors) (reads (cell_at w i)) 0) (bus chosen ws i)

-- "Effect of Read operation on specified register": under a one of the mask the bus, elsewhere no change
abbrev pub loaded_at : ℕ → ℕ → (ℕ → Bool) → List Word → ℕ → ℕ
loaded_at mask old chosen ws = under mask (bus chosen ws) (bit old)

unfoldable pub read_into : ℕ → ℕ → ℕ → (ℕ → Bool) → List Word → ℕ
read_into n mask old chosen ws = number n (loaded_at mask old chosen ws)

-- ---- write

-- "a ternary argument is generated in the same manner as a Search argument and acts on the contents of cells in selected words"
abbrev pub written_at : Kind → ℕ → ℕ → Word → ℕ → Cell
written_at kind d mask w i = written kind (argument_at d mask i) (cell_at w i)

unfoldable pub written_to : ℕ → Kind → ℕ → ℕ → Word → Word
written_to n kind d mask w =
    word (number n (λ i. one_of (written_at kind d mask w i))) (number n (λ i. x_of (written_at kind d mask w i))) w.selectors

-- ---- one operation

-- "All cells, in parallel, compare their contents with the search argument"; a write "acts on the contents of cells in selected words", and a read
-- changes no word
unfoldable pub word_after : ℕ → Registers → Operation → Word → Word
word_after n r (Search d mask wanted set combine) w =
    word w.ones w.xs (marked wanted set combine (agrees n (data_of r d) (mask_of n r mask) w) w.selectors)
word_after n r (Read selector form sink mask) w = w
word_after n r (Write kind d mask selector form) w =
    pick (selected selector form w.selectors) (written_to n kind (data_of r d) (mask_of n r mask) w) w

-- a read is used "to load a specified register (R1, R2, M) based on the value of mask specified": into M under M as it was before (house,
-- docs/DECISIONS.md 'What does a read into M load, and under which mask?'). No other operation changes a register.
unfoldable pub registers_after : ℕ → Registers → Operation → List Word → Registers
registers_after n r (Search d mask wanted set combine) ws = r
registers_after n r (Read selector form sink mask) ws =
    load sink (read_into n (mask_of n r mask) (sink_of r sink) (selected selector form) ws) r
registers_after n r (Write kind d mask selector form) ws = r

-- 01: "A pulse also answers the count: matching words if search is raised, else selected words." The words that match are those that agree (house,
-- docs/DECISIONS.md 'What does an operation count?').
unfoldable pub counted : ℕ → Registers → Operation → Word → Bool
counted n r (Search d mask wanted set combine) w = agrees n (data_of r d) (mask_of n r mask) w
counted n r (Read selector form sink mask) w = selected selector form w.selectors
counted n r (Write kind d mask selector form) w = selected selector form w.selectors

abbrev pub count_of : Array → Registers → Operation → ℕ
count_of a r o = how_many (counted a.width r o) (words_of a)

-- the array after an operation that is not turned down
abbrev pub operated : Array → Registers → Operation → Array
operated a r o =
    array a.width
    (each (λ w. (word_after a.width r o w).ones) (words_of a))
    (each (λ w. (word_after a.width r o w).xs) (words_of a))
    (each (λ w. (word_after a.width r o w).selectors) (words_of a))
