-- Source document 001, 'Associative processing array': one three-state cell, and its truth tables. What is quoted beside them is document 02's,
-- request a.
use Rattle.std.specs.Prelude.{ℕ, zero, suc, Bool, true, false, ◌||◌, eqb}
use Rattle.array.specs.declared.Cell.{Cell}
use Rattle.array.specs.declared.Cell.TheVariants.{Zero, One, X}
use Rattle.array.specs.declared.Kind.{Kind}
use Rattle.array.specs.declared.Kind.TheVariants.{Normal, Special}

-- ---- a cell in two planes, `ones` and `xs` (house, docs/DECISIONS.md 'How are a word's cells lent?'): 0 is (0,0), 1 is (1,0), X is (0,1)

-- (1,1) is "a cell coded as neither 0, 1 nor X": no table is ever asked about one, since 12 turns it down
abbrev pub is_cell : ℕ → ℕ → Bool
is_cell one x = eqb one 0 || eqb x 0

abbrev pub cell_of : ℕ → ℕ → Cell
cell_of zero zero = Zero
cell_of (suc one) zero = One
cell_of zero (suc x) = X
cell_of (suc one) (suc x) = X

abbrev pub one_of : Cell → ℕ
one_of Zero = 0
one_of One = 1
one_of X = 0

abbrev pub x_of : Cell → ℕ
x_of Zero = 0
x_of One = 0
x_of X = 1

-- ---- 001's tables

-- "Generation of search arguments": the mask's bit, the data's. "X where the mask is 0, else the data bit"
abbrev pub argument : ℕ → ℕ → Cell
argument zero d = X
argument (suc m) zero = Zero
argument (suc m) (suc d) = One

-- "Generation of mismatch signals": the argument, the cell's content. "A cell disagrees only when argument and cell are 0 and 1 or 1 and 0."
abbrev pub mismatch : Cell → Cell → Bool
mismatch Zero Zero = false
mismatch Zero One = true
mismatch Zero X = false
mismatch One Zero = true
mismatch One One = false
mismatch One X = false
mismatch X Zero = false
mismatch X One = false
mismatch X X = false

-- "an X state reads as zero"
abbrev pub reads : Cell → ℕ
reads Zero = 0
reads One = 1
reads X = 0

-- "Write Normal", "Write Special": the argument, the cell's content. "Write normal stores a 0 or 1 argument; write special stores X for either; an X
-- argument changes nothing."
abbrev pub written : Kind → Cell → Cell → Cell
written Normal Zero c = Zero
written Normal One c = One
written Normal X c = c
written Special Zero c = X
written Special One c = X
written Special X c = c
