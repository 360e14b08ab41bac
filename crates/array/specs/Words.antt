-- A word of three-state cells, and the words that three lent buffers hold side by side: two planes and a byte a word (house, docs/DECISIONS.md
-- 'How are a word's cells lent?' and 'How are the selectors lent?').
use Rattle.std.specs.Prelude.{ℕ, suc, ◌+◌, Bool, List, [], ◌∷◌, Option, Some, None}
use Rattle.laws.specs.Bits.{bit, pick, digit}
use Rattle.machine.specs.declared.WordSlice.{WordSlice}
use Rattle.array.specs.declared.Cell.{Cell}
use Rattle.array.specs.Cells.{cell_of}

-- a word's two planes and its selector byte
pub record Word : Type 0 where
  pub ones : ℕ
  pub xs : ℕ
  pub selectors : ℕ

abbrev pub word : ℕ → ℕ → ℕ → Word
word one x s = record { ones = one; xs = x; selectors = s }

-- cell i of a word
abbrev pub cell_at : Word → ℕ → Cell
cell_at w i = cell_of (bit w.ones i) (bit w.xs i)

-- the words of three buffers
unfoldable pub words : List ℕ → List ℕ → List ℕ → List Word
words [] xs ss = []
words (one ∷ ones) [] ss = []
words (one ∷ ones) (x ∷ xs) [] = []
words (one ∷ ones) (x ∷ xs) (s ∷ ss) = word one x s ∷ words ones xs ss

-- each of them anew: the numbers that a buffer gets
unfoldable pub each : (Word → ℕ) → List Word → List ℕ
each f [] = []
each f (w ∷ ws) = f w ∷ each f ws

-- how many pass a test
unfoldable pub how_many : (Word → Bool) → List Word → ℕ
how_many test [] = 0
how_many test (w ∷ ws) = digit (test w) + how_many test ws

-- the lowest that passes it, counted from k, or none
unfoldable pub lowest_word : (Word → Bool) → ℕ → List Word → Option WordSlice
lowest_word test k [] = None
lowest_word test k (w ∷ ws) = pick (test w) (Some (record { 0 = k })) (lowest_word test (suc k) ws)
