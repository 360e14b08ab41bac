-- Document 01, number 3, as the code asks it first: of the bits of all words together.
use Rattle.std.specs.Prelude.{ℕ, List, [], ◌∷◌}
use Rattle.std.specs.Int.Bits.{bit_or}

-- a, and the bits of these words
unfoldable pub union : ℕ → List ℕ → ℕ
union a [] = a
union a (w ∷ ws) = union (bit_or a w) ws
