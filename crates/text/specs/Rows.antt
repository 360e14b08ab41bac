-- A line's numbers, read by a row of letters, one for each number that a command takes.
use Rattle.std.specs.Prelude.{Option, Some, None, ℕ, ◌%◌, Bool, true, false, ◌&&◌, List, [], ◌∷◌, get_or, replicate}
use Prim.Native.String.{String}
use Rattle.std.proofs.lemmas.List.Edits.{sets}
use Rattle.text.specs.Ascii.{ascii}
use Rattle.text.specs.Numbers.{letter_of}

-- whether a word says a number, and which
abbrev pub is_number : Option ℕ → Bool
is_number (Some x) = true
is_number None = false

abbrev pub value_of : Option ℕ → ℕ
value_of (Some x) = x
value_of None = 0

-- "has too few or too many words, a number outside its range": right is a number for each letter and no word more
unfoldable pub fitting : List ℕ → List (List ℕ) → Bool
fitting [] [] = true
fitting [] (word ∷ words) = false
fitting (letter ∷ letters) [] = false
fitting (letter ∷ letters) (word ∷ words) = is_number (letter_of letter word) && fitting letters words

-- the numbers in their order
unfoldable pub numbers_of : List ℕ → List (List ℕ) → List ℕ
numbers_of [] words = []
numbers_of (letter ∷ letters) [] = []
numbers_of (letter ∷ letters) (word ∷ words) = value_of (letter_of letter word) ∷ numbers_of letters words

-- the words that follow a command's name are what its letters ask for
abbrev pub fits : String → List (List ℕ) → Bool
fits letters args = fitting (ascii letters) args

-- their numbers in the 16 places of a row, 0 where there is none
abbrev pub values : String → List (List ℕ) → List ℕ
values letters args = sets (replicate 16 0) 0 (numbers_of (ascii letters) args)

-- the number at a place, and as a byte: the number itself where it was asked to be one to 255
abbrev pub number_at : List ℕ → ℕ → ℕ
number_at row i = get_or row i 0

abbrev pub byte_at : List ℕ → ℕ → ℕ
byte_at row i = number_at row i % 256
