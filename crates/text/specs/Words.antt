-- The words of a line: "Words of a line stand apart by one or more spaces, and by nothing else."
use Rattle.std.specs.Prelude.{ℕ, ◌+◌, Bool, true, false, not, ◌&&◌, List, [], ◌∷◌, leb, eqb, length, drop}
use Rattle.laws.specs.Bits.{pick}
use Rattle.text.specs.declared.Place.{Place}

-- how many bytes at the start of a list pass the test
unfoldable pub ahead : (ℕ → Bool) → List ℕ → ℕ
ahead f [] = 0
ahead f (byte ∷ s) = pick (f byte) (ahead f s + 1) 0

-- a space, or with false any other byte
abbrev pub is_space : Bool → ℕ → Bool
is_space spaces byte = pick spaces (eqb byte 32) (not (eqb byte 32))

-- the end of the spaces, or of the other bytes, that stand at a place of the line
abbrev pub end_of : Bool → List ℕ → ℕ → ℕ
end_of spaces line at = at + ahead (is_space spaces) (drop at line)

-- past its end a line has nothing
abbrev pub within : List ℕ → ℕ → ℕ
within line at = pick (leb at (length line)) at (length line)

-- the next word: past the spaces, and up to the next one
unfoldable pub word_at : List ℕ → ℕ → Place
word_at line at =
    record {
      from = end_of true line (within line at);
      to = end_of false line (end_of true line (within line at));
    }

-- a byte before the words of what follows it: a word's first byte where a space or nothing follows, else a byte more of the first word
unfoldable pub joined : ℕ → Bool → List (List ℕ) → List (List ℕ)
joined byte apart [] = (byte ∷ []) ∷ []
joined byte apart (word ∷ words) = pick apart ((byte ∷ []) ∷ (word ∷ words)) ((byte ∷ word) ∷ words)

-- whether a line begins with a space, or has nothing
abbrev pub opens : List ℕ → Bool
opens [] = true
opens (byte ∷ s) = eqb byte 32

-- the words of a line in their order
unfoldable pub words_of : List ℕ → List (List ℕ)
words_of [] = []
words_of (byte ∷ s) = pick (eqb byte 32) (words_of s) (joined byte (opens s) (words_of s))

-- whether two words are the same
unfoldable pub alike : List ℕ → List ℕ → Bool
alike [] [] = true
alike [] (b ∷ t) = false
alike (a ∷ s) [] = false
alike (a ∷ s) (b ∷ t) = eqb a b && alike s t

-- which of the names is the word, counted from 0; as many as there are where it is none of them
unfoldable pub place_of : List ℕ → List (List ℕ) → ℕ
place_of word [] = 0
place_of word (name ∷ names) = pick (alike name word) 0 (place_of word names + 1)
