-- Which lines are answered, in the words of docs/BOARD.md. `kept` are the bytes of the line that are kept.
use Rattle.std.specs.Prelude.{ℕ, Bool, false, not, ◌||◌, List, [], ◌∷◌, eqb}
use Rattle.lines.specs.declared.Line.{Line}

-- "one whose first byte is `#`"
abbrev pub is_comment : List ℕ → Bool
is_comment [] = false
is_comment (byte ∷ kept) = eqb byte 35

-- "A line with no word, and one whose first byte is `#`, prints nothing, however long"
abbrev pub is_silent : Line → List ℕ → Bool
is_silent line kept = not line.has_word || is_comment kept

-- one that is too long "prints `bad line` and changes nothing"; any other is obeyed
abbrev pub passed_over : Line → List ℕ → Bool
passed_over line kept = is_silent line kept || line.longer
