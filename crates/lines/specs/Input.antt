-- "Input is bytes, split at newlines; a last line with no newline counts." What is kept of a line, and what one call of `next` takes.
use Rattle.std.specs.Prelude.{ℕ, ◌+◌, ◌-◌, ◌<◌, min, ◌≡◌, Bool, true, not, ◌&&◌, List, [], ltb, leb, eqb, length, take, drop}
use Rattle.std.proofs.lemmas.List.Edits.{sets}
use Rattle.laws.specs.Bits.{pick}
use Rattle.laws.specs.Lists.{all}
use Rattle.text.specs.Words.{ahead, is_space}
use Rattle.lines.specs.declared.Reader.{Reader}
use Rattle.lines.specs.declared.Line.{Line}

-- a byte that is no newline
abbrev pub is_plain : ℕ → Bool
is_plain byte = not (eqb byte 10)

-- how many bytes stand before the first newline
abbrev pub before_newline : List ℕ → ℕ
before_newline s = ahead is_plain s

-- of a line of these bytes, where there is room for so many: how many are kept, whether it has more, and whether it has a word
abbrev pub line_of : ℕ → List ℕ → Line
line_of room s = record { kept = min (length s) room; longer = ltb room (length s); has_word = not (all (is_space true) s) }

-- the first of them, from the start of what was lent
abbrev pub kept_of : List ℕ → List ℕ → List ℕ
kept_of s lent = sets lent 0 (take (length lent) s)

-- the bytes of the chunk that are read and not yet taken
abbrev pub unread : Reader → List ℕ → List ℕ
unread reader chunk =
    pick (ltb reader.from reader.to && leb reader.to (length chunk)) (take (reader.to - reader.from) (drop reader.from chunk)) []

-- up to their first newline
abbrev pub first_line : Reader → List ℕ → List ℕ
first_line reader chunk = let rest = unread reader chunk in take (before_newline rest) rest

-- there is one
abbrev pub Whole : Reader → List ℕ → Type 0
Whole reader chunk = let rest = unread reader chunk in before_newline rest < length rest

-- and the reader behind it
abbrev pub behind_newline : Reader → List ℕ → Reader
behind_newline reader chunk = record { from = reader.from + before_newline (unread reader chunk) + 1; to = reader.to; «open» = true }

-- a line of the bytes s, which begin with those that were read already
pub record Taken (room : ℕ) (first s : List ℕ) (line : Line) : Type 0 where
  -- none of them is a newline
  pub plain : all is_plain s ≡ true
  pub begins : take (length first) s ≡ first
  pub whole : line ≡ line_of room s
