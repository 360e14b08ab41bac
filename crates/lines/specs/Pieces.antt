-- A line that is read piece by piece: what the inner functions promise. A reader of `next` needs only Input.
use Rattle.std.specs.Prelude.{ℕ, ◌+◌, ◌-◌, ◌≡◌, true, List, length, take, drop}
use Rattle.lines.specs.Input.{line_of, kept_of, before_newline}
use Rattle.lines.specs.declared.Reader.{Reader}
use Rattle.lines.specs.declared.Line.{Line}

-- the bytes s are read so far: the line is theirs, and they are kept as far as what was lent goes
pub record Holds (lent s : List ℕ) (line : Line) (kept : List ℕ) : Type 0 where
  pub line_is : line ≡ line_of (length lent) s
  pub kept_is : kept ≡ kept_of s lent

-- the bytes of the chunk from one place up to another
abbrev pub between : ℕ → ℕ → List ℕ → List ℕ
between from to chunk = take (to - from) (drop from chunk)

-- those before the first newline
abbrev pub up_to_newline : List ℕ → List ℕ
up_to_newline s = take (before_newline s) s

-- a reader behind the newline of bytes that begin at `from`
abbrev pub behind : ℕ → ℕ → List ℕ → Reader
behind from to s = record { from = from + before_newline s + 1; to = to; «open» = true }
