-- What stands after a line, which is passed over or obeyed. `kept` are the bytes of the line that are kept.
use Rattle.std.specs.Prelude.{ℕ, List, [], ◌∷◌, ◌++◌}
use Rattle.text.specs.Ascii.{ascii}
use Rattle.laws.specs.Bits.{pick}
use Rattle.text.specs.Words.{words_of}
use Rattle.lines.specs.declared.Line.{Line}
use Rattle.lines.specs.Silence.{passed_over}

unfoldable pub taken : {C : Type 0} → (C → List (List ℕ) → C) → C → Line → List ℕ → C
taken obeyed console line kept = pick (passed_over line kept) console (obeyed console (words_of kept))

-- "more than 20,000 bytes before its newline, prints `bad line` and changes nothing": the text
abbrev pub bad_line : List ℕ
bad_line = ascii "bad line" ++ (10 ∷ [])
