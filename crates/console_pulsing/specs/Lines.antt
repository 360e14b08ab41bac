-- The lines that a pulse's words name, in the words of docs/BOARD.md: "L are from `search` `read` `write` `add` `multiwrite` `multiadd`
-- `complement`, each at most once, in any order; none is taken too".
use Rattle.std.specs.Prelude.{ℕ, Bool, true, false, ◌||◌, List, [], ◌∷◌, Option, Some, None, eqb, get_or}
use Rattle.laws.specs.Bits.{pick}
use Rattle.machine.specs.declared.Lines.{Lines}
use Rattle.text.specs.Ascii.{ascii}
use Rattle.text.specs.Words.{words_of, place_of}

abbrev pub line_names : List (List ℕ)
line_names = words_of (ascii "search read write add multiwrite multiadd complement")

abbrev pub no_lines : Lines
no_lines =
    record {
      search = false;
      read = false;
      write = false;
      add = false;
      multiwrite = false;
      multiadd = false;
      complement = false;
    }

-- whether the line of this number is raised; a number of none of them is as bad as a line that stands twice
abbrev pub is_raised : Lines → ℕ → Bool
is_raised l k =
    get_or (l.search ∷ l.read ∷ l.write ∷ l.add ∷ l.multiwrite ∷ l.multiadd ∷ l.complement ∷ []) k true

-- the lines with this one raised too
abbrev pub raise : Lines → ℕ → Lines
raise l k =
    record {
      search = eqb k 0 || l.search;
      read = eqb k 1 || l.read;
      write = eqb k 2 || l.write;
      add = eqb k 3 || l.add;
      multiwrite = eqb k 4 || l.multiwrite;
      multiadd = eqb k 5 || l.multiadd;
      complement = eqb k 6 || l.complement;
    }

-- the lines of the words one after the other, beside those raised before
unfoldable pub lines_from : Lines → List (List ℕ) → Option Lines
lines_from l [] = Some l
lines_from l (name ∷ names) =
    let k = place_of name line_names in pick (is_raised l k) None (lines_from (raise l k) names)

abbrev pub lines_of : List (List ℕ) → Option Lines
lines_of names = lines_from no_lines names
