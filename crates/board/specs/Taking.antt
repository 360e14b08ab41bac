-- What stands after a line that is obeyed. `serving` has which lines are.
use Rattle.std.specs.Prelude.{ℕ, List, [], ◌∷◌, ◌++◌}
use Rattle.console.specs.Obeying.{desk, obeyed}
use Rattle.console_replies.specs.Texts.{printed}
use Rattle.board.specs.declared.Standing.{Standing}

abbrev pub stands_after : Standing → List (List ℕ) → Standing
stands_after s args =
    let a = obeyed (desk s.board s.words s.responses s.bytes) args in
    record { board = a.turn.board; words = a.words; responses = a.responses; bytes = a.bytes }

-- what is printed of it
abbrev pub prints : Standing → List (List ℕ) → List ℕ
prints s args =
    let a = obeyed (desk s.board s.words s.responses s.bytes) args in printed a.turn.outcome a.bytes ++ (10 ∷ [])
