-- What stands after a line that is obeyed. `serving` has which lines are.
use Rattle.std.specs.Prelude.{ℕ, List, [], ◌∷◌, ◌++◌}
use Rattle.array_console.specs.Obeying.{bench, obeyed}
use Rattle.array_replies.specs.Texts.{printed}
use Rattle.array_board.specs.declared.Standing.{Standing}

abbrev pub stands_after : Standing → List (List ℕ) → Standing
stands_after s args =
    let a = obeyed (bench s.rack s.ones s.xs s.selectors) args in
    record { rack = a.turn.rack; ones = a.ones; xs = a.xs; selectors = a.selectors }

-- what is printed of it
abbrev pub prints : Standing → List (List ℕ) → List ℕ
prints s args =
    let a = obeyed (bench s.rack s.ones s.xs s.selectors) args in printed a.turn.outcome a.turn.rack a.ones a.xs a.selectors ++ (10 ∷ [])
