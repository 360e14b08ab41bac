-- What a command leaves of the board, in the words of docs/BOARD.md.
use Rattle.std.specs.Prelude.{ℕ, [], None}
use Rattle.machine.specs.Panel.{panel_of}
use Rattle.job_plans.specs.Fields.{Held}
use Rattle.console_commands.specs.declared.Board.{Board}

-- "width N, n words and n responses, all 0; panel all 0; no job"
abbrev pub fresh_board : ℕ → ℕ → Board
fresh_board width n = record { width = width; words = n; responses = n; panel = panel_of []; held = None }

-- the board with another held job, or none
abbrev pub holding : Board → Held → Board
holding b held = record { width = b.width; words = b.words; responses = b.responses; panel = b.panel; held = held }
