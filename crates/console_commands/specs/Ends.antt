-- How a command ends: the board after its line, and what is to be printed. In the words of docs/BOARD.md.
use Rattle.machine.specs.declared.Refusal.{Refusal}
use Rattle.console_commands.specs.declared.Board.{Board}
use Rattle.console_commands.specs.declared.Turn.{Turn}
use Rattle.console_commands.specs.declared.Outcome.TheVariants as outcome

-- "prints `bad line` and changes nothing"
abbrev pub bad_line : Board → Turn
bad_line b = record { board = b; outcome = outcome.BadLine }

-- "prints `ok`"
abbrev pub fine : Board → Turn
fine b = record { board = b; outcome = outcome.Fine }

-- "A refusal prints .. and changes nothing"
abbrev pub refused : Board → Refusal → Turn
refused b why = record { board = b; outcome = outcome.Refused why }
