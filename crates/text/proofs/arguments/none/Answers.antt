use mathlib.Core.Path.{refl, ◌∙◌}
use mathlib.Core.List.{[]}
use native.Mathlib.Omega.{arith}
use Rattle.text.proofs.Rows.{row_end}
use Rattle.text.proofs.arguments.none.Goals as goal

pub returns : goal.returns
returns c = c.none_left.ensures ∙ row_end c.args.line.now [] 0 0 (omega arith) refl
