-- All bits at once is each bit by itself.
use mathlib.Core.Path.{sym}
use native.Mathlib.Omega.{arith}
use Rattle.machine.proofs.Masks.{selected_is}
use Rattle.machine.proofs.is_selected.Goals as goal

pub returns : goal.returns
returns c = sym (selected_is c.args.key c.args.care c.args.response (omega arith))
