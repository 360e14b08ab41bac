-- The invariant: a walk along the words beside their choices.
use Rattle.std.proofs.Common.{ℕ, Bool, nat_eq}
use mathlib.Core.Bool.{not}
use Rattle.sweeps.specs.Rules.{gated}
use Rattle.sweeps.proofs.Along.{Walk}
use Rattle.sweeps.proofs.multi.Given as goal

-- a `bool` that the function is made for, of its number
abbrev pub held : ℕ → Bool
held x = not (nat_eq x 0)

abbrev pub invariant-loop-i : goal.invariant-loop-i
invariant-loop-i g l = Walk (gated (held g.row.WRITE) (held g.row.ADD) l.q) l.g l.initial.words l.words l.i
