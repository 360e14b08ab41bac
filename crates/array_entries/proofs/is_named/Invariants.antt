use Prim.Native.Nat.{suc}
use mathlib.Core.Path.{◌≡◌}
use lib.ListN.{drop}
use Rattle.array_entries.specs.Numbers.{named}
use Rattle.array_entries.proofs.is_named.Given as goal

-- the digits from the next one up decide it
abbrev pub invariant-loop-i : goal.invariant-loop-i
invariant-loop-i l = named l.code (suc l.i) (drop l.i l.names) ≡ named l.code 1 l.names
