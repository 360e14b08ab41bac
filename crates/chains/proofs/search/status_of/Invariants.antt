use Prim.Native.Nat.{◌+◌}
use mathlib.Core.Path.{◌≡◌}
use Rattle.laws.specs.Bits.{bit}
use Rattle.machine.specs.Search.{code_at}
use Rattle.machine.specs.Cells.{cell, passed, status_of}
use Rattle.chains.specs.Walks.{syllable}
use Rattle.chains.proofs.search.status_of.Given as goal

abbrev pub invariant-loop-j : goal.invariant-loop-j
invariant-loop-j l =
    passed (λ j. cell (code_at l.panel (l.y.low + j)) (bit l.w (l.y.low + j)) (bit l.panel.comp (l.y.low + j))) l.j l.status ≡ status_of l.panel l.w (syllable l.y.low l.y.width)
