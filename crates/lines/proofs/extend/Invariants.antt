use lib.ListN.{take}
use Rattle.lines.proofs.Growing.{Grows}
use Rattle.lines.proofs.extend.Given as goal

abbrev pub invariant-loop-byte : goal.invariant-loop-byte
invariant-loop-byte l = Grows (take l.byte-index l.s) l.initial.line l.initial.kept l.line l.kept
