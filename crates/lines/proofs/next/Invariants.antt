use Rattle.lines.specs.Input.{first_line}
use Rattle.lines.proofs.Onward.{Onward}
use Rattle.lines.proofs.next.Given as goal

abbrev pub invariant-loop : goal.invariant-loop
invariant-loop g l = Onward l.fn.kept (first_line l.fn.reader l.fn.chunk) l.line l.kept
