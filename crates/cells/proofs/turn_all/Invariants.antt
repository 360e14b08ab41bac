use Rattle.laws.proofs.Walk.{Walk}
use Rattle.machine.specs.Pulse.{word_after, response_after, counts}
use Rattle.cells.proofs.turn_all.Given as goal

abbrev pub invariant-loop-k : goal.invariant-loop-k
invariant-loop-k l = Walk (word_after l.width l.panel l.lines) (response_after l.width l.panel l.lines) (counts l.width l.panel l.lines) l.initial.words l.initial.responses l.words l.responses l.counted l.k
