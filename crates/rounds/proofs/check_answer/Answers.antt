-- A round's checks leave X a response bit.
use borrow.Author.Rules.{rules}
use Rattle.machine.specs.Machine.{machine}
use Rattle.rounds.proofs.Passing.{round_fits}
use Rattle.rounds.proofs.check_answer.Goals as goal

pub lowest_with-requires : goal.lowest_with-requires
lowest_with-requires c =
    let a = c.args in (round_fits a.x a.f (machine a.width a.words.now a.responses.now) (search rules)).mark
