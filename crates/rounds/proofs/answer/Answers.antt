-- The one word that passes the checks is within the buffer, and X and F are response bits.
use borrow.Author.Rules.{rules}
use Rattle.machine.specs.Machine.{machine}
use Rattle.rounds.proofs.Passing.{accepted}
use Rattle.rounds.proofs.answer.Goals as goal

pub bounds-responses-word : goal.bounds-responses-word
bounds-responses-word c =
    let a = c.args in (accepted a.x a.f a.word (machine a.width a.words.now a.responses.now) (search rules)).low.within

pub judged-response-requires : goal.judged-response-requires
judged-response-requires c =
    let a = c.args in
    let g = (accepted a.x a.f a.word (machine a.width a.words.now a.responses.now) (search rules)).fit in
    (g.mark, g.fault)

pub bounds-responses-word-2 : goal.bounds-responses-word-2
bounds-responses-word-2 c =
    let a = c.args in (accepted a.x a.f a.word (machine a.width a.words.now a.responses.now) (search rules)).low.within
