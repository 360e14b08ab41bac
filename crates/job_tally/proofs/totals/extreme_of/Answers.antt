use Rattle.std.proofs.lemmas.List.{drop_more, length-drop}
use Rattle.job_tally.proofs.Extremes as extremes
use borrow.Author.Rules.{rules}
use Rattle.job_tally.proofs.totals.extreme_of.Goals as goal

pub loop-k-init : goal.loop-k-init
loop-k-init c =
    let a = c.args in
    extremes.start a.o a.small a.words.now a.responses.now a.none _ _ (search rules) (search rules) c.requires.none_value

pub loop-k-preserved : goal.loop-k-preserved
loop-k-preserved c =
    let a = c.args in
    let l = c.loop-k in
    extremes.turn a.o a.small a.words.now a.responses.now _ l.best _ _ _ _ _ _ l.invariant
    (drop_more a.words.now l.k 0 (search rules), drop_more a.responses.now l.k 0 (search rules)) c.with_word-best.ensures

pub returns : goal.returns
returns c =
    let a = c.args in
    let l = c.loop-k in
    extremes.done a.o a.small a.words.now a.responses.now l.best _ _ l.invariant (rw (length-drop l.k a.words.now, length-drop l.k a.responses.now) (search rules))
