use Rattle.machine.proofs.Refusals as checks
use Rattle.cells.proofs.Turns as turns
use Rattle.cells.proofs.turn.Goals as goal

pub change_word-word-requires : goal.change_word-word-requires
change_word-word-requires c = checks.width_le _ c.requires.width_value

pub is_match-matching-requires : goal.is_match-matching-requires
is_match-matching-requires c = checks.width_le _ c.requires.width_value

pub returns-then-lines : goal.returns-then-lines
returns-then-lines c =
    let a = c.args in let e = c.is_selected-selected.ensures in
    let w = turns.word_is a.width a.panel a.lines a.k a.w a.r _ c.change_word-word.result e c.change_word-word.ensures in
    let t = turns.search_is a.width a.panel a.lines a.k a.w a.r c.is_match-matching.result c.mark.result c.if-lines.true c.requires.lines_value c.is_match-matching.ensures c.mark.ensures in
    (w, t.0, t.1)

pub returns-then-lines-selected : goal.returns-then-lines-selected
returns-then-lines-selected c =
    let a = c.args in let e = c.is_selected-selected.ensures in
    let w = turns.word_is a.width a.panel a.lines a.k a.w a.r _ c.change_word-word.result e c.change_word-word.ensures in
    let t = turns.complement_is a.width a.panel a.lines a.k a.w a.r _ c.flip.result c.if-lines.false e c.if-lines-selected.true c.flip.ensures in
    (w, t.0, t.1)

pub returns : goal.returns
returns c =
    let a = c.args in let e = c.is_selected-selected.ensures in
    let w = turns.word_is a.width a.panel a.lines a.k a.w a.r _ c.change_word-word.result e c.change_word-word.ensures in
    let t = turns.other_is a.width a.panel a.lines a.k a.w a.r _ c.if-lines.false e c.if-lines-selected.false in
    (w, t.0, t.1)
