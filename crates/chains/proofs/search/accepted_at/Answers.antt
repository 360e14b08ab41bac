use Rattle.machine.specs.Cells.{accepted}
use Rattle.chains.specs.Walks.{syllable}
use Rattle.chains.proofs.Steps.{here_on, here_off}
use Rattle.chains.proofs.search.accepted_at.Goals as goal

pub returns-then-not-is_top : goal.returns-then-not-is_top
returns-then-not-is_top c =
    let a = c.args in
    here_off (accepted a.panel a.w) a.n a.panel.sdr a.i c.is_top.result c.is_top.ensures c.if-not-is_top.true

pub returns-else-not-is_top : goal.returns-else-not-is_top
returns-else-not-is_top c =
    let a = c.args in
    let y = c.down_from in
    here_on (accepted a.panel a.w) a.n a.panel.sdr a.i (syllable y.result.low y.result.width) c.is_accepted.result c.is_top.result c.is_top.ensures c.if-not-is_top.false y.ensures.0 c.is_accepted.ensures
