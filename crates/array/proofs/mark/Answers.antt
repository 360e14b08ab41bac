use mathlib.Core.Bool.{Bool}
use mathlib.Core.Path.{ap, ap₂, ◌∙◌}
use Rattle.array.specs.Selectors.{put, combined, marked}
use Rattle.array.proofs.mark.Goals as goal

pub returns : goal.returns
unfolding marked
returns c =
    let a = c.args in
    c.put_latch.ensures
    ∙ ap (λ (b : Bool). put a.destination b a.byte)
    (c.combined.ensures
    ∙ ap₂ (λ (old new : Bool). combined a.combine old new) c.latch-old.ensures c.is_wanted-new.ensures)
