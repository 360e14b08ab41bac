use mathlib.Core.Path.{ap, ◌∙◌}
use mathlib.Core.Bool.{not}
use Rattle.machine.specs.Refusals.{too_wide}
use Rattle.image_layout.specs.Reading.{word_field}
use Rattle.image_parts.proofs.Parts.{cut_off, holds_read}
use Rattle.image_parts.proofs.image_fields.word_right.Goals as goal

pub returns-then-image-at-ge-WORD_SIZE : goal.returns-then-image-at-ge-WORD_SIZE
returns-then-image-at-ge-WORD_SIZE c =
    let a = c.args in holds_read (word_field a.width) a.image.now a.at _ c.if-image-at-ge-WORD_SIZE.true (ap not (c.too_wide.ensures ∙ ap (too_wide a.width) c.number_at.ensures.0))

pub returns-else-image-at-ge-WORD_SIZE : goal.returns-else-image-at-ge-WORD_SIZE
returns-else-image-at-ge-WORD_SIZE c = let a = c.args in cut_off (word_field a.width) a.image.now a.at c.if-image-at-ge-WORD_SIZE.false
