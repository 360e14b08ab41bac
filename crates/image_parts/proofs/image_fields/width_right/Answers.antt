use mathlib.Core.Path.{ap, ◌∙◌}
use mathlib.Core.Bool.{not}
use Rattle.machine.specs.Refusals.{bad_width}
use Rattle.image_layout.specs.Sizes.{items_at, width_at}
use Rattle.image_layout.specs.Reading.{width_byte}
use Rattle.image_parts.proofs.Parts.{cut_off, holds_read}
use Rattle.image_parts.proofs.image_fields.width_right.Goals as goal

pub returns-then-image-ge-WIDTH_SIZE : goal.returns-then-image-ge-WIDTH_SIZE
returns-then-image-ge-WIDTH_SIZE c =
    let a = c.args in holds_read width_byte a.image.now (items_at width_at) _ c.if-image-ge-WIDTH_SIZE.true (ap not (c.bad_width.ensures ∙ ap bad_width c.width_in.ensures))

pub returns-else-image-ge-WIDTH_SIZE : goal.returns-else-image-ge-WIDTH_SIZE
returns-else-image-ge-WIDTH_SIZE c = let a = c.args in cut_off width_byte a.image.now (items_at width_at) c.if-image-ge-WIDTH_SIZE.false
