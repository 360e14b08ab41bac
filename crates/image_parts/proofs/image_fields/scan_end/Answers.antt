use mathlib.Core.Path.{sym}
use Rattle.image_parts.proofs.Parts.{too_many, all_read}
use Rattle.image_parts.proofs.image_fields.scan_end.Goals as goal

pub returns-then-at-image : goal.returns-then-at-image
returns-then-at-image c = let a = c.args in sym (too_many a.image.now a.at c.if-at-image.true)

pub returns-else-at-image : goal.returns-else-at-image
returns-else-at-image c = let a = c.args in sym (all_read a.image.now a.at c.if-at-image.false)
