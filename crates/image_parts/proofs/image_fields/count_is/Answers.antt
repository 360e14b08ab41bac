use Prim.Native.Nat.{ℕ}
use mathlib.Core.Path.{ap}
use lib.Dec.{eqb}
use Rattle.image_layout.specs.Reading.{count_is}
use Rattle.image_parts.proofs.Parts.{cut_off, holds_read}
use Rattle.image_parts.proofs.image_fields.count_is.Goals as goal

pub returns-then-image-at-ge-COUNT_SIZE : goal.returns-then-image-at-ge-COUNT_SIZE
returns-then-image-at-ge-COUNT_SIZE c =
    let a = c.args in holds_read (count_is a.n) a.image.now a.at _ c.if-image-at-ge-COUNT_SIZE.true (ap (λ (v : ℕ). eqb v a.n) c.number_at.ensures.0)

pub returns-else-image-at-ge-COUNT_SIZE : goal.returns-else-image-at-ge-COUNT_SIZE
returns-else-image-at-ge-COUNT_SIZE c = let a = c.args in cut_off (count_is a.n) a.image.now a.at c.if-image-at-ge-COUNT_SIZE.false
