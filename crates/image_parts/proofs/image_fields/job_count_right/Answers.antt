use Prim.Native.Nat.{ℕ}
use mathlib.Core.Path.{ap}
use lib.Dec.{leb}
use Rattle.image_layout.specs.Sizes.{most_jobs}
use Rattle.image_layout.specs.Reading.{job_count}
use Rattle.image_parts.proofs.Parts.{cut_off, holds_read}
use Rattle.image_parts.proofs.image_fields.job_count_right.Goals as goal

pub returns-then-image-at-ge-COUNT_SIZE : goal.returns-then-image-at-ge-COUNT_SIZE
returns-then-image-at-ge-COUNT_SIZE c =
    let a = c.args in holds_read job_count a.image.now a.at _ c.if-image-at-ge-COUNT_SIZE.true (ap (λ (v : ℕ). leb v most_jobs) c.number_at.ensures.0)

pub returns-else-image-at-ge-COUNT_SIZE : goal.returns-else-image-at-ge-COUNT_SIZE
returns-else-image-at-ge-COUNT_SIZE c = let a = c.args in cut_off job_count a.image.now a.at c.if-image-at-ge-COUNT_SIZE.false
