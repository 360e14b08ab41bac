use mathlib.Core.Path.{◌≡◌, refl, ap, ◌∙◌}
use Rattle.std.specs.Prelude.{Ok, Err}
use Rattle.std.specs.Result.{is_ok}
use Rattle.machine.specs.Refusals.{Check, passes}
use Rattle.job_plans.specs.Places.{held_check}
use Rattle.image_layout.specs.Reading.{job_field}
use Rattle.image_parts.proofs.Parts.{cut_off, holds_read}
use Rattle.image_parts.proofs.image_fields.job_right.Goals as goal

ok_passes : (c : Check) → is_ok c ≡ passes c
ok_passes (Ok u) = refl
ok_passes (Err r) = refl

pub returns-then-image-at-ge-RECORD_SIZE : goal.returns-then-image-at-ge-RECORD_SIZE
returns-then-image-at-ge-RECORD_SIZE c =
    let a = c.args in
    holds_read (job_field a.width) a.image.now a.at _ c.if-image-at-ge-RECORD_SIZE.true
    (c.is_ok.ensures.value ∙ ok_passes _ ∙ ap passes (c.check_held.ensures ∙ ap (held_check a.width) c.job_at.ensures))

pub returns-else-image-at-ge-RECORD_SIZE : goal.returns-else-image-at-ge-RECORD_SIZE
returns-else-image-at-ge-RECORD_SIZE c = let a = c.args in cut_off (job_field a.width) a.image.now a.at c.if-image-at-ge-RECORD_SIZE.false
