use mathlib.Core.Path.{sym, ◌∙◌}
use Rattle.image_layout.specs.Sizes.{items_at}
use Rattle.image_layout.specs.Reading.{job_field}
use Rattle.image_parts.proofs.Parts.{handed, field_wrong, job_none, job_one, job_end}
use Rattle.image_parts.proofs.image_fields.scan_job.Goals as goal

pub returns-then-number_at-eq0 : goal.returns-then-number_at-eq0
returns-then-number_at-eq0 c =
    let a = c.args in
    c.scan_end.ensures
    ∙ sym (job_none a.width a.at a.image.now (sym c.job_count_right.ensures ∙ c.in_ok-judge.ensures) (sym c.number_at.ensures.0 ∙ c.if-number_at-eq0.true))

pub returns-in_err-judge-2 : goal.returns-in_err-judge-2
returns-in_err-judge-2 c =
    let a = c.args in
    handed _ _ _ c.from_residual-in_err-judge-2.ensures.1 c.in_err-judge-2.ensures.1
    ∙ sym (job_one a.width a.at a.image.now (sym c.job_count_right.ensures ∙ c.in_ok-judge.ensures) c.requires
    (λ z. c.if-number_at-eq0.false (c.number_at.ensures.0 ∙ z))
    ∙ field_wrong (job_field a.width) _ a.image.now (items_at a.at) (sym c.job_right.ensures ∙ c.in_err-judge-2.ensures.0))

pub returns : goal.returns
returns c =
    let a = c.args in
    c.scan_end-2.ensures
    ∙ sym (job_one a.width a.at a.image.now (sym c.job_count_right.ensures ∙ c.in_ok-judge.ensures) c.requires
    (λ z. c.if-number_at-eq0.false (c.number_at.ensures.0 ∙ z))
    ∙ job_end a.width (items_at a.at) a.image.now (sym c.job_right.ensures ∙ c.in_ok-judge-2.ensures))
