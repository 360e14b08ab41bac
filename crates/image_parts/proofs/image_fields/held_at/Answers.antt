use mathlib.Core.Path.{sym, ap, ◌∙◌}
use Rattle.std.specs.Prelude.{Some}
use Rattle.image_layout.specs.Sizes.{count_size}
use Rattle.image_layout.specs.Format.{number_at}
use Rattle.image_parts.proofs.Parts.{none_held, one_held}
use Rattle.image_parts.proofs.image_fields.held_at.Goals as goal

pub returns-then-number_at-eq0 : goal.returns-then-number_at-eq0
returns-then-number_at-eq0 c = let a = c.args in none_held (number_at count_size a.at a.image.now) _ (sym c.number_at.ensures.0 ∙ c.if-number_at-eq0.true)

pub returns : goal.returns
returns c =
    let a = c.args in
    ap Some c.job_at.ensures ∙ one_held (number_at count_size a.at a.image.now) _ (λ z. c.if-number_at-eq0.false (c.number_at.ensures.0 ∙ z))
