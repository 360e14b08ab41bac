-- A line's byte is its digit.
use mathlib.Core.Path.{◌≡◌, refl, ◌∙◌}
use mathlib.Core.Bool.{Bool, true, false}
use mir.Val.{bool_byte}
use Rattle.laws.specs.Bits.{digit}
use Rattle.machine.specs.Refusals.{bad_lines}
use Rattle.machine.proofs.bad_lines.Goals as goal

as_digit : (b : Bool) → bool_byte b ≡ digit b
as_digit true = refl
as_digit false = refl

pub returns : goal.returns
unfolding bad_lines
returns c =
    rw (
      c.from.ensures ∙ as_digit _,
      c.from-2.ensures ∙ as_digit _,
      c.from-3.ensures ∙ as_digit _,
      c.from-4.ensures ∙ as_digit _,
      c.from-5.ensures ∙ as_digit _,
      c.from-6.ensures ∙ as_digit _,
      c.from-7.ensures ∙ as_digit _,
    )
