use mathlib.Core.Path.{sym, ◌∙◌, ap}
use mathlib.Core.Bool.{not}
use Rattle.panel.proofs.Numbered.{eight_bits}
use Rattle.panel.proofs.takes.Goals as goal

pub returns-then-register-lt8 : goal.returns-then-register-lt8
returns-then-register-lt8 c =
    let a = c.args in
    ap not c.too_wide.ensures ∙ sym (eight_bits a.register a.value c.if-register-lt5.false c.if-register-lt8.true)
