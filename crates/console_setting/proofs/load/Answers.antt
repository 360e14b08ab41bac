use mathlib.Core.Bool.{true, false}
use mathlib.Core.Path.{refl, ◌∙◌}
use native.Mathlib.Omega.{arith}
use Rattle.console_setting.proofs.Loads.{unnamed, misread, wellread}
use Rattle.console_setting.proofs.load.Goals as goal

pub returns-then-register-gt9 : goal.returns-then-register-gt9
returns-then-register-gt9 c = let a = c.args in let n = c.next-word in let w = c.which-register in c.bad_line.ensures ∙ unnamed a.rest.now a.board n.result n.ensures.value w.result w.ensures (omega arith)

pub returns-in_default : goal.returns-in_default
returns-in_default c = let a = c.args in let n = c.next-word in let w = c.which-register in c.bad_line-in_default.ensures ∙ misread a.rest.now a.board n.result n.ensures.value w.result w.ensures (omega arith) false c.in_default.ensures.right_value refl

pub returns : goal.returns
returns c = let a = c.args in let n = c.next-word in let w = c.which-register in let v = c.in-Some in c.fine.ensures ∙ wellread a.rest.now a.board n.result n.ensures.value w.result w.ensures (omega arith) true v.ensures.right_value refl v.row v.ensures.values_value c.load-panel.result c.load-panel.ensures
