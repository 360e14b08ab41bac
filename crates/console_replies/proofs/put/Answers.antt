use mathlib.Core.List.{[], ◌∷◌}
use Rattle.console_replies.specs.Texts.{printed}
use Rattle.output.proofs.Puts.{puts₂, byte_put}
use Rattle.console_replies.proofs.put.Goals as goal

pub returns : goal.returns
returns c = let s = c.args in let p = c.put_outcome-n in puts₂ (printed s.outcome s.bytes.now) (10 ∷ []) 0 s.out.now p.ensures (byte_put 10 p.result p.new.out _ _ c.put_byte.ensures)
