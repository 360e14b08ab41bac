use Rattle.listing.specs.Lists.{named}
use Rattle.console_replies.specs.Texts.{panel_text}
use Rattle.output.proofs.Puts.{puts₂}
use Rattle.console_replies.proofs.put_address.Goals as goal

pub returns : goal.returns
returns c = let s = c.args in let p = s.panel in puts₂ (panel_text p) (named " address " p.address.0) 0 s.out.now c.put_panel-n.ensures c.put_named.ensures
