use Rattle.listing.specs.Lists.{named_response}
use Rattle.console_replies.specs.Texts.{registers_text}
use Rattle.output.proofs.Puts.{puts₄}
use Rattle.console_replies.proofs.put_panel.Goals as goal

pub returns : goal.returns
returns c = let s = c.args in let p = s.panel in puts₄ (registers_text p) (named_response " key " p.key) (named_response " care " p.care) (named_response " target " p.target) s.at s.out.now c.put_registers-registers.ensures c.put_response-key.ensures c.put_response-care.ensures c.put_response.ensures
