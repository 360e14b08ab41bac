use Rattle.laws.specs.Bits.{pick}
use Rattle.text.specs.Ascii.{ascii}
use Rattle.listing.specs.Lists.{named}
use Rattle.console_replies.specs.Texts.{panel_text}
use Rattle.output.proofs.Puts.{puts₄}
use Rattle.console_replies.proofs.put_step.Goals as goal

pub returns-then-held : goal.returns-then-held
returns-then-held c = let s = c.args in let k = s.command in rw c.if-held.true (puts₄ (pick k.lines.search (ascii "search ") (ascii "multiadd ")) (panel_text k.panel) (named " count " s.count) (ascii " held") 0 s.out.now c.put_line_name-name.ensures c.put_panel-registers.ensures c.put_named-n.ensures c.put.ensures)

pub returns-else-held : goal.returns-else-held
returns-else-held c = let s = c.args in let k = s.command in rw c.if-held.false (puts₄ (pick k.lines.search (ascii "search ") (ascii "multiadd ")) (panel_text k.panel) (named " count " s.count) (ascii " ended") 0 s.out.now c.put_line_name-name.ensures c.put_panel-registers.ensures c.put_named-n.ensures c.put-else-held.ensures)
