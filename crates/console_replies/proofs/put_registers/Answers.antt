use Rattle.listing.specs.Lists.{named16}
use Rattle.output.proofs.Puts.{puts₄}
use Rattle.console_replies.specs.Texts.{search_text}
use Rattle.console_replies.proofs.put_registers.Goals as goal

pub returns : goal.returns
returns c =
    let s = c.args in
    let p = s.panel in
    puts₄ (named16 "comp " p.comp) (named16 " sdr " p.sdr) (search_text p) (named16 " mor " p.mor) s.at s.out.now
    c.put_named16-comp.ensures
    c.put_named16-sdr.ensures
    c.put_codes-codes.ensures
    c.put_named16.ensures
