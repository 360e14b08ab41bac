use Rattle.listing.specs.Lists.{named16}
use Rattle.output.proofs.Puts.{puts₃}
use Rattle.console_replies.proofs.put_codes.Goals as goal

pub returns : goal.returns
returns c =
    let s = c.args in
    let p = s.panel in
    puts₃ (named16 " sc1 " p.sc1) (named16 " sc2 " p.sc2) (named16 " sc3 " p.sc3) s.at s.out.now
    c.put_named16-sc1.ensures
    c.put_named16-sc2.ensures
    c.put_named16.ensures
