use mathlib.Core.Path.{refl}
use Rattle.listing.specs.Lists.{named}
use Rattle.array_replies.proofs.Answers.{refused}
use Rattle.array_replies.proofs.put_refusal.Goals as goal

pub returns-in-WordTooWide : goal.returns-in-WordTooWide
returns-in-WordTooWide c =
    let w = c.in-WordTooWide in
    refused c.args.why c.number_of.result (named " word " w.word.0) c.args.out.now c.number_of.ensures.0 (rw w.is refl) c.put_named-n.ensures c.put_named.ensures
