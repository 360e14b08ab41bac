use Rattle.listing.specs.Lists.{named, named16}
use Rattle.output.proofs.Puts.{puts₅}
use Rattle.array_replies.proofs.put_head.Goals as goal

pub returns : goal.returns
returns c = let s = c.args in let k = s.rack in puts₅ (named "cells " k.words) (named " width " k.width) (named16 " r1 " k.registers.r1) (named16 " r2 " k.registers.r2) (named16 " m " k.registers.m) 0 s.out.now c.put_named-words.ensures c.put_named-width.ensures c.put_named16-r1.ensures c.put_named16-r2.ensures c.put_named16.ensures
