-- Responses are stored as they are: each is one byte.
use mathlib.Core.Path.{ap, ◌∙◌}
use native.Mathlib.Omega.{arith}
use lib.Seq.{sets}
use Rattle.machine.specs.Machine.{machine}
use Rattle.image_stores.proofs.Stored.{as_they_are, wrote_machine}
use Rattle.image_stores.proofs.put_machine.Goals as goal

pub returns : goal.returns
returns c =
    let a = c.args in
    wrote_machine (machine a.width a.words.now a.responses.now) a.out.now _ _ _ _ _ _ _ _ _ _ _ _
    c.put-p0.ensures
    (rw c.from.ensures at c.put-p1.ensures)
    c.put-p2.ensures
    c.put_words-p3.ensures
    c.put-p4.ensures
    (omega (arith, c.put_bytes.ensures.0), c.put_bytes.ensures.1 ∙ ap (sets c.put-p4.new.out c.put-p4.result) (as_they_are a.responses.now (λ i. omega (arith, c.type_inv.responses i))))
