use Prim.Native.Nat.{ℕ}
use mathlib.Core.Path.{sym, ap, ◌∙◌}
use lib.ListN.{length}
use Rattle.machine.specs.Machine.{machine}
use Rattle.jobs.specs.Runs.{state}
use Rattle.image_layout.specs.Sizes.{image_size}
use Rattle.image.proofs.WriteCalls.{few_words, write_then}
use Rattle.image.proofs.writing.check_write.Goals as goal

pub image_size-size-requires : goal.image_size-size-requires
image_size-size-requires c =
    let a = c.args in
    (few_words (machine a.width a.words.now a.responses.now) (sym c.in_ok-check_machine.ensures), c.count_jobs.ensures.1)

pub returns : goal.returns
returns c =
    let a = c.args in
    c.refuse.ensures
    ∙ write_then (state a.width a.words.now a.responses.now a.held) a.room _ c.in_ok-check_machine.ensures c.in_ok-check_jobs.ensures
    (c.image_size-size.ensures ∙ ap (λ (k : ℕ). image_size (length a.words.now) k) c.count_jobs.ensures.0)
