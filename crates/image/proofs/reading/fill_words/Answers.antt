use Prim.Native.Nat.{◌+◌, ◌*◌}
use mathlib.Core.Path.{◌≡◌, sym, ◌∙◌}
use native.Mathlib.Omega.{arith}
use native.Mathlib.Nat.{add-zero, sub-zero}
use lib.ListN.{length, drop}
use Rattle.image_layout.specs.Sizes.{word_size}
use Rattle.image_layout.proofs.Reading.{length_numbers}
use Rattle.image_stores.proofs.Stored.{fill_turn, fill_none}
use Rattle.image.proofs.ReadCalls.{put_all}
use Rattle.image.proofs.reading.fill_words.Goals as goal

pub loop-i-init : goal.loop-i-init
loop-i-init c =
    let a = c.args in
    rw (sub-zero, add-zero) (put_all a.words.now _ (length_numbers word_size (length a.words.now) (drop a.at a.image.now)))

pub loop-i-preserved : goal.loop-i-preserved
loop-i-preserved c =
    let l = c.loop-i in
    let a = c.args in
    rw c.number_at.ensures.0 (l.invariant ∙ fill_turn word_size l.words a.image.now a.at l.i (length a.words.now) (omega arith))

pub returns : goal.returns
returns c =
    let l = c.loop-i in
    let a = c.args in
    let e : l.i ≡ length a.words.now = omega arith in
    sym (rw e at l.invariant ∙ fill_none l.words (drop (a.at + word_size * length a.words.now) a.image.now) word_size (length a.words.now) (length a.words.now))
