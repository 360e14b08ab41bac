use mathlib.Core.Path.{◌≡◌, sym, ◌∙◌}
use native.Mathlib.Omega.{arith}
use lib.ListN.{length}
use borrow.Author.Rules.{rules}
use Rattle.image_layout.specs.Sizes.{word_size}
use Rattle.image_stores.proofs.Stored.{items_turn, items_none}
use Rattle.image_stores.proofs.put_words.Goals as goal

pub loop-word-preserved : goal.loop-word-preserved
loop-word-preserved c =
    let l = c.loop-word in
    let a = c.args in
    let r = c.put-place in
    let e : length r.new.out ≡ length l.out = r.auto.out in (
      omega (arith, r.ensures.0),
      omega arith,
      rw (r.ensures.1, r.ensures.0) (l.invariant.2 ∙ items_turn word_size l.out l.place a.words.now l.word-index (search rules)),
    )

pub returns : goal.returns
returns c =
    let l = c.loop-word in
    let a = c.args in
    let e : l.word-index ≡ length a.words.now = omega arith in
    (omega arith, sym (rw e at l.invariant.2 ∙ items_none word_size l.out l.place a.words.now))
