use Prim.Native.Nat.{ℕ}
use mathlib.Core.Path.{ap, ◌∙◌}
use mathlib.Core.Bool.{◌&&◌}
use lib.Dec.{leb}
use borrow.Author.Rules.{rules}
use Rattle.image_layout.specs.Sizes.{words_at}
use Rattle.image_layout.specs.Reading.{word_count}
use Rattle.image_parts.proofs.Parts.{cut_off, holds_read}
use Rattle.image_parts.proofs.image_fields.word_count_right.Goals as goal

pub returns-then-image-ge-COUNT_SIZE : goal.returns-then-image-ge-COUNT_SIZE
returns-then-image-ge-COUNT_SIZE c =
    let a = c.args in holds_read word_count a.image.now words_at _ c.if-image-ge-COUNT_SIZE.true (search rules ∙ ap (λ (v : ℕ). leb 1 v && leb v 1024) c.words_in.ensures)

pub returns-else-image-ge-COUNT_SIZE : goal.returns-else-image-ge-COUNT_SIZE
returns-else-image-ge-COUNT_SIZE c = let a = c.args in cut_off word_count a.image.now words_at c.if-image-ge-COUNT_SIZE.false
