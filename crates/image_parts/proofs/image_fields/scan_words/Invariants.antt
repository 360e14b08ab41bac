use Prim.Native.Nat.{◌-◌, ◌≤◌}
use mathlib.Core.Path.{◌≡◌}
use mathlib.Core.List.{List, ◌++◌}
use lib.ListN.{length, drop, replicate}
use Rattle.image_layout.specs.Sizes.{items_at, words_at, responses_at}
use Rattle.image_layout.specs.Reading.{Field, scan, word_field}
use Rattle.image_parts.proofs.image_fields.scan_words.Given as goal

abbrev pub invariant-loop-i : goal.invariant-loop-i
invariant-loop-i l =
    (responses_at l.i ≤ length l.image)
    × ((fs : List Field) → scan (replicate l.n (word_field l.width) ++ fs) (items_at words_at) (drop (items_at words_at) l.image) ≡ scan (replicate (l.n - l.i) (word_field l.width) ++ fs) (responses_at l.i) (drop (responses_at l.i) l.image))
