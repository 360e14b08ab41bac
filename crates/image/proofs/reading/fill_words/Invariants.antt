-- What is filled so far and the words to come are all of them.
use Prim.Native.Nat.{◌+◌, ◌-◌, ◌*◌}
use mathlib.Core.Path.{◌≡◌}
use lib.ListN.{length, drop}
use lib.Seq.{sets}
use Rattle.image_layout.specs.Sizes.{word_size}
use Rattle.image_layout.specs.Reading.{numbers}
use Rattle.image.proofs.reading.fill_words.Given as goal

abbrev pub invariant-loop-i : goal.invariant-loop-i
invariant-loop-i l =
    numbers word_size (length l.initial.words) (drop l.at l.image)
    ≡ sets l.words l.i (numbers word_size (length l.initial.words - l.i) (drop (l.at + word_size * l.i) l.image))
