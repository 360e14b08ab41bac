-- What is stored so far and the words to come are all of them.
use Prim.Native.Nat.{◌+◌, ◌*◌}
use mathlib.Core.Path.{◌≡◌}
use lib.ListN.{length, drop}
use lib.Seq.{sets}
use Rattle.image_layout.specs.Sizes.{word_size}
use Rattle.image_layout.specs.Format.{bytes, items}
use Rattle.image_stores.proofs.put_words.Given as goal

abbrev pub invariant-loop-word : goal.invariant-loop-word
invariant-loop-word l =
    (l.place ≡ l.at + word_size * l.word-index) × (length l.out ≡ length l.initial.out) × (sets l.initial.out l.at (items (bytes word_size) l.words) ≡ sets l.out l.place (items (bytes word_size) (drop l.word-index l.words)))
