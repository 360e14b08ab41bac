-- How long a list can be.
use Prim.Native.Nat.{ℕ, zero, suc, ◌-◌, ◌*◌, ◌<◌, ◌≤◌}
use mathlib.Core.Path.{◌≡◌, refl, ◌∙◌}
use mathlib.Core.Logic.{◌⊎◌, ⊎_elim}
use mathlib.Core.List.{List}
use borrow.Author.Tests.{lt-ltb, le-ltb}
use native.Mathlib.Omega.{arith}
use lib.Dec.{ltb}
use lib.ListN.{length, length-replicate, get_or, replicate}
use lib.Seq.{sets, length-sets}
use Rattle.laws.proofs.Digits.{tri}
use Rattle.std.specs.Prelude.{Result, Ok, Err}
use Rattle.machine.specs.declared.Refusal.{Refusal}
use Rattle.machine.specs.Refusals.{Check, change_by}
use Rattle.image.specs.declared.Loaded.{Loaded}
use Rattle.image.specs.Calls.{read_of, words_read, responses_read}
use Rattle.listing.specs.Lists.{word_text, entry_text, words_text, found_text, list_text}
use Rattle.listing.proofs.Lengths.{Within, none, both, within, either, text, hex, two, number, refused}

line : (i w r : ℕ) → Within (word_text i w r) 41
line i w r = let x = both (both (both (both (number "\n" i) (text " ")) (hex w)) (text " ")) (two r) in x

-- a word has a line only where the buffer holds it
entry : (i : ℕ) (ws rs : List ℕ) → Within (entry_text i ws rs) (41 * (length ws - i) - 41 * (length ws - suc i))
entry i ws rs =
    ⊎_elim (λ (h : i < length ws). rw (lt-ltb i (length ws) h)
    (either (ltb i (length rs)) (within _ (omega arith) (line i (get_or ws i 0) (get_or rs i 0))) none))
    (λ (over : (i ≡ length ws) ⊎ (length ws < i)). let h : length ws ≤ i = ⊎_elim (λ e. omega arith) (λ g. omega arith) over in rw (le-ltb i (length ws) h) none)
    (tri i (length ws))

words : (k i : ℕ) (ws rs : List ℕ) → Within (words_text k i ws rs) (41 * (length ws - i))
unfolding words_text
words zero i ws rs = none
words (suc k) i ws rs = within (41 * (length ws - i)) (omega arith) (both (entry i ws rs) (words k (suc i) ws rs))

found : (r : Result Loaded Refusal) (ws rs : List ℕ) → length ws ≡ 1024 → Within (found_text r ws rs) 42037
found (Ok m) ws rs e = within 42037 (omega arith) (both (both (number "words " m.words) (number " width " m.width)) (words m.words 0 ws rs))
found (Err why) ws rs e = within 42037 (omega arith) (refused why)

changed : (c : Check) (v ws : List ℕ) → length (change_by c (sets ws 0 v) ws) ≡ length ws
changed (Ok u) v ws = length-sets ws 0 v
changed (Err why) v ws = refl

words_kept : (bs ws rs : List ℕ) → length (words_read bs ws rs) ≡ length ws
unfolding words_read
words_kept bs ws rs = rw changed

pub list : (image : List ℕ) → Within (list_text image) 42037
list image =
    let zeros : List ℕ = replicate 1024 0 in
    found (read_of image 1024 1024) (words_read image zeros zeros) (responses_read image zeros zeros) (words_kept image zeros zeros ∙ length-replicate {A = ℕ} 1024 0)
