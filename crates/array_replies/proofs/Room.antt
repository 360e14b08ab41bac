-- 131,072 bytes are room for every answer and its newline, of buffers of at most 2,048 words.
use Prim.Native.Nat.{ℕ, zero, suc, ◌+◌, ◌-◌, ◌*◌, ◌<◌, ◌≤◌}
use mathlib.Core.Path.{◌≡◌}
use mathlib.Core.Logic.{◌⊎◌, ⊎_elim}
use mathlib.Core.Bool.{◌&&◌}
use mathlib.Core.List.{List}
use native.Mathlib.Omega.{arith}
use borrow.Author.Tests.{lt-ltb, le-ltb}
use lib.Dec.{ltb}
use lib.ListN.{length, get_or}
use Rattle.laws.proofs.Digits.{tri}
use Rattle.array.specs.declared.Refusal.{Refusal}
use Rattle.array.specs.declared.Refusal.TheVariants as refusal
use Rattle.array.specs.Refusals.{number_of}
use Rattle.array_console.specs.declared.Rack.{Rack}
use Rattle.array_console.specs.declared.Outcome.{Outcome}
use Rattle.array_console.specs.declared.Outcome.TheVariants as outcome
use Rattle.listing.proofs.Lengths.{Within, none, both, within, either, text, hex, two, number, word}
use Rattle.array_replies.specs.Texts.{also_text, refusal_text, head_text, word_text, entry_text, words_text, list_text, printed}

-- ---- a refusal

also : (why : Refusal) → Within (also_text why) 26
also refusal.Size = none
also refusal.Width = none
also (refusal.WordTooWide w) = number " word " w.0
also refusal.NoCell = none
also refusal.RegisterTooWide = none

refused : (why : Refusal) → Within (refusal_text why) 54
refused why = let x = both (number "refused " (number_of why)) (also why) in x

-- ---- the list

head : (k : Rack) → Within (head_text k) 112
head k =
    let r = k.registers in
    let x = both (both (both (both (number "cells " k.words) (number " width " k.width)) (word " r1 " r.r1)) (word " r2 " r.r2)) (word " m " r.m) in
    x

line : (i one x s : ℕ) → Within (word_text i one x s) 58
line i one x s = let t = both (both (both (both (both (both (number "\n" i) (text " ")) (hex one)) (text " ")) (hex x)) (text " ")) (two s) in t

module _ (ones xs selectors : List ℕ) where
  -- a word has a line only where the buffer holds it
  entry : (i : ℕ) → Within (entry_text i ones xs selectors) (58 * (length ones - i) - 58 * (length ones - suc i))
  entry i =
      ⊎_elim (λ (h : i < length ones). rw (lt-ltb i (length ones) h)
      (either (ltb i (length xs) && ltb i (length selectors)) (within _ (omega arith) (line i (get_or ones i 0) (get_or xs i 0) (get_or selectors i 0))) none))
      (λ (over : (i ≡ length ones) ⊎ (length ones < i)). let h : length ones ≤ i = ⊎_elim (λ e. omega arith) (λ g. omega arith) over in rw (le-ltb i (length ones) h) none)
      (tri i (length ones))

  words : (k i : ℕ) → Within (words_text k i ones xs selectors) (58 * (length ones - i))
  unfolding words_text
  words zero i = none
  words (suc k) i = within (58 * (length ones - i)) (omega arith) (both (entry i) (words k (suc i)))

  list : (k : Rack) → Within (list_text k ones xs selectors) (112 + 58 * length ones)
  list k = within (112 + 58 * length ones) (omega arith) (both (head k) (words k.words 0))

-- ---- every outcome

small : {s : List ℕ} {m : ℕ} → m ≤ 131071 → Within s m → length s < 131072
small h p = omega (arith, p.fits)

pub room : (o : Outcome) (k : Rack) (ones xs selectors : List ℕ) → length ones ≤ 2048 → length (printed o k ones xs selectors) < 131072
room outcome.BadLine k ones xs selectors h = omega arith
room outcome.Fine k ones xs selectors h = omega arith
room (outcome.Refused why) k ones xs selectors h = small (omega arith) (refused why)
room (outcome.Counted count) k ones xs selectors h = small (omega arith) (number "count " count)
room outcome.Listing k ones xs selectors h = small (omega arith) (list ones xs selectors k)
