-- One bit of the read bus, gathered word by word: what is gathered and what is left give the whole.
use Prim.Native.Nat.{ℕ, zero, suc, ◌+◌, ◌≤◌, ◌<◌, max}
use mathlib.Core.Path.{◌≡◌, refl, ap, ◌∙◌}
use mathlib.Core.Bool.{Bool, true, false}
use mathlib.Core.List.{List}
use native.Mathlib.Numerals.{add-one}
use native.Mathlib.Omega.{arith}
use lib.Bits.{bit_or}
use lib.ListN.{length, get_or}
use Rattle.laws.specs.Bits.{pick}
use Rattle.array.specs.declared.Cell.{Cell}
use Rattle.array.specs.declared.Cell.TheVariants.{Zero, One, X}
use Rattle.array.specs.Cells.{reads}
use Rattle.array.specs.Words.{Word, cell_at, words}
use Rattle.array.specs.Operations.{bus}
use Rattle.array.proofs.Walks.{word_at, words_from, words_cons, words_end}

-- ---- one word

-- what a word puts on the bus
abbrev pub puts : (ℕ → Bool) → ℕ → Word → ℕ
puts chosen i w = pick (chosen w.selectors) (reads (cell_at w i)) 0

pub reads_one : (c : Cell) → reads c ≤ 1
reads_one Zero = omega arith
reads_one One = omega arith
reads_one X = omega arith

pick_one : (t : Bool) (r : ℕ) → r ≤ 1 → pick t r 0 ≤ 1
pick_one true r h = h
pick_one false r h = omega arith

or_max : (a b : ℕ) → a ≤ 1 → b ≤ 1 → bit_or a b ≡ max a b
or_max zero zero h g = refl
or_max zero (suc zero) h g = refl
or_max (suc zero) zero h g = refl
or_max (suc zero) (suc zero) h g = refl
or_max (suc (suc a)) b h g = absurd (omega arith)
or_max zero (suc (suc b)) h g = absurd (omega arith)
or_max (suc zero) (suc (suc b)) h g = absurd (omega arith)

pub took : (t : Bool) (r on : ℕ) → on ≤ 1 → r ≤ 1 → t ≡ true → bit_or on r ≡ max on (pick t r 0)
took t r on l k h = rw h (or_max on r l k)

pub passed : (t : Bool) (r on : ℕ) → t ≡ false → on ≡ max on (pick t r 0)
passed t r on h = rw h (omega arith)

-- ---- all words

pub record Gathered (chosen : ℕ → Bool) (os xs ss : List ℕ) (i on k : ℕ) : Type 0 where
  pub small : on ≤ 1
  pub is : max on (bus chosen (words_from os xs ss k) i) ≡ bus chosen (words os xs ss) i

module _ (chosen : ℕ → Bool) (os xs ss : List ℕ) (i : ℕ) where
  pub start : Gathered chosen os xs ss i 0 0
  start = record { small = omega arith; is = omega arith }

  next : (on k : ℕ) → k < length os → length xs ≡ length os → length ss ≡ length os
      → max (max on (puts chosen i (word_at os xs ss k))) (bus chosen (words_from os xs ss (suc k)) i) ≡ max on (bus chosen (words_from os xs ss k) i)
  unfolding bus
  next on k h ex es = rw (words_cons os xs ss k h (omega arith) (omega arith)) (omega arith)

  pub step : (on on' k : ℕ) → Gathered chosen os xs ss i on k → k < length os → length xs ≡ length os → length ss ≡ length os
      → on' ≡ max on (puts chosen i (word_at os xs ss k)) → Gathered chosen os xs ss i on' (k + 1)
  step on on' k g h ex es e =
      rw (add-one k, e) (record {
        small = omega (arith, g.small, pick_one (chosen (get_or ss k 0)) _ (reads_one (cell_at (word_at os xs ss k) i)));
        is = next on k h ex es ∙ g.is;
      })

  pub done : (on k : ℕ) → Gathered chosen os xs ss i on k → length os ≤ k → (on ≡ bus chosen (words os xs ss) i) × (on ≤ 1)
  unfolding bus
  done on k g h = (omega (arith, ap (λ (ws : List Word). bus chosen ws i) (words_end os xs ss k h), g.is), g.small)
