-- A row read letter by letter, by the definitions fitting and numbers_of.
use Prim.Native.Nat.{ℕ, ◌+◌, ◌-◌, ◌<◌, ◌≤◌}
use mathlib.Core.Bool.{Bool, true, false, ◌&&◌}
use mathlib.Core.Path.{◌≡◌, refl, sym, ◌∙◌}
use mathlib.Core.List.{List, [], ◌∷◌}
use mathlib.Core.Logic.{⊎_elim}
use native.Mathlib.Nat.{eq-or-lt_of_le}
use native.Mathlib.Numerals.{add-one}
use native.Mathlib.Omega.{arith}
use borrow.Author.Tests.{eq-eqb, ne_eqb}
use lib.Dec.{eqb}
use lib.ListN.{length, take, drop, get_or, set}
use lib.Seq.{sets, drop-cons, drop-length}
use Rattle.std.specs.Prelude.{Option, Some, None}
use Rattle.laws.specs.Bits.{pick}
use Rattle.text.specs.Numbers.{number_of, at_most, letter_of}
use Rattle.text.specs.Rows.{is_number, value_of, fitting, numbers_of}
use Rattle.text.specs.Words.{word_at, words_of}
use Rattle.text.specs.declared.Place.{Place}
use Rattle.text.proofs.Runs.{here_none, here_one, here_ordered}

-- ---- what the definitions say

few : (l : ℕ) (ls : List ℕ) → fitting (l ∷ ls) [] ≡ false
unfolding fitting
few l ls = refl

many : (w : List ℕ) (ws : List (List ℕ)) → fitting [] (w ∷ ws) ≡ false
unfolding fitting
many w ws = refl

enough : fitting [] [] ≡ true
unfolding fitting
enough = refl

one_fits : (l : ℕ) (ls w : List ℕ) (ws : List (List ℕ)) → fitting (l ∷ ls) (w ∷ ws) ≡ is_number (letter_of l w) && fitting ls ws
unfolding fitting
one_fits l ls w ws = refl

one_number : (l : ℕ) (ls w : List ℕ) (ws : List (List ℕ)) → numbers_of (l ∷ ls) (w ∷ ws) ≡ value_of (letter_of l w) ∷ numbers_of ls ws
unfolding numbers_of
one_number l ls w ws = refl

no_number_left : (ws : List (List ℕ)) → numbers_of [] ws ≡ []
unfolding numbers_of
no_number_left ws = refl

-- ---- no word says no number, whatever the letter

all_bad : (a b c d e : Bool) → pick {A = Option ℕ} a None (pick b None (pick c None (pick d None (pick e None None)))) ≡ None
all_bad true b c d e = refl
all_bad false true c d e = refl
all_bad false false true d e = refl
all_bad false false false true e = refl
all_bad false false false false true = refl
all_bad false false false false false = refl

no_word : (l : ℕ) → letter_of l [] ≡ None
unfolding letter_of at_most number_of
no_word l = all_bad (eqb l 98) (eqb l 110) (eqb l 107) (eqb l 97) (eqb l 104)

-- ---- one letter more, and its word

module _ (line letters : List ℕ) (at i : ℕ) (p : Place) (is : p ≡ word_at line at) (inside : at ≤ length line) (more : i < length letters)
    (found : Option ℕ) (told : found ≡ letter_of (get_or letters i 0) (take (p.to - p.from) (drop p.from line))) where
  first : drop i letters ≡ get_or letters i 0 ∷ drop (i + 1) letters
  first = rw (add-one i, drop-cons letters i 0 more)

  pub row_bad : found ≡ None → fitting (drop i letters) (words_of (drop at line)) ≡ false
  row_bad e =
      ⊎_elim (λ (f : p.from ≡ p.to). rw (first, here_none line at p is inside f) (few (get_or letters i 0) (drop (i + 1) letters)))
      (λ (h : p.from < p.to). rw (first, here_one line at p is inside h, one_fits, ← told, e))
      (eq-or-lt_of_le (here_ordered line at p is inside))

  module _ (x : ℕ) (e : found ≡ Some x) where
    some : p.from < p.to
    some =
        ⊎_elim (λ (f : p.from ≡ p.to).
        let n : p.to - p.from ≡ 0 = omega arith in
        let b : found ≡ None = told ∙ (rw n (no_word (get_or letters i 0))) in
        let z : ◌≡◌ {A = ℕ} 0 1 = cc in let y : ⊥ = omega arith in absurd y)
        (λ (h : p.from < p.to). h)
        (eq-or-lt_of_le (here_ordered line at p is inside))

    pub row_on : fitting (drop i letters) (words_of (drop at line)) ≡ fitting (drop (i + 1) letters) (words_of (drop p.to line))
    row_on = rw (first, here_one line at p is inside some, one_fits, ← told, e)

    pub row_put : (values W : List ℕ) → sets values i (numbers_of (drop i letters) (words_of (drop at line))) ≡ W → (values' : List ℕ) →
        values' ≡ set values i x → sets values' (i + 1) (numbers_of (drop (i + 1) letters) (words_of (drop p.to line))) ≡ W
    row_put values W so_far values' f =
        let g : numbers_of (drop i letters) (words_of (drop at line)) ≡ x ∷ numbers_of (drop (i + 1) letters) (words_of (drop p.to line)) =
        rw (first, here_one line at p is inside some, one_number, ← told, e) in
        rw (f, add-one i) (rw (g, add-one i) at so_far)

-- ---- after the last letter

module _ (line letters : List ℕ) (at i : ℕ) (inside : at ≤ length line) (e : length letters ≡ i) where
  over : drop i letters ≡ []
  over = rw (← e, drop-length)

  pub row_end : eqb (word_at line at).from (word_at line at).to ≡ fitting (drop i letters) (words_of (drop at line))
  row_end =
      let p = word_at line at in
      ⊎_elim (λ (f : p.from ≡ p.to). eq-eqb p.from p.to f ∙ sym (rw (over, here_none line at p refl inside f) enough))
      (λ (h : p.from < p.to). ne_eqb p.from p.to (λ f. omega arith) ∙ sym (rw (over, here_one line at p refl inside h, many)))
      (eq-or-lt_of_le (here_ordered line at p refl inside))

  pub row_all : (values W : List ℕ) → sets values i (numbers_of (drop i letters) (words_of (drop at line))) ≡ W → values ≡ W
  row_all values W so_far = rw (over, no_number_left) at so_far
