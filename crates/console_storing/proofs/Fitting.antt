-- The two lengths that `fit` has on its line, where one of them is bad or missing, and where both are there.
use Prim.Native.Nat.{ℕ, ◌-◌, ◌<◌, ◌≤◌}
use mathlib.Core.Path.{◌≡◌, refl, ◌∙◌}
use mathlib.Core.List.{List, []}
use mathlib.Core.Logic.{⊎_elim}
use native.Mathlib.Nat.{eq-or-lt_of_le}
use native.Mathlib.Omega.{arith}
use lib.ListN.{length, take, drop}
use Rattle.std.specs.Prelude.{Option, Some, None}
use Rattle.text.specs.declared.Place.{Place}
use Rattle.text.specs.Numbers.{number_of, at_most, letter_of}
use Rattle.text.specs.Words.{word_at, words_of}
use Rattle.text.proofs.Runs.{here_none, here_one, here_ordered}
use Rattle.console_commands.specs.declared.Board.{Board}
use Rattle.console_commands.specs.declared.Turn.{Turn}
use Rattle.console_commands.specs.Ends.{bad_line}
use Rattle.console_storing.specs.Images.{Reading, fitting}
use Rattle.console_storing.proofs.Reading.{Ends}

-- a missing word says no number
no_word : letter_of 110 [] ≡ None
unfolding letter_of at_most number_of
no_word = refl

-- how many of the two words there are, n and m being the numbers they say, and image the words after them
pub data Way : Reading → Option ℕ → Option ℕ → List (List ℕ) → Type 0 where
  none : {q : Reading} {n m : Option ℕ} {image : List (List ℕ)} → q.words ≡ None → n ≡ None → Way q n m image
  one : {q : Reading} {n m : Option ℕ} {image : List (List ℕ)} → q.words ≡ None → m ≡ None → Way q n m image
  two : {q : Reading} {n m : Option ℕ} {image : List (List ℕ)} → q ≡ record { words = n; responses = m; image = image } → Way q n m image

module _ (line : List ℕ) (p q : Place) (is : p ≡ word_at line 0) (so : q ≡ word_at line p.to) (inside : p.to ≤ length line)
    (n m : Option ℕ) (first : n ≡ letter_of 110 (take (p.to - p.from) (drop p.from line)))
    (second : m ≡ letter_of 110 (take (q.to - q.from) (drop q.from line))) where
  abbrev Here : Type 0
  Here = Way (fitting (words_of line)) n m (words_of (drop q.to line))

  after : p.from < p.to → Here
  after h =
      let f = here_one line 0 p is (omega arith) h in
      ⊎_elim (λ (e : q.from ≡ q.to).
      let z : q.to - q.from ≡ 0 = omega arith in
      let g = rw (here_none line p.to q so inside e) at f in one (rw g) (second ∙ (rw z no_word)))
      (λ (k : q.from < q.to). let g = rw (here_one line p.to q so inside k) at f in two (rw (g, first, second)))
      (eq-or-lt_of_le (here_ordered line p.to q so inside))

  pub way : Here
  way =
      ⊎_elim (λ (e : p.from ≡ p.to).
      let z : p.to - p.from ≡ 0 = omega arith in
      let g = here_none line 0 p is (omega arith) e in none (rw g) (first ∙ (rw z no_word)))
      (λ (h : p.from < p.to). after h)
      (eq-or-lt_of_le (here_ordered line 0 p is (omega arith)))

never : (n : Option ℕ) (x : ℕ) → n ≡ Some x → n ≡ None → ⊥
never n x e f = let z : ◌≡◌ {A = ℕ} 0 1 = cc in omega arith

module _ {q : Reading} {n m : Option ℕ} {image : List (List ℕ)} (b : Board) (words responses bytes : List ℕ) where
  pub first_bad : Way q n m image → n ≡ None → (t : Turn) → t ≡ bad_line b → Ends b q words responses bytes t words responses bytes
  first_bad (none g h) e t f = rw g (f, (refl, (refl, refl)))
  first_bad (one g h) e t f = rw g (f, (refl, (refl, refl)))
  first_bad (two g) e t f = rw (g, e) (f, (refl, (refl, refl)))

  module _ (w : ℕ) (has : n ≡ Some w) where
    pub second_bad : Way q n m image → m ≡ None → (t : Turn) → t ≡ bad_line b → Ends b q words responses bytes t words responses bytes
    second_bad (none g h) e t f = rw g (f, (refl, (refl, refl)))
    second_bad (one g h) e t f = rw g (f, (refl, (refl, refl)))
    second_bad (two g) e t f = rw (g, has, e) (f, (refl, (refl, refl)))

    pub both_good : Way q n m image → (r : ℕ) → m ≡ Some r → (t : Turn) (ws rs bs : List ℕ) →
        Ends b (record { words = Some w; responses = Some r; image = image }) words responses bytes t ws rs bs →
        Ends b q words responses bytes t ws rs bs
    both_good (none g h) r also t ws rs bs told = absurd (never n w has h)
    both_good (one g h) r also t ws rs bs told = absurd (never m r also h)
    both_good (two g) r also t ws rs bs told = rw (g, has, also) told
