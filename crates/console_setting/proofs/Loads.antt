-- A register's name and its number on a line, and the panel after the load.
use Prim.Native.Nat.{ℕ, ◌-◌, ◌<◌, ◌≤◌}
use mathlib.Core.Bool.{Bool, true, false}
use mathlib.Core.Path.{◌≡◌, refl, ap, sym, ◌∙◌}
use mathlib.Core.List.{List, [], ◌∷◌}
use mathlib.Core.Logic.{⊎_elim}
use native.Mathlib.Nat.{eq-or-lt_of_le}
use native.Mathlib.Omega.{arith}
use borrow.Author.Tests.{lt-ltb, le-ltb}
use lib.ListN.{length, take, drop, get_or, length-drop}
use lib.Seq.{take_all}
use Rattle.laws.specs.Bits.{pick}
use Rattle.machine.specs.declared.Panel.{Panel}
use Rattle.machine.specs.Panel.{registers, load}
use Rattle.panel.specs.Numbered.{takes}
use Rattle.text.specs.declared.Place.{Place}
use Rattle.text.specs.Rows.{fits, values, number_at}
use Rattle.text.specs.Words.{word_at, joined, words_of, alike, place_of}
use Rattle.text.proofs.Runs.{here_none, here_one, here_ordered}
use Rattle.console_commands.specs.declared.Board.{Board}
use Rattle.console_commands.specs.Ends.{bad_line, fine}
use Rattle.console_setting.proofs.Letters.{taken}
use Rattle.machine.specs.Panel.{panel_of}
use Rattle.console_setting.specs.Settings.{with_panel, register_names, letter_for, loaded_at, loaded}

-- ---- what the definitions say

nameless : place_of [] register_names ≡ 10
unfolding words_of joined place_of alike
nameless = refl

loaded_none : (b : Board) → loaded b [] ≡ bad_line b
unfolding loaded
loaded_none b = refl

loaded_one : (b : Board) (name : List ℕ) (args : List (List ℕ)) → loaded b (name ∷ args) ≡ loaded_at b (place_of name register_names) args
unfolding loaded
loaded_one b name args = refl

-- ---- the name and what follows it

-- the rest of a line from a place on, as code cuts it out
abbrev after : List ℕ → ℕ → List ℕ
after line at = take (length line - at) (drop at line)

after_is : (line : List ℕ) (at : ℕ) → after line at ≡ drop at line
after_is line at = take_all (length line - at) (drop at line) (omega (arith, length-drop at line))

module _ (line : List ℕ) (b : Board) (p : Place) (is : p ≡ word_at line 0) (k : ℕ)
    (named : k ≡ place_of (take (p.to - p.from) (drop p.from line)) register_names) where
  none_named : p.from ≡ p.to → k ≡ 10
  none_named e = let z : p.to - p.from ≡ 0 = omega arith in named ∙ (rw z nameless)

  one_named : p.from < p.to → loaded b (words_of line) ≡ loaded_at b k (words_of (after line p.to))
  one_named h = rw (after_is line p.to, here_one line 0 p is (omega arith) h, loaded_one, ← named)

  pub unnamed : 9 < k → bad_line b ≡ loaded b (words_of line)
  unnamed h =
      ⊎_elim (λ (e : p.from ≡ p.to). rw (here_none line 0 p is (omega arith) e, loaded_none))
      (λ (f : p.from < p.to). rw (one_named f, le-ltb k 10 (omega arith)))
      (eq-or-lt_of_le (here_ordered line 0 p is (omega arith)))

  module _ (few : k ≤ 9) where
    split : loaded b (words_of line) ≡ loaded_at b k (words_of (after line p.to))
    split =
        ⊎_elim (λ (e : p.from ≡ p.to). let z : ⊥ = omega (arith, none_named e) in absurd z)
        one_named
        (eq-or-lt_of_le (here_ordered line 0 p is (omega arith)))

    module _ (right : Bool) (fit : right ≡ fits (letter_for k) (words_of (after line p.to))) where
      pub misread : right ≡ false → bad_line b ≡ loaded b (words_of line)
      misread h = rw (split, lt-ltb k 10 (omega arith), ← fit, h)

      module _ (h : right ≡ true) (row : List ℕ) (reads : row ≡ values (letter_for k) (words_of (after line p.to)))
          (q : Panel) where
        pub wellread : registers q ≡ pick (takes k (get_or row 0 0)) (load k (get_or row 0 0) b.panel) (registers b.panel) →
            fine (with_panel b q) ≡ loaded b (words_of line)
        wellread e =
            let m : row ≡ values (letter_for k) (words_of (after line p.to)) = reads in
            let f : registers q ≡ load k (number_at (values (letter_for k) (words_of (after line p.to))) 0) b.panel =
            rw (m, taken k (words_of (after line p.to)) few) at e in
            ap (λ (rs : List ℕ). fine (with_panel b (panel_of rs))) f ∙ sym (rw (split, lt-ltb k 10 (omega arith), ← fit, h))
