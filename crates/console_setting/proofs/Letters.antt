-- The panel takes a number that was read by its register's letter.
use Prim.Native.Nat.{ℕ, ◌<◌, ◌≤◌}
use mathlib.Core.Bool.{Bool, true, false}
use mathlib.Core.Path.{◌≡◌, refl}
use mathlib.Core.List.{List, [], ◌∷◌}
use native.Mathlib.Omega.{arith}
use borrow.Author.Tests.{leb-true, lt-ltb, lt-leb}
use lib.Dec.{ltb, leb}
use Rattle.laws.specs.Bits.{pick}
use Rattle.panel.specs.Numbered.{takes}
use Rattle.std.specs.Prelude.{Option, Some, None}
use Rattle.text.specs.Numbers.{at_most, letter_of, hex_of}
use Rattle.text.specs.Rows.{value_of, numbers_of, values, number_at}
use Rattle.console_setting.specs.Settings.{letter_for}

-- ---- the letter h asks for a number below 256

picked_small : (x : ℕ) (t : Bool) → leb x 255 ≡ t → value_of (pick t (Some x) None) < 256
picked_small x true e = omega (arith, leb-true x 255 e)
picked_small x false e = omega arith

most_small : (n : Option ℕ) → value_of (at_most 255 n) < 256
unfolding at_most
most_small (Some x) = picked_small x (leb x 255) refl
most_small None = omega arith

small : (args : List (List ℕ)) → number_at (values "h" args) 0 < 256
unfolding numbers_of letter_of
small [] = omega arith
small (word ∷ words) = most_small (hex_of word)

taken_by : (k : ℕ) (args : List (List ℕ)) (wide narrow : Bool) → ltb k 5 ≡ wide → ltb k 8 ≡ narrow → k ≤ 9 →
    takes k (number_at (values (letter_for k) args) 0) ≡ true
taken_by k args true narrow e f h = rw e
taken_by k args false true e f h = rw (e, f, lt-leb 256 (number_at (values "h" args) 0) (small args))
taken_by k args false false e f h = rw (e, f, lt-ltb k 10 (omega arith))

pub taken : (k : ℕ) (args : List (List ℕ)) → k ≤ 9 → takes k (number_at (values (letter_for k) args) 0) ≡ true
taken k args h = taken_by k args (ltb k 5) (ltb k 8) refl refl h
