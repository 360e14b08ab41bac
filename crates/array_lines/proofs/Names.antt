-- The next word of a line as a name, and a row of choices, each by the word after the last one's.
use Prim.Native.Nat.{ℕ, suc, ◌+◌, ◌-◌, ◌<◌, ◌≤◌}
use Prim.Native.String.{String}
use mathlib.Core.Bool.{Bool, true, false, ◌&&◌}
use mathlib.Core.Path.{◌≡◌, refl, ◌∙◌}
use mathlib.Core.List.{List, [], ◌∷◌}
use mathlib.Core.Logic.{⊎_elim}
use native.Mathlib.Nat.{eq-or-lt_of_le}
use native.Mathlib.Numerals.{add-one}
use native.Mathlib.Omega.{arith}
use borrow.Author.Tests.{le-ltb, eq-eqb, ne_eqb}
use lib.Dec.{ltb, eqb}
use lib.ListN.{length, take, drop, get_or}
use lib.Seq.{get_or-drop, drop-drop}
use Rattle.text.specs.Ascii.{ascii}
use Rattle.text.specs.declared.Place.{Place}
use Rattle.text.specs.Words.{word_at, opens, joined, words_of, alike, place_of}
use Rattle.text.proofs.Runs.{at_from, here_none, here_one, here_ordered}
use Rattle.array_lines.specs.declared.Choice.{Choice}
use Rattle.array_lines.specs.Choices.{is_in, named, at}

-- ---- the next word at or after a place, empty where there is none, and what stands behind it

module _ (line : List ℕ) (from : ℕ) (p : Place) (is : p ≡ word_at line from) (inside : from ≤ length line) where
  pub word_here : take (p.to - p.from) (drop p.from line) ≡ get_or (words_of (drop from line)) 0 []
  word_here =
      ⊎_elim (λ (e : p.from ≡ p.to). let z : p.to - p.from ≡ 0 = omega arith in rw (here_none line from p is inside e, z))
      (λ (h : p.from < p.to). rw (here_one line from p is inside h))
      (eq-or-lt_of_le (here_ordered line from p is inside))

  pub words_behind : words_of (drop p.to line) ≡ drop 1 (words_of (drop from line))
  words_behind =
      ⊎_elim (λ (e : p.from ≡ p.to). rw (← e, at_from line from p is inside, here_none line from p is inside e))
      (λ (h : p.from < p.to). rw (here_one line from p is inside h))
      (eq-or-lt_of_le (here_ordered line from p is inside))

-- ---- an empty word is no name

nameless : (b : ℕ) (apart : Bool) (ws : List (List ℕ)) → place_of [] ws ≡ length ws → place_of [] (joined b apart ws) ≡ length (joined b apart ws)
unfolding joined place_of alike
nameless b apart [] e = refl
nameless b true (w ∷ ws) e = rw e (add-one (length (w ∷ ws)))
nameless b false ([] ∷ ws) e = let z : ⊥ = omega arith in absurd z
nameless b false ((a ∷ w) ∷ ws) e = e

pub no_name : (names : List ℕ) → place_of [] (words_of names) ≡ length (words_of names)
unfolding words_of place_of
no_name [] = refl
no_name (b ∷ s) = by (eqb b 32) refl (no_name s)
  where
    by : (t : Bool) → eqb b 32 ≡ t → place_of [] (words_of s) ≡ length (words_of s) → place_of [] (words_of (b ∷ s)) ≡ length (words_of (b ∷ s))
    by true e h = rw e h
    by false e h = rw e (nameless b (opens s) (words_of s) h)

pub not_in : (names : String) → is_in names [] ≡ false
not_in names = rw (no_name (ascii names), le-ltb (length (words_of (ascii names))) (length (words_of (ascii names))) (omega arith))

-- ---- one choice, of the next word at or after a place

-- that word's place among the names
abbrev pub next_in : List ℕ → ℕ → String → ℕ
next_in line from names = place_of (get_or (words_of (drop from line)) 0 []) (words_of (ascii names))

-- what `choose` answers where that word is one of the first `most` names, and where it isn't
abbrev pub Chose : List ℕ → ℕ → String → ℕ → Choice → Type 0
Chose line from names most c =
    (true ≡ ltb (next_in line from names) most) × (c.place ≡ next_in line from names) × ((c.to ≤ length line) × (words_of (drop c.to line) ≡ drop 1 (words_of (drop from line))))

abbrev pub Missed : List ℕ → ℕ → String → ℕ → Type 0
Missed line from names most = false ≡ ltb (next_in line from names) most

-- ---- a row of choices

named_on : (names : String) (rest : List String) (args : List (List ℕ)) →
    named (names ∷ rest) args ≡ is_in names (get_or args 0 []) && named rest (drop 1 args)
unfolding named
named_on names rest [] = rw (not_in names)
named_on names rest (w ∷ ws) = refl

-- k choices are made, up to a place; `rest` is the row of those to come
pub record Made (line : List ℕ) (row rest : List String) (k from : ℕ) : Type 0 where
  pub inside : from ≤ length line
  pub here : words_of (drop from line) ≡ drop k (words_of line)
  pub so_far : named rest (drop k (words_of line)) ≡ named row (words_of line)

pub none_made : (line : List ℕ) (row : List String) → Made line row row 0 0
none_made line row = record { inside = omega arith; here = refl; so_far = refl }

-- one more is made, and which it is, or it isn't made
module _ {line : List ℕ} {row rest : List String} {k from : ℕ} {names : String} (m : Made line row (names ∷ rest) k from) where
  module _ (c : Choice) (chose : Chose line from names (length (words_of (ascii names))) c) where
    pub place_made : c.place ≡ at (words_of line) k names
    place_made = let z : k + 0 ≡ k = omega arith in chose.1 ∙ (rw (m.here, get_or-drop, z))

    pub one_made : Made line row rest (suc k) c.to
    one_made =
        let args = words_of line in
        let r : is_in names (get_or (drop k args) 0 []) ≡ true = rw (← m.here, ← chose.0) in
        let d : drop 1 (drop k args) ≡ drop (suc k) args = rw (drop-drop, add-one) in
        record {
          inside = chose.2.0;
          here = rw (chose.2.1, m.here, d);
          so_far = rw (← m.so_far, named_on, r, d);
        }

  pub missed : Missed line from names (length (words_of (ascii names))) → named row (words_of line) ≡ false
  missed h =
      let r : is_in names (get_or (drop k (words_of line)) 0 []) ≡ false = rw (← m.here, ← h) in rw (← m.so_far, named_on, r)

-- all are made: what is left is whether there is a word more
pub all_made : {line : List ℕ} {row : List String} {k from : ℕ} {none : Bool} → Made line row [] k from →
    none ≡ eqb (word_at line from).from (word_at line from).to → none ≡ named row (words_of line)
unfolding named
all_made {line} {row} {k} {from} m e =
    let p = word_at line from in
    ⊎_elim (λ (f : p.from ≡ p.to). rw (e, eq-eqb p.from p.to f, ← m.so_far, ← m.here, here_none line from p refl m.inside f))
    (λ (h : p.from < p.to). rw (e, ne_eqb p.from p.to (λ f. omega arith), ← m.so_far, ← m.here, here_one line from p refl m.inside h))
    (eq-or-lt_of_le (here_ordered line from p refl m.inside))
