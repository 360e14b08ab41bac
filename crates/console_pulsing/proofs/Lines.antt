-- The lines that words name, one word after the other, by the definition lines_from.
use Prim.Native.Nat.{ℕ, ◌-◌, ◌<◌, ◌≤◌}
use mathlib.Core.Bool.{Bool, true, false}
use mathlib.Core.Path.{◌≡◌, refl}
use mathlib.Core.List.{List, [], ◌∷◌}
use lib.ListN.{length, take, drop}
use lib.Seq.{drop-length}
use Rattle.std.specs.Prelude.{Option, Some, None}
use Rattle.machine.specs.declared.Lines.{Lines}
use Rattle.text.specs.declared.Place.{Place}
use Rattle.text.specs.Words.{word_at, words_of, place_of}
use Rattle.text.proofs.Runs.{here_none, here_one}
use Rattle.console_pulsing.specs.Lines.{line_names, is_raised, raise, lines_from}

-- ---- what the definition says

no_names : words_of [] ≡ []
unfolding words_of
no_names = refl

no_more : (l : Lines) → lines_from l [] ≡ Some l
unfolding lines_from
no_more l = refl

bad_name : (l : Lines) (w : List ℕ) (ws : List (List ℕ)) → is_raised l (place_of w line_names) ≡ true → lines_from l (w ∷ ws) ≡ None
unfolding lines_from
bad_name l w ws e = rw e

good_name : (l : Lines) (w : List ℕ) (ws : List (List ℕ)) → is_raised l (place_of w line_names) ≡ false →
    lines_from l (w ∷ ws) ≡ lines_from (raise l (place_of w line_names)) ws
unfolding lines_from
good_name l w ws e = rw e

-- ---- from a place of the line on: r is what is told of all of its words, and l of those before the place

abbrev pub word_of : List ℕ → Place → List ℕ
word_of rest p = take (p.to - p.from) (drop p.from rest)

module _ (rest : List ℕ) (at : ℕ) (l : Lines) (r : Option Lines) (so_far : lines_from l (words_of (drop at rest)) ≡ r) where
  pub lines_end : length rest ≡ at → Some l ≡ r
  lines_end e = rw (← e, drop-length, no_names, no_more) at so_far

  module _ (p : Place) (is : p ≡ word_at rest at) (inside : at ≤ length rest) where
    pub lines_over : p.from ≡ p.to → Some l ≡ r
    lines_over e = rw (here_none rest at p is inside e, no_more) at so_far

    module _ (some : p.from < p.to) (k : ℕ) (which : k ≡ place_of (word_of rest p) line_names) (b : Bool)
        (known : b ≡ is_raised l k) where
      pub lines_bad : b ≡ true → None ≡ r
      lines_bad e =
          let bad = bad_name l (word_of rest p) (words_of (drop p.to rest)) (rw (← which, ← known) e) in
          rw (here_one rest at p is inside some, bad) at so_far

      pub lines_on : b ≡ false → (l' : Lines) → l' ≡ raise l k → lines_from l' (words_of (drop p.to rest)) ≡ r
      lines_on e l' f =
          let good = good_name l (word_of rest p) (words_of (drop p.to rest)) (rw (← which, ← known) e) in
          rw (f, which) (rw (here_one rest at p is inside some, good) at so_far)
