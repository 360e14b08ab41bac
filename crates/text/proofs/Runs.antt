-- A run of bytes that pass a test, one byte at a time.
use Prim.Native.Nat.{ℕ, suc, ◌+◌, ◌-◌, ◌<◌, ◌≤◌}
use mathlib.Core.Bool.{Bool, true, false}
use mathlib.Core.Path.{◌≡◌, refl, sym, ◌∙◌}
use mathlib.Core.List.{List, [], ◌∷◌}
use native.Mathlib.Numerals.{add-one}
use native.Mathlib.Omega.{arith}
use lib.ListN.{length, take, drop, get_or}
use borrow.Author.Tests.{le-leb}
use lib.Dec.{eqb}
use lib.Pointwise.{pointwise}
use lib.Seq.{drop-cons, drop-length, drop-drop}
use Rattle.text.specs.Words.{is_space, ahead, within, end_of, word_at, opens, joined, words_of, alike, place_of}
use Rattle.text.specs.declared.Place.{Place}

cons_passes : (f : ℕ → Bool) (b : ℕ) (s : List ℕ) → f b ≡ true → ahead f (b ∷ s) ≡ ahead f s + 1
unfolding ahead
cons_passes f b s h = rw h

cons_stops : (f : ℕ → Bool) (b : ℕ) (s : List ℕ) → f b ≡ false → ahead f (b ∷ s) ≡ 0
unfolding ahead
cons_stops f b s h = rw h

none_ahead : (f : ℕ → Bool) → ahead f [] ≡ 0
unfolding ahead
none_ahead f = refl

module _ (f : ℕ → Bool) (s : List ℕ) (i : ℕ) where
  -- at a place whose byte passes
  pub passes : i < length s → f (get_or s i 0) ≡ true → ahead f (drop i s) ≡ ahead f (drop (i + 1) s) + 1
  passes h e = rw (add-one i, drop-cons s i 0) (cons_passes f (get_or s i 0) (drop (suc i) s) e)

  -- at one whose byte does not
  pub stops : i < length s → f (get_or s i 0) ≡ false → ahead f (drop i s) ≡ 0
  stops h e = rw (drop-cons s i 0) (cons_stops f (get_or s i 0) (drop (suc i) s) e)

  -- at the end
  pub at_end : length s ≡ i → ahead f (drop i s) ≡ 0
  at_end e = rw (← e, drop-length) (none_ahead f)

-- the next word, from its two ends
pub word_is : (line : List ℕ) (at s from to : ℕ) → s ≡ within line at → from ≡ end_of true line s → to ≡ end_of false line from →
    ◌≡◌ {A = Place} (record { from = from; to = to }) (word_at line at)
unfolding word_at
word_is line at s from to e f g = rw (g, f, e)

-- ---- the words of a line are those that word_at finds one after the other

opens_space : (b : ℕ) (s : List ℕ) → eqb b 32 ≡ true → words_of (b ∷ s) ≡ words_of s
unfolding words_of
opens_space b s h = rw h

opens_word : (b : ℕ) (s : List ℕ) → eqb b 32 ≡ false → words_of (b ∷ s) ≡ joined b (opens s) (words_of s)
unfolding words_of
opens_word b s h = rw h

no_words : words_of [] ≡ []
unfolding words_of
no_words = refl

joined_apart : (b : ℕ) (ws : List (List ℕ)) → joined b true ws ≡ (b ∷ []) ∷ ws
unfolding joined
joined_apart b [] = refl
joined_apart b (w ∷ ws) = refl

joined_on : (b : ℕ) (w : List ℕ) (ws : List (List ℕ)) → joined b false (w ∷ ws) ≡ (b ∷ w) ∷ ws
unfolding joined
joined_on b w ws = refl

past_spaces : (s : List ℕ) → words_of (drop (ahead (is_space true) s) s) ≡ words_of s
unfolding ahead
past_spaces [] = refl
past_spaces (b ∷ s) = by (eqb b 32) refl (past_spaces s)
  where
    by : (t : Bool) → eqb b 32 ≡ t → words_of (drop (ahead (is_space true) s) s) ≡ words_of s →
        words_of (drop (ahead (is_space true) (b ∷ s)) (b ∷ s)) ≡ words_of (b ∷ s)
    by true e h = rw (cons_passes (is_space true) b s e, add-one, opens_space b s e) h
    by false e h = rw (cons_stops (is_space true) b s e)

-- past the spaces stands none
abbrev Fresh : List ℕ → Type 0
Fresh [] = Unit {0}
Fresh (b ∷ s) = eqb b 32 ≡ false

past_fresh : (s : List ℕ) → Fresh (drop (ahead (is_space true) s) s)
past_fresh [] = rw none_ahead tt
past_fresh (b ∷ s) = by (eqb b 32) refl (past_fresh s)
  where
    by : (t : Bool) → eqb b 32 ≡ t → Fresh (drop (ahead (is_space true) s) s) → Fresh (drop (ahead (is_space true) (b ∷ s)) (b ∷ s))
    by true e h = rw (cons_passes (is_space true) b s e, add-one) h
    by false e h = rw (cons_stops (is_space true) b s e) e

-- a word's bytes, and what follows
first_word : (b : ℕ) (s : List ℕ) → eqb b 32 ≡ false →
    words_of (b ∷ s) ≡ take (ahead (is_space false) (b ∷ s)) (b ∷ s) ∷ words_of (drop (ahead (is_space false) (b ∷ s)) (b ∷ s))
first_word b [] e = rw (opens_word b [] e, joined_apart, no_words, cons_passes (is_space false) b [] (rw e), none_ahead, no_words)
first_word b (a ∷ s) e = by (eqb a 32) refl (λ f. first_word a s f)
  where
    by : (t : Bool) → eqb a 32 ≡ t →
        (eqb a 32 ≡ false → words_of (a ∷ s) ≡ take (ahead (is_space false) (a ∷ s)) (a ∷ s) ∷ words_of (drop (ahead (is_space false) (a ∷ s)) (a ∷ s))) →
        words_of (b ∷ (a ∷ s)) ≡ take (ahead (is_space false) (b ∷ (a ∷ s))) (b ∷ (a ∷ s)) ∷ words_of (drop (ahead (is_space false) (b ∷ (a ∷ s))) (b ∷ (a ∷ s)))
    by true f h = rw (opens_word b (a ∷ s) e, f, joined_apart, cons_passes (is_space false) b (a ∷ s) (rw e), cons_stops (is_space false) a s (rw f))
    by false f h = rw (opens_word b (a ∷ s) e, f, h f, joined_on, cons_passes (is_space false) b (a ∷ s) (rw e), add-one)

fresh_one : (s : List ℕ) → Fresh s → 0 < ahead (is_space false) s →
    words_of s ≡ take (ahead (is_space false) s) s ∷ words_of (drop (ahead (is_space false) s) s)
fresh_one [] f h = let z : ⊥ = omega (arith, none_ahead (is_space false)) in absurd z
fresh_one (b ∷ s) f h = first_word b s f

fresh_none : (s : List ℕ) → Fresh s → ahead (is_space false) s ≡ 0 → words_of s ≡ []
fresh_none [] f h = no_words
fresh_none (b ∷ s) f h = let z : ⊥ = omega (arith, cons_passes (is_space false) b s (rw f)) in absurd z

module _ (line : List ℕ) (at : ℕ) (p : Place) (is : p ≡ word_at line at) (inside : at ≤ length line) where
  from_is : p.from ≡ at + ahead (is_space true) (drop at line)
  unfolding word_at
  from_is = rw (is, le-leb at (length line) inside)

  to_is : p.to ≡ p.from + ahead (is_space false) (drop p.from line)
  unfolding word_at
  to_is = rw is

  pub at_from : words_of (drop p.from line) ≡ words_of (drop at line)
  at_from = rw (from_is, ← drop-drop) (past_spaces (drop at line))

  fresh_from : Fresh (drop p.from line)
  fresh_from = rw (from_is, ← drop-drop) (past_fresh (drop at line))

  pub here_ordered : p.from ≤ p.to
  here_ordered = omega (arith, to_is)

  -- no word at or after a place
  pub here_none : p.from ≡ p.to → words_of (drop at line) ≡ []
  here_none e = sym at_from ∙ fresh_none (drop p.from line) fresh_from (omega (arith, to_is))

  -- the next word, and those after it
  pub here_one : p.from < p.to → words_of (drop at line) ≡ take (p.to - p.from) (drop p.from line) ∷ words_of (drop p.to line)
  here_one h =
      let n : p.to - p.from ≡ ahead (is_space false) (drop p.from line) = omega (arith, to_is) in
      rw (← at_from, n, to_is, ← drop-drop) (fresh_one (drop p.from line) fresh_from (omega (arith, to_is)))

-- ---- two words byte by byte: alike where they are the same bytes

pub same_alike : (s t : List ℕ) → pointwise eqb s t ≡ alike s t
unfolding alike
same_alike [] [] = refl
same_alike [] (b ∷ t) = refl
same_alike (a ∷ s) [] = refl
same_alike (a ∷ s) (b ∷ t) = rw (same_alike s t)

-- ---- the place of a word among names: r is what is told of all of them, and number of those before `at`

empty_place : (w : List ℕ) → place_of w [] ≡ 0
unfolding place_of
empty_place w = refl

first_place : (w n : List ℕ) (ns : List (List ℕ)) → alike n w ≡ true → place_of w (n ∷ ns) ≡ 0
unfolding place_of
first_place w n ns e = rw e

later_place : (w n : List ℕ) (ns : List (List ℕ)) → alike n w ≡ false → place_of w (n ∷ ns) ≡ place_of w ns + 1
unfolding place_of
later_place w n ns e = rw e

module _ (names w : List ℕ) (number at r : ℕ) (told : number + place_of w (words_of (drop at names)) ≡ r) where
  pub placed_none : words_of (drop at names) ≡ [] → number ≡ r
  placed_none e = omega (arith, rw (e, empty_place) at told)

  pub placed_end : length names ≡ at → number ≡ r
  placed_end e = placed_none (rw (← e, drop-length) no_words)

  module _ (n : List ℕ) (ns : List (List ℕ)) (is : words_of (drop at names) ≡ n ∷ ns) where
    pub placed_here : true ≡ alike n w → number ≡ r
    placed_here e = omega (arith, rw (is, first_place w n ns (sym e)) at told)

    pub placed_later : false ≡ alike n w → number + 1 + place_of w ns ≡ r
    placed_later e = omega (arith, rw (is, later_place w n ns (sym e)) at told)
