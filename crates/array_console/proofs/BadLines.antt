-- "A line that isn't one of those below .. is a bad line" (docs/BOARD.md), and changes nothing: where a line's outcome is `bad line`, the rack and
-- its three buffers are what they were.
use Prim.Native.Nat.{ℕ, zero, suc}
use mathlib.Core.Path.{◌≡◌, refl}
use mathlib.Core.Bool.{Bool, true, false, ◌&&◌}
use mathlib.Core.List.{List, [], ◌∷◌, ◌++◌}
use native.Mathlib.Omega.{arith}
use lib.Dec.{eqb}
use lib.ListN.{get_or, take, drop, take-append-drop}
use Rattle.laws.specs.Bits.{pick}
use Rattle.text.specs.Rows.{fits}
use Rattle.array.specs.declared.Answer.{Answer}
use Rattle.array.specs.Refusals.{answer_of}
use Rattle.array.specs.declared.Refusal.{Refusal}
use Rattle.array.specs.declared.Operation.{Operation}
use Rattle.std.specs.Prelude.{Option, Some, None, Result, Ok, Err}
use Rattle.array_lines.specs.Choices.{place_in, is_in, search_line, read_line, write_line}
use Rattle.array_console.specs.declared.Rack.{Rack}
use Rattle.array_console.specs.declared.Outcome.TheVariants as outcome
use Rattle.array_console.specs.Commands.{ended, answered, cells_hit, selectors_hit, loaded}
use Rattle.array_console.specs.Obeying.{Bench, After, only, array_of, operated, doings, on_own, own, behind, has_room, makes, named, obeyed}

-- if this is a bad line, it leaves the rack and its buffers
abbrev pub Still : Bench → After → Type 0
Still b a =
    a.turn.outcome ≡ outcome.BadLine → (a.turn.rack ≡ b.rack) × (a.ones ≡ b.ones) × (a.xs ≡ b.xs) × (a.selectors ≡ b.selectors)

-- ---- right or wrong

wrong : (t : Bool) → pick t outcome.Fine outcome.BadLine ≡ outcome.BadLine → t ≡ false
wrong true e = cc
wrong false e = refl

wrong_turn : (t : Bool) (k k' : Rack) → (pick t (ended k' outcome.Fine) (ended k outcome.BadLine)).outcome ≡ outcome.BadLine → t ≡ false
wrong_turn true k k' e = cc
wrong_turn false k k' e = refl

-- ---- the commands

-- what an operation answers is no bad line
answered_other : (k : Rack) (t : Result Answer Refusal) → (answered k t).outcome ≡ outcome.BadLine → ⊥
answered_other k (Ok a) e = let z : ◌≡◌ {A = ℕ} 0 1 = cc in absurd (omega arith)
answered_other k (Err why) e = let z : ◌≡◌ {A = ℕ} 0 1 = cc in absurd (omega arith)

operated_still : (b : Bench) (asked : Option Operation) → Still b (operated b asked)
operated_still b (Some o) e = absurd (answered_other b.rack (answer_of (array_of b) b.rack.registers o) e)
operated_still b None e = (refl, refl, refl, refl)

load_still : (k : Rack) (args : List (List ℕ)) → (loaded k args).outcome ≡ outcome.BadLine → (loaded k args).rack ≡ k
unfolding loaded
load_still k [] e = refl
load_still k (name ∷ args) e = rw (wrong_turn (is_in "r1 r2 m" name && fits "x" args) k _ e) refl

-- ---- the table: what all its entries are, and what stands for no name, the named one is

abbrev Each : (After → Type 0) → List After → Type 0
Each p [] = Unit {0}
Each p (x ∷ xs) = p x × Each p xs

entry_at : (p : After → Type 0) (does : List After) (n : ℕ) (other : After) → Each p does → p other → p (get_or does n other)
entry_at p [] n other all e = e
entry_at p (x ∷ xs) zero other all e = all.0
entry_at p (x ∷ xs) (suc n) other all e = entry_at p xs n other all.1 e

module _ (b : Bench) (args : List (List ℕ)) where
  doings_still : Each (Still b) (doings b args)
  doings_still = (
    λ e. rw (wrong (cells_hit args b.ones b.xs) e) (refl, refl, refl, refl),
    (
      λ e. rw (wrong (selectors_hit args b.selectors) e) (refl, refl, refl, refl),
      (
        λ e. (load_still b.rack args e, refl, refl, refl),
        (
          operated_still b (search_line args),
          (
            operated_still b (read_line args),
            (
              operated_still b (write_line args),
              (λ e. (refl, refl, refl, refl), tt),
            ),
          ),
        ),
      ),
    ),
  )

  on_own_still : (name : List ℕ) → Still b (on_own b name args)
  unfolding on_own
  on_own_still name =
      entry_at (Still b) (doings b args) (place_in "cell3 select3 load3 search3 read3 write3 list3" name) (only b (ended b.rack outcome.BadLine))
      doings_still (λ e. (refl, refl, refl, refl))

module _ (b : Bench) where
  -- the array's own entries are whole again with those behind them
  whole : (a : After) → Still (own b) a → Still b (behind b a)
  whole a s e = let h = s e in rw (h.0, h.1, h.2, h.3) (refl, join b.ones, join b.xs, join b.selectors)
    where
      join : (l : List ℕ) → take b.rack.words l ++ drop b.rack.words l ≡ l
      join = take-append-drop b.rack.words

  makes_still : (args : List (List ℕ)) → Still b (makes b args)
  makes_still args e = rw (wrong_turn (fits "bn" args) b.rack _ e) (refl, refl, refl, refl)

  either : (t : Bool) (x y : After) → Still b x → Still b y → Still b (pick t x y)
  either true x y p q = p
  either false x y p q = q

  named_still : (name : List ℕ) (args : List (List ℕ)) → Still b (named b name args)
  unfolding named
  named_still name args =
      either (eqb (place_in "cells3" name) 0) _ _ (makes_still args)
      (either (has_room b) _ _ (whole (on_own (own b) name args) (on_own_still (own b) args name)) (λ e. (refl, refl, refl, refl)))

  pub bad_line_lem : (line : List (List ℕ)) → Still b (obeyed b line)
  unfolding obeyed
  bad_line_lem [] e = (refl, refl, refl, refl)
  bad_line_lem (name ∷ args) e = named_still name args e
