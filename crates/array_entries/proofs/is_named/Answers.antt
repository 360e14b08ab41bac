use Prim.Native.Nat.{ℕ, suc, ◌+◌, ◌≤◌, ◌<◌}
use mathlib.Core.Path.{◌≡◌, ◌∙◌}
use mathlib.Core.Bool.{false}
use mathlib.Core.List.{List}
use native.Mathlib.Numerals.{add-one}
use native.Mathlib.Omega.{arith}
use borrow.Author.Tests.{lt-ltb, le-ltb}
use borrow.Author.Rules.{rules}
use lib.Dec.{eqb}
use lib.ListN.{length, get_or, drop, drop_of_length-le}
use lib.Seq.{drop-cons}
use Rattle.array_entries.specs.Numbers.{from, digit_of, named}
use Rattle.array_entries.proofs.is_named.Goals as goal

module _ (code i : ℕ) (names : List ℕ) where
  past : i < length names → get_or names i 0 ≤ digit_of code (i + 1) → false ≡ named code (suc i) (drop i names)
  unfolding named
  past h g = rw (drop-cons names i 0 h, le-ltb (digit_of code (suc i)) (get_or names i 0) (rw (add-one i) at g))

  within : i < length names → digit_of code (i + 1) < get_or names i 0 → named code (suc (i + 1)) (drop (i + 1) names) ≡ named code (suc i) (drop i names)
  unfolding named
  within h g = rw (add-one i, drop-cons names i 0 h, lt-ltb (digit_of code (suc i)) (get_or names i 0) (rw (add-one i) at g))

  all : i ≡ length names → eqb (from code (length names + 1)) 0 ≡ named code (suc i) (drop i names)
  unfolding named
  all h = let k : length names ≤ length names = omega arith in rw (h, drop_of_length-le names k, add-one (length names))

pub returns-then-most-digit_of : goal.returns-then-most-digit_of
returns-then-most-digit_of c =
    past c.args.code c.loop-i.i c.args.names.now (search rules) (search rules) ∙ c.loop-i.invariant

pub loop-i-preserved : goal.loop-i-preserved
loop-i-preserved c =
    within c.args.code c.loop-i.i c.args.names.now (search rules) (search rules) ∙ c.loop-i.invariant

pub returns : goal.returns
returns c = all c.args.code c.loop-i.i c.args.names.now (search rules) ∙ c.loop-i.invariant
