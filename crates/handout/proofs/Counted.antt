-- A round counts each responder once.
use Prim.Native.Nat.{ℕ, suc, ◌+◌}
use mathlib.Core.Path.{◌≡◌, refl, ◌∙◌}
use mathlib.Core.Bool.{Bool, true, false, not, ◌&&◌}
use mathlib.Core.List.{List, [], ◌∷◌}
use native.Mathlib.Omega.{arith}
use lib.ListN.{length}
use Rattle.laws.specs.Bits.{pick, digit}
use Rattle.machine.specs.declared.ResponseBit.{ResponseBit}
use Rattle.rounds.specs.Round.{has}
use Rattle.rounds.specs.Handout.{numbers_with}
use Rattle.handout.specs.Whole.{says_done, tally, is_done, is_faulty}

once : (a b : Bool) (m n k : ℕ) → m + n ≡ k → (digit (a && b) + m) + (digit (a && not b) + n) ≡ digit a + k
once true true m n k h = omega arith
once true false m n k h = omega arith
once false b m n k h = omega arith

pub each_once : (x : ResponseBit) (k : ℕ) (vs rs : List ℕ) → tally (is_done x vs) k rs + tally (is_faulty x vs) k rs ≡ length (numbers_with x k rs)
unfolding tally numbers_with
each_once x k vs [] = refl
each_once x k vs (r ∷ rs) =
    once (has x r) (says_done vs k) (tally (is_done x vs) (suc k) rs) (tally (is_faulty x vs) (suc k) rs) _ (each_once x (suc k) vs rs) ∙ go (has x r)
  where
    go : (b : Bool) → digit b + length (numbers_with x (suc k) rs) ≡ length (pick b (k ∷ numbers_with x (suc k) rs) (numbers_with x (suc k) rs))
    go true = omega arith
    go false = omega arith
