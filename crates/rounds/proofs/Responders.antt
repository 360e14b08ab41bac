-- The list of responders: its first is the lowest, and an answer takes the first off.
use Prim.Native.Nat.{ℕ, zero, suc, ◌<◌}
use mathlib.Core.Path.{◌≡◌, refl, ap}
use mathlib.Core.Bool.{Bool, true, false}
use mathlib.Core.List.{List, [], ◌∷◌}
use native.Mathlib.Omega.{arith}
use lib.ListN.{length, get_or, drop, set}
use Rattle.laws.specs.Bits.{pick}
use Rattle.std.specs.Prelude.{Some}
use Rattle.machine.specs.declared.WordSlice.{WordSlice}
use Rattle.machine.specs.declared.ResponseBit.{ResponseBit}
use Rattle.machine.specs.Resolution.{lowest}
use Rattle.resolver.specs.Answers.{LowestAt}
use Rattle.rounds.specs.Round.{has}
use Rattle.rounds.specs.Handout.{numbers_with, first_of}

-- the lowest word is the first responder
pub first_lowest : (x : ResponseBit) (k : ℕ) (rs : List ℕ) → lowest (has x) k rs ≡ first_of (numbers_with x k rs)
unfolding lowest numbers_with
first_lowest x k [] = refl
first_lowest x k (r ∷ rs) = go (has x r) (first_lowest x (suc k) rs)
  where
    go : (b : Bool) → lowest (has x) (suc k) rs ≡ first_of (numbers_with x (suc k) rs)
        → pick b (Some (record { 0 = k })) (lowest (has x) (suc k) rs) ≡ first_of (pick b (k ∷ numbers_with x (suc k) rs) (numbers_with x (suc k) rs))
    go true h = refl
    go false h = h

-- the lowest word, made to lose X, is the first responder taken off
pub first_off : (x : ResponseBit) (k i b : ℕ) (rs : List ℕ) → LowestAt (has x) rs i → has x b ≡ false → numbers_with x k (set rs i b) ≡ drop 1 (numbers_with x k rs)
unfolding numbers_with
first_off x k i b [] l h = refl
first_off x k zero b (r ∷ rs) l h = rw (h, l.passes)
first_off x k (suc i) b (r ∷ rs) l h = rw (l.none_lower 0 (omega arith)) (first_off x (suc k) i b rs (behind l) h)
  where
    behind : LowestAt (has x) (r ∷ rs) (suc i) → LowestAt (has x) rs i
    behind l = record { within = omega (arith, l.within); passes = l.passes; none_lower = λ j g. l.none_lower (suc j) (omega arith) }

-- the place of a list's first, where there is one
pub first_of_rest : (k : WordSlice) (n : ℕ) (ks : List ℕ) → first_of (drop n ks) ≡ Some k → (n < length ks) × (get_or ks n 0 ≡ k.0)
first_of_rest k zero [] h = absurd (let z : ◌≡◌ {A = ℕ} 0 1 = cc in omega arith)
first_of_rest k zero (j ∷ ks) h =
    let s : ◌≡◌ {A = WordSlice} (record { 0 = j }) k = cc in (omega arith, ap (λ (w : WordSlice). w.0) s)
first_of_rest k (suc n) [] h = absurd (let z : ◌≡◌ {A = ℕ} 0 1 = cc in omega arith)
first_of_rest k (suc n) (j ∷ ks) h = let r = first_of_rest k n ks h in (omega (arith, r.0), r.1)
