-- Numbered lists of responses, with one of them changed: `each` and `tally`.
use Prim.Native.Nat.{ℕ, zero, suc, ◌+◌, ◌≤◌, ◌<◌}
use mathlib.Core.Path.{◌≡◌, refl, ap, ap₂}
use mathlib.Core.Bool.{Bool, true, false}
use mathlib.Core.List.{List, [], ◌∷◌}
use native.Mathlib.Nat.{add-zero}
use native.Mathlib.Omega.{arith}
use lib.ListN.{length, get_or, set}
use Rattle.laws.specs.Bits.{digit}
use Rattle.handout.specs.Whole.{each, tally}

at_behind : (k i : ℕ) → k + suc i ≡ suc k + i
at_behind k i = omega arith

-- ---- each

-- a change that makes no difference to what is made of it
pub each_set : (g : ℕ → ℕ → ℕ) (k i b : ℕ) (rs : List ℕ) → g (k + i) b ≡ g (k + i) (get_or rs i 0) → each g k (set rs i b) ≡ each g k rs
unfolding each
each_set g k i b [] e = refl
each_set g k zero b (r ∷ rs) e = ap (λ (y : ℕ). y ∷ each g (suc k) rs) (rw add-zero at e)
each_set g k (suc i) b (r ∷ rs) e = ap (λ (l : List ℕ). g k r ∷ l) (each_set g (suc k) i b rs (rw (at_behind k i) at e))

-- nothing is made of any
pub each_same : (g : ℕ → ℕ → ℕ) (k : ℕ) (rs : List ℕ) → ((i : ℕ) → i < length rs → g (k + i) (get_or rs i 0) ≡ get_or rs i 0) → each g k rs ≡ rs
unfolding each
each_same g k [] h = refl
each_same g k (r ∷ rs) h =
    ap₂ (λ (y : ℕ) (l : List ℕ). y ∷ l) (rw add-zero at (h 0 (omega arith)))
    (each_same g (suc k) rs (λ i l. rw (at_behind k i) at (h (suc i) (omega arith))))

-- ---- tally

-- one that no longer passes is counted once less
pub tally_set : (test : ℕ → ℕ → Bool) (k i b : ℕ) (rs : List ℕ) → i < length rs → test (k + i) b ≡ false
    → tally test k (set rs i b) + digit (test (k + i) (get_or rs i 0)) ≡ tally test k rs
unfolding tally
tally_set test k i b [] h e = absurd (omega arith)
tally_set test k zero b (r ∷ rs) h e =
    let f : test k b ≡ false = rw add-zero at e in
    rw (add-zero k, f) (omega arith)
tally_set test k (suc i) b (r ∷ rs) h e =
    rw (at_behind k i) (omega (arith, tally_set test (suc k) i b rs (omega arith) (rw (at_behind k i) at e)))

pub tally_none : (test : ℕ → ℕ → Bool) (k : ℕ) (rs : List ℕ)
    → ((i : ℕ) → i < length rs → test (k + i) (get_or rs i 0) ≡ false) → tally test k rs ≡ 0
unfolding tally
tally_none test k [] h = refl
tally_none test k (r ∷ rs) h =
    let f : test k r ≡ false = rw add-zero at (h 0 (omega arith)) in
    rw f (omega (arith, tally_none test (suc k) rs (λ i l. rw (at_behind k i) at (h (suc i) (omega arith)))))

-- no more than there are
pub tally_few : (test : ℕ → ℕ → Bool) (k : ℕ) (rs : List ℕ) → tally test k rs ≤ length rs
unfolding tally
tally_few test k [] = omega arith
tally_few test k (r ∷ rs) = omega (arith, some (test k r), tally_few test (suc k) rs)
  where
    some : (t : Bool) → digit t ≤ 1
    some true = omega arith
    some false = omega arith

-- ---- numbered from 0

module _ (i b : ℕ) (rs : List ℕ) where
  from_zero : 0 + i ≡ i
  from_zero = omega arith

  pub each_at : (g : ℕ → ℕ → ℕ) → g i b ≡ g i (get_or rs i 0) → each g 0 (set rs i b) ≡ each g 0 rs
  each_at g e = each_set g 0 i b rs (rw from_zero e)

  pub tally_at : (test : ℕ → ℕ → Bool) (c : Bool) → i < length rs → test i b ≡ false → test i (get_or rs i 0) ≡ c
      → tally test 0 (set rs i b) + digit c ≡ tally test 0 rs
  tally_at test c h e f = rw (from_zero, f) at (tally_set test 0 i b rs h (rw from_zero e))

module _ (rs : List ℕ) where
  pub each_all : (g : ℕ → ℕ → ℕ) → ((i : ℕ) → i < length rs → g i (get_or rs i 0) ≡ get_or rs i 0) → each g 0 rs ≡ rs
  each_all g h = each_same g 0 rs (λ i l. let z : 0 + i ≡ i = omega arith in rw z (h i l))

  pub tally_all : (test : ℕ → ℕ → Bool) → ((i : ℕ) → i < length rs → test i (get_or rs i 0) ≡ false) → tally test 0 rs ≡ 0
  tally_all test h = tally_none test 0 rs (λ i l. let z : 0 + i ≡ i = omega arith in rw z (h i l))
