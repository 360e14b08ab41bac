-- A product visits each pair i, j with i below a, j below b and i + j below p once.
use Prim.Native.Nat.{ℕ, zero, suc, ◌+◌, ◌-◌, ◌≤◌, ◌<◌, min}
use mathlib.Core.Path.{◌≡◌, refl, sym, ap, ap₂, ◌∙◌}
use mathlib.Core.Bool.{Bool, true, false}
use mathlib.Core.List.{List}
use native.Mathlib.Nat.{add-zero, add-suc}
use native.Mathlib.Omega.{arith}
use lib.Dec.{ltb, leb}
use lib.ListN.{length}
use borrow.Author.Tests.{ltb-true, ltb-false, leb-true, leb-false}
use Rattle.laws.specs.Bits.{digit}
use Rattle.job_plans.specs.declared.Job.{Job}
use Rattle.job_tally.specs.Totals.{sum_below}
use Rattle.ends.proofs.Visits.{Stop}
use Rattle.ends.proofs.ScaledPlaces.{lesser}
use Rattle.ends.proofs.ProductPlaces.{across, row_of, rows}

-- the pairs of one row
row_is : (b p i : ℕ) → sum_below b (λ j. digit (ltb (i + j) p)) ≡ min b (p - i)
unfolding sum_below
row_is zero p i = omega arith
row_is (suc b) p i = go (ltb (i + b) p) refl (row_is b p i)
  where
    go : (t : Bool) → ltb (i + b) p ≡ t → sum_below b (λ j. digit (ltb (i + j) p)) ≡ min b (p - i)
        → digit t + sum_below b (λ j. digit (ltb (i + j) p)) ≡ min (suc b) (p - i)
    go true e h = omega (arith, ltb-true (i + b) p e)
    go false e h = omega (arith, ltb-false (i + b) p e)

pub sum_like : (k : ℕ) (f g : ℕ → ℕ) → ((i : ℕ) → i < k → f i ≡ g i) → sum_below k f ≡ sum_below k g
unfolding sum_below
sum_like zero f g h = refl
sum_like (suc k) f g h = ap₂ (λ (x y : ℕ). x + y) (h k (omega arith)) (sum_like k f g (λ i l. h i (omega arith)))

-- the first of the places, and the rest
sum_first : (k : ℕ) (f : ℕ → ℕ) → sum_below (suc k) f ≡ f 0 + sum_below k (λ i. f (suc i))
unfolding sum_below
sum_first zero f = refl
sum_first (suc k) f = ap (λ (x : ℕ). f (suc k) + x) (sum_first k f) ∙ omega arith

sum_none : (d k : ℕ) (f : ℕ → ℕ) → ((i : ℕ) → k ≤ i → f i ≡ 0) → sum_below (k + d) f ≡ sum_below k f
unfolding sum_below
sum_none zero k f h = rw add-zero
sum_none (suc d) k f h = rw (add-suc, h (k + d) (omega arith), sum_none d k f h) (omega arith)

across_length : (b : Job) (k i j : ℕ) (qs : List Stop) → length (across b i j k qs) ≡ k + length qs
unfolding across
across_length b zero i j qs = omega arith
across_length b (suc k) i j qs = ap suc (across_length b k i (suc j) qs) ∙ omega arith

rows_length : (b : Job) (k i : ℕ) → length (rows b i k) ≡ sum_below k (λ t. row_of b (i + t))
unfolding rows sum_below
rows_length b zero i = refl
rows_length b (suc k) i =
    let e : i + 0 ≡ i = omega arith in
    across_length b (row_of b i) i 0 (rows b (suc i) k)
    ∙ ap₂ (λ (x y : ℕ). row_of b x + y) (sym e) (rows_length b k (suc i) ∙ sum_like k _ _ (λ t l. ap (row_of b) (shift t)))
    ∙ sym (sum_first k (λ t. row_of b (i + t)))
  where
    shift : (t : ℕ) → suc i + t ≡ i + suc t
    shift t = omega arith

-- rows at or above P's width are empty
cut_rows : (b : Job) (t : Bool) → leb b.a.width b.p.width ≡ t
    → sum_below (lesser b) (λ i. row_of b (0 + i)) ≡ sum_below b.a.width (λ i. row_of b (0 + i))
cut_rows b true e = let d : lesser b ≡ b.a.width = omega (arith, leb-true b.a.width b.p.width e) in rw d
cut_rows b false e =
    let l : b.p.width < b.a.width = leb-false b.a.width b.p.width e in
    let d : lesser b ≡ b.p.width = omega arith in
    let z : b.p.width + (b.a.width - b.p.width) ≡ b.a.width = omega arith in
    rw d (sym (sum_none (b.a.width - b.p.width) b.p.width (λ i. row_of b (0 + i)) (λ i h. omega arith)) ∙ ap (λ (k : ℕ). sum_below k (λ i. row_of b (0 + i))) z)

-- "the number of pairs with i+j below p"
pub pairs_are : (b : Job) → length (rows b 0 (lesser b)) ≡ sum_below b.a.width (λ i. sum_below b.b.width (λ j. digit (ltb (i + j) b.p.width)))
pairs_are b =
    rows_length b (lesser b) 0 ∙ cut_rows b _ refl
    ∙ sum_like b.a.width _ _ (λ t l. let z : 0 + t ≡ t = omega arith in ap (row_of b) z ∙ sym (row_is b.b.width b.p.width t))
