-- A job's commands one after the other: how many, and those of the places that an adding job visits.
use Prim.Native.Nat.{ℕ, zero, suc, ◌+◌, ◌-◌, ◌*◌, ◌≤◌, ◌<◌, min}
use mathlib.Core.Path.{◌≡◌, refl, sym, ap, ap₂, ◌∙◌}
use mathlib.Core.Bool.{Bool, true, false}
use mathlib.Core.List.{List, [], ◌∷◌, ◌++◌}
use native.Mathlib.Omega.{arith}
use lib.Dec.{ltb, eqb}
use lib.ListN.{length}
use borrow.Author.Tests.{lt-ltb, ltb-true, ltb-false}
use Rattle.laws.specs.Bits.{pick}
use Rattle.laws.proofs.Digits.{Bit, off, on}
use Rattle.job_plans.specs.declared.Job.{Job}
use Rattle.job_plans.specs.declared.Command.{Command}
use Rattle.job_plans.specs.Places.{moved}
use Rattle.job_plans.specs.Commands.{command}
use Rattle.job_tally.specs.Totals.{sum_below}
use Rattle.ends.specs.Ends.{from_top, row, rows}
use Rattle.ends.proofs.Visits.{Stop, both}
use Rattle.ends.proofs.ScaledPlaces.{ups}
use Rattle.ends.proofs.ProductPlaces as pairs
use Rattle.ends.proofs.ProductPlaces.{across, row_of}

-- ---- extremes

pub top_like : (o : Job) (d e : ℕ → ℕ) (k : ℕ) → ((i : ℕ) → i < k → d i ≡ e i) → from_top o d k ≡ from_top o e k
unfolding from_top
top_like o d e zero h = refl
top_like o d e (suc k) h =
    ap₂ (λ (x : ℕ) (ks : List Command). command (moved o 1 k 0) ∷ (pick (eqb x 1) (command (moved o 2 k 0) ∷ []) [] ++ ks))
    (h k (omega arith)) (top_like o d e k (λ i l. h i (omega arith)))

-- one for each place, and one more for each digit 1
pub top_length : (o : Job) (d : ℕ → ℕ) → ((i : ℕ) → Bit (d i)) → (k : ℕ) → length (from_top o d k) ≡ k + sum_below k d
unfolding from_top sum_below
top_length o d h zero = refl
top_length o d h (suc k) = go (h k) ∙ omega (arith, top_length o d h k)
  where
    go : {x : ℕ} → Bit x → length (command (moved o 1 k 0) ∷ (pick (eqb x 1) (command (moved o 2 k 0) ∷ []) [] ++ from_top o d k)) ≡ suc (x + length (from_top o d k))
    go off = omega arith
    go on = omega arith

-- ---- scaled add and product

pub both_length : (b : Job) (qs : List Stop) → length (both b qs) ≡ 2 * length qs
unfolding both
both_length b [] = refl
both_length b (q ∷ qs) = omega (arith, both_length b qs)

pub both_ups : (b : Job) (i k : ℕ) → i + k ≤ b.p.width → both b (ups b i k) ≡ rows b 1 i k
unfolding both ups row rows
both_ups b i zero h = refl
both_ups b i (suc k) h =
    rw (lt-ltb (i + 0) b.p.width (omega arith))
    (ap (λ (ks : List Command). command (moved b 1 i 0) ∷ command (moved b 2 i 0) ∷ ks) (both_ups b (suc i) k (omega arith)))

both_across : (b : Job) (i j k : ℕ) (qs : List Stop) → both b (across b i j k qs) ≡ both b (across b i j k []) ++ both b qs
unfolding both across
both_across b i j zero qs = refl
both_across b i j (suc k) qs = ap (λ (ks : List Command). command (moved b 1 i j) ∷ command (moved b 2 i j) ∷ ks) (both_across b i (suc j) k qs)

none_across : (b : Job) (i j k : ℕ) → k ≡ 0 → both b (across b i j k []) ≡ []
unfolding both across
none_across b i j k e = rw e refl

-- the places of a row with i+j below p
row_is : (b : Job) (i j k n : ℕ) → n ≡ min k (b.p.width - (i + j)) → row b i j k ≡ both b (across b i j n [])
unfolding row both across
row_is b i j zero n e = sym (none_across b i j n (omega arith))
row_is b i j (suc k) n e = go (ltb (i + j) b.p.width) refl n e (row_is b i (suc j) k)
  where
    go : (t : Bool) → ltb (i + j) b.p.width ≡ t → (n : ℕ) → n ≡ min (suc k) (b.p.width - (i + j))
        → ((n : ℕ) → n ≡ min k (b.p.width - (i + suc j)) → row b i (suc j) k ≡ both b (across b i (suc j) n []))
        → pick t (command (moved b 1 i j) ∷ command (moved b 2 i j) ∷ []) [] ++ row b i (suc j) k ≡ both b (across b i j n [])
    go true d zero e later = absurd (omega (arith, ltb-true (i + j) b.p.width d))
    go true d (suc n) e later =
        let z : n ≡ min k (b.p.width - (i + suc j)) = omega (arith, ltb-true (i + j) b.p.width d) in
        ap (λ (ks : List Command). command (moved b 1 i j) ∷ command (moved b 2 i j) ∷ ks) (later n z)
    go false d n e later =
        let l = ltb-false (i + j) b.p.width d in
        let z : 0 ≡ min k (b.p.width - (i + suc j)) = omega (arith, l) in
        later 0 z ∙ sym (none_across b i j n (omega (arith, l)))

-- all rows, of which those at or above p are empty
pub both_rows : (b : Job) (i k n : ℕ) → n ≡ min k (b.p.width - i) → both b (pairs.rows b i n) ≡ rows b b.b.width i k
unfolding both pairs.rows rows
both_rows b i zero zero e = refl
both_rows b i zero (suc n) e = absurd (omega arith)
both_rows b i (suc k) zero e =
    let z : 0 ≡ min k (b.p.width - suc i) = omega arith in
    let y : 0 ≡ min b.b.width (b.p.width - (i + 0)) = omega arith in
    ap₂ (λ (xs ys : List Command). xs ++ ys) (sym (row_is b i 0 b.b.width 0 y ∙ none_across b i 0 0 refl)) (both_rows b (suc i) k 0 z)
both_rows b i (suc k) (suc n) e =
    let z : n ≡ min k (b.p.width - suc i) = omega arith in
    let w : i ≡ i + 0 = omega arith in
    let y : row_of b i ≡ min b.b.width (b.p.width - (i + 0)) = ap (row_of b) w in
    both_across b i 0 (row_of b i) (pairs.rows b (suc i) n)
    ∙ ap₂ (λ (xs ys : List Command). xs ++ ys) (sym (row_is b i 0 b.b.width (row_of b i) y)) (both_rows b (suc i) k n z)
