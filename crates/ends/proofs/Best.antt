-- The greatest and the smallest of A's values in the selected words: a bound on each, and the value of one of them.
use Prim.Native.Nat.{ℕ, zero, suc, ◌≤◌, ◌<◌, min, max}
use mathlib.Core.Path.{◌≡◌, refl}
use mathlib.Core.Bool.{Bool, true, false}
use mathlib.Core.List.{List, [], ◌∷◌}
use native.Mathlib.Omega.{arith}
use lib.Dec.{leb}
use lib.ListN.{length, get_or}
use borrow.Author.Tests.{leb-true, leb-false}
use Rattle.machine.specs.Machine.{selected}
use Rattle.job_plans.specs.declared.Job.{Job}
use Rattle.job_tally.specs.Totals.{value_of, values, greatest_of, smallest_of}
use Rattle.job_tally.proofs.Extremes.{keep_value}

module _ (o : Job) where
  abbrev chosen_at : List ℕ → ℕ → Bool
  chosen_at rs k = selected o.key o.care (get_or rs k 0)

  abbrev value_at : List ℕ → ℕ → ℕ
  value_at ws k = value_of o.a (get_or ws k 0)

  -- some selected word has the value v
  pub record Has (v : ℕ) (ws rs : List ℕ) : Type 0 where
    pub at : ℕ
    pub within : at < length ws
    pub selected : chosen_at rs at ≡ true
    pub value : value_at ws at ≡ v

  has_later : (v w r : ℕ) (ws rs : List ℕ) → Has v ws rs → Has v (w ∷ ws) (r ∷ rs)
  has_later v w r ws rs h = record { at = suc h.at; within = omega (arith, h.within); selected = h.selected; value = h.value }

  -- ---- the greatest

  pub greatest_bounds : (ws rs : List ℕ) (k : ℕ) → length rs ≡ length ws → k < length ws → chosen_at rs k ≡ true → value_at ws k ≤ greatest_of (values o ws rs)
  unfolding values greatest_of
  greatest_bounds [] rs k e l c = absurd (omega arith)
  greatest_bounds (w ∷ ws) [] k e l c = absurd (omega arith)
  greatest_bounds (w ∷ ws) (r ∷ rs) zero e l c = rw c (omega arith)
  greatest_bounds (w ∷ ws) (r ∷ rs) (suc k) e l c = go (selected o.key o.care r) (greatest_bounds ws rs k (omega arith) (omega arith) c)
    where
      go : (t : Bool) → value_at ws k ≤ greatest_of (values o ws rs) → value_at ws k ≤ greatest_of (keep_value t (value_of o.a w) (values o ws rs))
      go true h = omega arith
      go false h = h

  pub greatest_has : (ws rs : List ℕ) → 0 < greatest_of (values o ws rs) → Has (greatest_of (values o ws rs)) ws rs
  unfolding values greatest_of
  greatest_has [] rs h = absurd (omega arith)
  greatest_has (w ∷ ws) [] h = absurd (omega arith)
  greatest_has (w ∷ ws) (r ∷ rs) h = go (selected o.key o.care r) refl h (greatest_has ws rs)
    where
      v : ℕ
      v = value_of o.a w

      g : ℕ
      g = greatest_of (values o ws rs)

      further : (t : Bool) → leb v g ≡ t → selected o.key o.care r ≡ true → 0 < max v g → (0 < g → Has g ws rs) → Has (max v g) (w ∷ ws) (r ∷ rs)
      further true e c h later =
          let l = leb-true v g e in
          let z : max v g ≡ g = omega arith in
          rw z (has_later g w r ws rs (later (omega arith)))
      further false e c h later =
          let l = leb-false v g e in
          record { at = 0; within = omega arith; selected = c; value = omega arith }

      go : (t : Bool) → selected o.key o.care r ≡ t → 0 < greatest_of (keep_value t v (values o ws rs)) → (0 < g → Has g ws rs)
          → Has (greatest_of (keep_value t v (values o ws rs))) (w ∷ ws) (r ∷ rs)
      go true c h later = further (leb v g) refl c h later
      go false c h later = has_later g w r ws rs (later h)

  -- a number above the greatest of them is a bound too
  pub greatest_lt : (top : ℕ) → 0 < top → ((w : ℕ) → value_of o.a w < top) → (ws rs : List ℕ) → greatest_of (values o ws rs) < top
  unfolding values greatest_of
  greatest_lt top p h [] rs = p
  greatest_lt top p h (w ∷ ws) [] = p
  greatest_lt top p h (w ∷ ws) (r ∷ rs) = go (selected o.key o.care r) (greatest_lt top p h ws rs)
    where
      go : (t : Bool) → greatest_of (values o ws rs) < top → greatest_of (keep_value t (value_of o.a w) (values o ws rs)) < top
      go true l = omega (arith, h w)
      go false l = l

  -- ---- the smallest

  module _ (top : ℕ) where
    pub smallest_le : (ws rs : List ℕ) → smallest_of top (values o ws rs) ≤ top
    unfolding values smallest_of
    smallest_le [] rs = omega arith
    smallest_le (w ∷ ws) [] = omega arith
    smallest_le (w ∷ ws) (r ∷ rs) = go (selected o.key o.care r) (smallest_le ws rs)
      where
        go : (t : Bool) → smallest_of top (values o ws rs) ≤ top → smallest_of top (keep_value t (value_of o.a w) (values o ws rs)) ≤ top
        go true l = omega arith
        go false l = l

    pub smallest_bounds : (ws rs : List ℕ) (k : ℕ) → length rs ≡ length ws → k < length ws → chosen_at rs k ≡ true
        → smallest_of top (values o ws rs) ≤ value_at ws k
    unfolding values smallest_of
    smallest_bounds [] rs k e l c = absurd (omega arith)
    smallest_bounds (w ∷ ws) [] k e l c = absurd (omega arith)
    smallest_bounds (w ∷ ws) (r ∷ rs) zero e l c = rw c (omega arith)
    smallest_bounds (w ∷ ws) (r ∷ rs) (suc k) e l c = go (selected o.key o.care r) (smallest_bounds ws rs k (omega arith) (omega arith) c)
      where
        go : (t : Bool) → smallest_of top (values o ws rs) ≤ value_at ws k → smallest_of top (keep_value t (value_of o.a w) (values o ws rs)) ≤ value_at ws k
        go true h = omega arith
        go false h = h

    pub smallest_has : (ws rs : List ℕ) → smallest_of top (values o ws rs) < top → Has (smallest_of top (values o ws rs)) ws rs
    unfolding values smallest_of
    smallest_has [] rs h = absurd (omega arith)
    smallest_has (w ∷ ws) [] h = absurd (omega arith)
    smallest_has (w ∷ ws) (r ∷ rs) h = go (selected o.key o.care r) refl h (smallest_has ws rs)
      where
        v : ℕ
        v = value_of o.a w

        g : ℕ
        g = smallest_of top (values o ws rs)

        further : (t : Bool) → leb g v ≡ t → selected o.key o.care r ≡ true → min v g < top → (g < top → Has g ws rs) → Has (min v g) (w ∷ ws) (r ∷ rs)
        further true e c h later =
            let l = leb-true g v e in
            let z : min v g ≡ g = omega arith in
            rw z (has_later g w r ws rs (later (omega arith)))
        further false e c h later =
            let l = leb-false g v e in
            record { at = 0; within = omega arith; selected = c; value = omega arith }

        go : (t : Bool) → selected o.key o.care r ≡ t → smallest_of top (keep_value t v (values o ws rs)) < top → (g < top → Has g ws rs)
            → Has (smallest_of top (keep_value t v (values o ws rs))) (w ∷ ws) (r ∷ rs)
        go true c h later = further (leb g v) refl c h later
        go false c h later = has_later g w r ws rs (later h)

-- a job with the same criterion and the same A has the same values
pub values_like : (o b : Job) → b.key ≡ o.key → b.care ≡ o.care → b.a ≡ o.a → (ws rs : List ℕ) → values b ws rs ≡ values o ws rs
unfolding values
values_like o b d e f [] rs = refl
values_like o b d e f (w ∷ ws) [] = refl
values_like o b d e f (w ∷ ws) (r ∷ rs) = rw (values_like o b d e f ws rs, d, e, f)
