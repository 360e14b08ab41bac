-- Laws of `zip` and `count`, element by element.
use Prim.Native.Nat.{ℕ, zero, suc, ◌+◌, ◌<◌}
use mathlib.Core.Path.{◌≡◌, refl, ap, ap₂, ◌∙◌}
use mathlib.Core.List.{List, [], ◌∷◌}
use native.Mathlib.Omega.{arith}
use lib.ListN.{length, get_or}
use Rattle.laws.specs.Lists.{zip}

pub length_zip : (f : ℕ → ℕ → ℕ → ℕ) (j : ℕ) (ws rs : List ℕ) → length rs ≡ length ws → length (zip f j ws rs) ≡ length ws
unfolding zip
length_zip f j [] rs h = refl
length_zip f j (w ∷ ws) [] h = h
length_zip f j (w ∷ ws) (r ∷ rs) h = ap suc (length_zip f (suc j) ws rs (omega arith))

pub get_d_zip : (f : ℕ → ℕ → ℕ → ℕ) (j : ℕ) (ws rs : List ℕ) (k : ℕ) → length rs ≡ length ws → k < length ws
    → get_or (zip f j ws rs) k 0 ≡ f (j + k) (get_or ws k 0) (get_or rs k 0)
unfolding zip
get_d_zip f j [] rs k h g = absurd (omega arith)
get_d_zip f j (w ∷ ws) [] k h g = absurd (omega arith)
get_d_zip f j (w ∷ ws) (r ∷ rs) zero h g = ap (λ (i : ℕ). f i w r) (omega arith)
get_d_zip f j (w ∷ ws) (r ∷ rs) (suc k) h g =
    get_d_zip f (suc j) ws rs k (omega arith) (omega arith) ∙ ap (λ (i : ℕ). f i (get_or ws k 0) (get_or rs k 0)) (omega arith)

-- a rule that keeps each word keeps the words
pub zip_kept : (f : ℕ → ℕ → ℕ → ℕ) (j : ℕ) (ws rs : List ℕ) → length rs ≡ length ws → ((k w r : ℕ) → f k w r ≡ w) → zip f j ws rs ≡ ws
unfolding zip
zip_kept f j [] rs h e = refl
zip_kept f j (w ∷ ws) [] h e = absurd (omega arith)
zip_kept f j (w ∷ ws) (r ∷ rs) h e = ap₂ (λ (x : ℕ) (xs : List ℕ). x ∷ xs) (e j w r) (zip_kept f (suc j) ws rs (omega arith) e)

-- counted from 0
pub at_zip : (f : ℕ → ℕ → ℕ → ℕ) (ws rs : List ℕ) (k : ℕ) → length rs ≡ length ws → k < length ws
    → get_or (zip f 0 ws rs) k 0 ≡ f k (get_or ws k 0) (get_or rs k 0)
at_zip f ws rs k h g = get_d_zip f 0 ws rs k h g ∙ ap (λ (i : ℕ). f i (get_or ws k 0) (get_or rs k 0)) (omega arith)
