-- One list changed beside another, as the machine's definitions walk them: side by side and numbered.
use Prim.Native.Nat.{ℕ, zero, suc, ◌+◌, ◌≤◌, ◌<◌}
use mathlib.Core.Path.{◌≡◌, refl, ap, ap₂, ◌∙◌}
use mathlib.Core.List.{List, [], ◌∷◌}
use mathlib.Core.Bool.{Bool}
use native.Mathlib.Omega.{arith}
use lib.ListN.{length, get_or, set}
use Rattle.laws.specs.Bits.{digit}
use Rattle.laws.specs.Lists.{zip, count}
use Rattle.sweeps.specs.Along.{along, each}

-- ---- what a sweep does, as a walk over words and responses

pub second_along : (f : ℕ → ℕ → ℕ) (k : ℕ) (ws rs : List ℕ) → length rs ≡ length ws → along f ws rs ≡ zip (λ j w r. f w r) k ws rs
unfolding along zip
second_along f k [] [] e = refl
second_along f k [] (r ∷ rs) e = absurd (omega arith)
second_along f k (w ∷ ws) [] e = refl
second_along f k (w ∷ ws) (r ∷ rs) e = ap (λ (xs : List ℕ). f w r ∷ xs) (second_along f (suc k) ws rs (omega arith))

pub first_along : (f : ℕ → ℕ → ℕ) (k : ℕ) (ws rs : List ℕ) → length rs ≡ length ws → along f rs ws ≡ zip (λ j w r. f r w) k ws rs
unfolding along zip
first_along f k [] [] e = refl
first_along f k [] (r ∷ rs) e = refl
first_along f k (w ∷ ws) [] e = absurd (omega arith)
first_along f k (w ∷ ws) (r ∷ rs) e = ap (λ (xs : List ℕ). f r w ∷ xs) (first_along f (suc k) ws rs (omega arith))

pub second_each : (f : ℕ → ℕ) (k : ℕ) (ws rs : List ℕ) → length rs ≡ length ws → each f rs ≡ zip (λ j w r. f r) k ws rs
unfolding each zip
second_each f k [] [] e = refl
second_each f k [] (r ∷ rs) e = absurd (omega arith)
second_each f k (w ∷ ws) [] e = refl
second_each f k (w ∷ ws) (r ∷ rs) e = ap (λ (xs : List ℕ). f r ∷ xs) (second_each f (suc k) ws rs (omega arith))

pub first_stays : (k : ℕ) (ws rs : List ℕ) → length rs ≡ length ws → ws ≡ zip (λ j w r. w) k ws rs
unfolding zip
first_stays k [] rs e = refl
first_stays k (w ∷ ws) [] e = absurd (omega arith)
first_stays k (w ∷ ws) (r ∷ rs) e = ap (λ (xs : List ℕ). w ∷ xs) (first_stays (suc k) ws rs (omega arith))

pub second_stays : (k : ℕ) (ws rs : List ℕ) → length rs ≡ length ws → rs ≡ zip (λ j w r. r) k ws rs
unfolding zip
second_stays k [] [] e = refl
second_stays k [] (r ∷ rs) e = absurd (omega arith)
second_stays k (w ∷ ws) [] e = refl
second_stays k (w ∷ ws) (r ∷ rs) e = ap (λ (xs : List ℕ). r ∷ xs) (second_stays (suc k) ws rs (omega arith))

pub count_turned : (h : ℕ → ℕ → Bool) (ws rs : List ℕ) → count h rs ws ≡ count (λ w r. h r w) ws rs
unfolding count
count_turned h [] [] = refl
count_turned h [] (r ∷ rs) = refl
count_turned h (w ∷ ws) [] = refl
count_turned h (w ∷ ws) (r ∷ rs) = ap (λ (n : ℕ). digit (h r w) + n) (count_turned h ws rs)

-- ---- two rules that agree on numbers of the right size

module _ (a b : ℕ) where
  pub zip_like : (f g : ℕ → ℕ → ℕ → ℕ) → ((k w r : ℕ) → w < a → r < b → f k w r ≡ g k w r)
      → (k : ℕ) (ws rs : List ℕ) → ((j : ℕ) → get_or ws j 0 < a) → ((j : ℕ) → get_or rs j 0 < b) → zip f k ws rs ≡ zip g k ws rs
  unfolding zip
  zip_like f g h k [] rs u v = refl
  zip_like f g h k (w ∷ ws) [] u v = refl
  zip_like f g h k (w ∷ ws) (r ∷ rs) u v =
      ap₂ (λ (x : ℕ) (xs : List ℕ). x ∷ xs) (h k w r (u 0) (v 0)) (zip_like f g h (suc k) ws rs (λ j. u (suc j)) (λ j. v (suc j)))

pub count_like : (f g : ℕ → ℕ → Bool) → ((w r : ℕ) → f w r ≡ g w r) → (ws rs : List ℕ) → count f ws rs ≡ count g ws rs
unfolding count
count_like f g h [] rs = refl
count_like f g h (w ∷ ws) [] = refl
count_like f g h (w ∷ ws) (r ∷ rs) = ap₂ (λ (t : Bool) (n : ℕ). digit t + n) (h w r) (count_like f g h ws rs)

-- ---- one word apart

pub zip_same : (f g : ℕ → ℕ → ℕ → ℕ) (k : ℕ) → ((j w r : ℕ) → k ≤ j → f j w r ≡ g j w r) → (ws rs : List ℕ) → zip f k ws rs ≡ zip g k ws rs
unfolding zip
zip_same f g k h [] rs = refl
zip_same f g k h (w ∷ ws) [] = refl
zip_same f g k h (w ∷ ws) (r ∷ rs) =
    ap₂ (λ (x : ℕ) (xs : List ℕ). x ∷ xs) (h k w r (omega arith)) (zip_same f g (suc k) (λ j w r l. h j w r (omega arith)) ws rs)

-- the same but at number i, where g's word is stored afterwards
pub zip_set : (f g : ℕ → ℕ → ℕ → ℕ) (k i v : ℕ) (ws rs : List ℕ) → i < length ws → length rs ≡ length ws
    → v ≡ g (k + i) (get_or ws i 0) (get_or rs i 0) → ((j w r : ℕ) → (j ≡ k + i → ⊥) → f j w r ≡ g j w r)
    → set (zip f k ws rs) i v ≡ zip g k ws rs
unfolding zip
zip_set f g k i v [] rs b e p q = absurd (omega arith)
zip_set f g k i v (w ∷ ws) [] b e p q = absurd (omega arith)
zip_set f g k zero v (w ∷ ws) (r ∷ rs) b e p q =
    let z : k + 0 ≡ k = omega arith in
    ap₂ (λ (x : ℕ) (xs : List ℕ). x ∷ xs) (p ∙ ap (λ (j : ℕ). g j w r) z)
    (zip_same f g (suc k) (λ j w r l. q j w r (λ e. omega arith)) ws rs)
zip_set f g k (suc i) v (w ∷ ws) (r ∷ rs) b e p q =
    let z : k + suc i ≡ suc k + i = omega arith in
    ap₂ (λ (x : ℕ) (xs : List ℕ). x ∷ xs) (q k w r (λ e. omega arith))
    (zip_set f g (suc k) i v ws rs (omega arith) (omega arith) (p ∙ ap (λ (j : ℕ). g j (get_or ws i 0) (get_or rs i 0)) z)
    (λ j w r h. q j w r (λ e. h (omega arith))))
