-- Lists: a test of each, and two lists walked side by side and numbered.
use Rattle.std.specs.Prelude.{ℕ, zero, suc, ◌+◌, Bool, true, ◌&&◌, List, [], ◌∷◌}
use Rattle.laws.specs.Bits.{digit}

-- f holds of each
unfoldable pub all : {A : Type 0} → (A → Bool) → List A → Bool
all f [] = true
all f (y ∷ ys) = f y && all f ys

-- f of each number (from k), the element of the first list there and that of the second
unfoldable pub zip : (ℕ → ℕ → ℕ → ℕ) → ℕ → List ℕ → List ℕ → List ℕ
zip f k [] rs = []
zip f k (w ∷ ws) [] = []
zip f k (w ∷ ws) (r ∷ rs) = f k w r ∷ zip f (suc k) ws rs

-- how many pairs pass the test
unfoldable pub count : (ℕ → ℕ → Bool) → List ℕ → List ℕ → ℕ
count f [] rs = zero
count f (w ∷ ws) [] = zero
count f (w ∷ ws) (r ∷ rs) = digit (f w r) + count f ws rs
