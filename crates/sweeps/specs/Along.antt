-- One list changed beside another, and what a sweep gathers from a list.
use Rattle.std.specs.Prelude.{ℕ, zero, ◌+◌, Bool, List, [], ◌∷◌}
use Rattle.laws.specs.Bits.{digit}

-- each y that has an x beside it becomes f x y; the rest stays
unfoldable pub along : (ℕ → ℕ → ℕ) → List ℕ → List ℕ → List ℕ
along f [] ys = ys
along f (x ∷ xs) [] = []
along f (x ∷ xs) (y ∷ ys) = f x y ∷ along f xs ys

-- each y becomes f y
unfoldable pub each : (ℕ → ℕ) → List ℕ → List ℕ
each f [] = []
each f (y ∷ ys) = f y ∷ each f ys

-- how many pass the test
unfoldable pub many : (ℕ → Bool) → List ℕ → ℕ
many h [] = zero
many h (y ∷ ys) = digit (h y) + many h ys
