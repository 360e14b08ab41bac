-- The bits of all words together: taken up one by one, and no word is larger.
use Prim.Native.Nat.{ℕ, zero, suc, ◌+◌, ◌-◌, ◌/◌, ◌^◌, ◌≤◌, ◌<◌}
use mathlib.Core.Path.{◌≡◌, refl, ap, ◌∙◌}
use mathlib.Core.List.{List, [], ◌∷◌}
use native.Mathlib.Omega.{arith}
use lib.Bits.{bit_or, or_add_and, and_le_l, and_le_r}
use lib.ListN.{length, get_or}
use lib.Pow.{ones_lt, ones_split, high}
use Rattle.std.specs.List.{fold}
use Rattle.machine.specs.Words.{union}

union_least : (a : ℕ) (ws : List ℕ) → a ≤ union a ws
unfolding union
union_least a [] = omega arith
union_least a (w ∷ ws) = omega (arith, or_add_and a w, and_le_r a w, union_least (bit_or a w) ws)

pub union_each : (a : ℕ) (ws : List ℕ) (j : ℕ) → j < length ws → get_or ws j 0 ≤ union a ws
unfolding union
union_each a [] j h = absurd (omega arith)
union_each a (w ∷ ws) zero h = omega (arith, or_add_and a w, and_le_l a w, union_least (bit_or a w) ws)
union_each a (w ∷ ws) (suc j) h = union_each (bit_or a w) ws j (omega arith)

-- the k lowest of 64 ones
pub lowest_ones : (k : ℕ) → k ≤ 64 → (2 ^ 64 - 1) / 2 ^ (64 - k) ≡ 2 ^ k - 1
lowest_ones k h =
    let e : 64 ≡ k + (64 - k) = omega arith in
    ap (λ (m : ℕ). (2 ^ m - 1) / 2 ^ (64 - k)) e
    ∙ ap (λ (x : ℕ). x / 2 ^ (64 - k)) (ones_split k (64 - k))
    ∙ high (2 ^ k - 1) (64 - k) (ones_lt (64 - k))

-- the OR over a chain is the union
pub union_is : (a : ℕ) (ws : List ℕ) → fold bit_or a ws ≡ union a ws
unfolding union
union_is a [] = refl
union_is a (w ∷ ws) = union_is (bit_or a w) ws
