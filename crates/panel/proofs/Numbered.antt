-- A load by number: what a register takes, and that this is the value chosen for it.
use Prim.Native.Nat.{ℕ, ◌≤◌, ◌<◌, ◌%◌, ◌^◌}
use mathlib.Core.Path.{◌≡◌, refl, sym, ◌∙◌, ap}
use mathlib.Core.Bool.{Bool, true, false, not}
use native.Mathlib.Nat.{mod-eq_of_lt}
use lib.Dec.{eqb, ltb, leb}
use borrow.Author.Tests.{leb-false, not-true, lt-ltb, le-ltb}
use Rattle.laws.specs.Bits.{pick}
use Rattle.machine.specs.declared.Panel.{Panel}
use Rattle.machine.specs.Machine.{response_bits}
use Rattle.machine.specs.Refusals.{too_wide}
use Rattle.machine.specs.Panel.{registers, load}
use Rattle.panel.specs.Numbered.{takes, chosen}

chosen_is : (wide small last word : Bool) (most v : ℕ) → pick wide true (pick small (not (leb most v)) last) ≡ true
    → pick wide v (pick small (v % most) (pick word v v)) ≡ v
chosen_is true small last word most v e = refl
chosen_is false true last word most v e = mod-eq_of_lt (leb-false most v (not-true (leb most v) e))
chosen_is false false last true most v e = refl
chosen_is false false last false most v e = refl

-- the three 8-bit registers
pub eight_bits : (k v : ℕ) → 5 ≤ k → k < 8 → takes k v ≡ not (too_wide response_bits v)
eight_bits k v a b = rw (le-ltb k 5 a, lt-ltb k 8 b)

pub taken : (k v narrow : ℕ) (p r : Panel) → takes k v ≡ true → narrow ≡ v % 2 ^ response_bits → registers r ≡ load k (chosen k v narrow v) p
    → registers r ≡ pick (takes k v) (load k v p) (registers p)
taken k v narrow p r t n e =
    e
    ∙ ap (λ x. load k (chosen k v x v) p) n
    ∙ ap (λ x. load k x p) (chosen_is (ltb k 5) (ltb k 8) (ltb k 10) (eqb k 8) (2 ^ response_bits) v t)
    ∙ ap (λ b. pick b (load k v p) (registers p)) (sym t)

pub not_taken : (k v : ℕ) (p : Panel) → takes k v ≡ false → registers p ≡ pick (takes k v) (load k v p) (registers p)
not_taken k v p t = ap (λ b. pick b (load k v p) (registers p)) (sym t)
