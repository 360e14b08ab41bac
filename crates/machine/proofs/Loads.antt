-- Loading one register of the panel changes that register and no other, and leaves nothing of the panel open.
use Prim.Native.Nat.{ℕ, ◌<◌}
use mathlib.Core.Path.{◌≡◌, refl, ◌∙◌, ap}
use lib.ListN.{get_or}
use lib.Seq.{get_or-set_same, get_or-set_other}
use Rattle.machine.specs.declared.Panel.{Panel}
use Rattle.machine.specs.Panel.{registers, panel_of, load}

-- what register k holds
abbrev pub held : Panel → ℕ → ℕ
held p k = get_or (registers p) k 0

pub load_that : (k v : ℕ) (p q : Panel) → k < 10 → registers q ≡ load k v p → held q k ≡ v
load_that k v p q few e = ap (λ xs. get_or xs k 0) e ∙ get_or-set_same (registers p) k v 0 few

pub load_no_other : (k v : ℕ) (p q : Panel) (j : ℕ) → (j ≡ k → ⊥) → registers q ≡ load k v p → held q j ≡ held p j
load_no_other k v p q j other e = ap (λ xs. get_or xs j 0) e ∙ get_or-set_other (registers p) k j v 0 other

-- the registers are all of the panel
pub panel_of_lem : (p : Panel) → panel_of (registers p) ≡ p
panel_of_lem p = refl

pub same_panel : (p q : Panel) → registers p ≡ registers q → p ≡ q
same_panel p q e = ap panel_of e
