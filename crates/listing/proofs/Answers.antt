-- The parts of a list that depend on a case.
use Prim.Native.Nat.{ℕ}
use mathlib.Core.Path.{◌≡◌}
use mathlib.Core.List.{List, ◌++◌, append_assoc}
use Rattle.machine.specs.declared.Refusal.{Refusal}
use Rattle.machine.specs.Refusals.{number_of}
use Rattle.output.specs.Puts.{Puts}
use Rattle.output.proofs.Puts.{puts₂, puts₃}
use Rattle.listing.specs.Lists.{named, refusal_text, also_text}

-- ---- a refusal

pub refused : {o₁ o₂ : List ℕ} {n₁ n₂ : ℕ} (why : Refusal) (k : ℕ) (also out : List ℕ) → k ≡ number_of why → also_text why ≡ also →
    Puts (named "refused " k) 0 out o₁ n₁ → Puts also n₁ o₁ o₂ n₂ → Puts (refusal_text why) 0 out o₂ n₂
refused why k also out e f p q = puts₂ (named "refused " (number_of why)) (also_text why) 0 out (rw e at p) (rw (← f) at q)

regroup : (a s h p : List ℕ) → a ++ s ++ h ++ s ++ p ≡ a ++ (s ++ h) ++ (s ++ p)
regroup a s h p = simp append_assoc

-- each of the two numbers behind its space
pub spaced : {o₁ o₂ o₃ : List ℕ} {n₁ n₂ n₃ : ℕ} (a s h p : List ℕ) (at : ℕ) (out : List ℕ) → Puts a at out o₁ n₁ → Puts (s ++ h) n₁ o₁ o₂ n₂ → Puts (s ++ p) n₂ o₂ o₃ n₃ →
    Puts (a ++ s ++ h ++ s ++ p) at out o₃ n₃
spaced a s h p at out x y z = rw (regroup a s h p) (puts₃ a (s ++ h) (s ++ p) at out x y z)
