-- The parts of an answer that depend on a case, and a word's line.
use Prim.Native.Nat.{ℕ}
use mathlib.Core.Path.{◌≡◌}
use mathlib.Core.List.{List, ◌++◌, append_assoc}
use Rattle.array.specs.declared.Refusal.{Refusal}
use Rattle.array.specs.Refusals.{number_of}
use Rattle.output.specs.Puts.{Puts}
use Rattle.output.proofs.Puts.{puts₂, puts₄}
use Rattle.listing.specs.Lists.{named}
use Rattle.array_replies.specs.Texts.{refusal_text, also_text}

-- ---- a refusal

pub refused : {o₁ o₂ : List ℕ} {n₁ n₂ : ℕ} (why : Refusal) (k : ℕ) (also out : List ℕ) → k ≡ number_of why → also_text why ≡ also →
    Puts (named "refused " k) 0 out o₁ n₁ → Puts also n₁ o₁ o₂ n₂ → Puts (refusal_text why) 0 out o₂ n₂
refused why k also out e f p q = puts₂ (named "refused " (number_of why)) (also_text why) 0 out (rw e at p) (rw (← f) at q)

-- ---- a word's line

regroup : (a s f g h : List ℕ) → a ++ s ++ f ++ s ++ g ++ s ++ h ≡ a ++ (s ++ f) ++ (s ++ g) ++ (s ++ h)
regroup a s f g h = simp append_assoc

-- each of the three numbers behind its space
pub spaced : {o₁ o₂ o₃ o₄ : List ℕ} {n₁ n₂ n₃ n₄ : ℕ} (a s f g h : List ℕ) (at : ℕ) (out : List ℕ) → Puts a at out o₁ n₁ → Puts (s ++ f) n₁ o₁ o₂ n₂ →
    Puts (s ++ g) n₂ o₂ o₃ n₃ → Puts (s ++ h) n₃ o₃ o₄ n₄ → Puts (a ++ s ++ f ++ s ++ g ++ s ++ h) at out o₄ n₄
spaced a s f g h at out w x y z = rw (regroup a s f g h) (puts₄ a (s ++ f) (s ++ g) (s ++ h) at out w x y z)
