-- Texts put one after the other are one text put, where all of it has room.
use Prim.Native.Nat.{ℕ, suc, ◌+◌, ◌<◌, ◌≤◌}
use mathlib.Core.Path.{◌≡◌, refl, ap, ap₂, sym, ◌∙◌}
use mathlib.Core.List.{List, [], ◌∷◌, ◌++◌}
use native.Mathlib.Nat.{add-zero, add-suc, suc-add}
use native.Mathlib.Omega.{arith}
use lib.ListN.{length, length-append, set}
use lib.Seq.{sets, length-sets}
use Rattle.output.specs.Digits.{hex_digits}
use Rattle.output.specs.Puts.{Puts}

sets_append : (a b out : List ℕ) (at : ℕ) → sets out at (a ++ b) ≡ sets (sets out at a) (at + length a) b
sets_append [] b out at = rw add-zero
sets_append (x ∷ a) b out at = rw (add-suc, ← suc-add) (sets_append a b (set out at x) (suc at))

-- ---- so many texts

pub puts₂ : {o₁ o₂ : List ℕ} {n₁ n₂ : ℕ} (a b : List ℕ) (at : ℕ) (out : List ℕ) → Puts a at out o₁ n₁ → Puts b n₁ o₁ o₂ n₂ → Puts (a ++ b) at out o₂ n₂
puts₂ {o₁} a b at out p q h =
    let l = length-append a b in
    let f = p (omega arith) in
    let k : length o₁ ≡ length out = ap length f.1 ∙ length-sets out at a in
    let g = q (omega (arith, f.0)) in
    (omega (arith, f.0, g.0), g.1 ∙ ap₂ (λ (x : List ℕ) (m : ℕ). sets x m b) f.1 f.0 ∙ sym (sets_append a b out at))

pub puts₃ : {o₁ o₂ o₃ : List ℕ} {n₁ n₂ n₃ : ℕ} (a b c : List ℕ) (at : ℕ) (out : List ℕ) → Puts a at out o₁ n₁ → Puts b n₁ o₁ o₂ n₂ → Puts c n₂ o₂ o₃ n₃ → Puts (a ++ b ++ c) at out o₃ n₃
puts₃ a b c at out p q r = puts₂ (a ++ b) c at out (puts₂ a b at out p q) r

pub puts₄ : {o₁ o₂ o₃ o₄ : List ℕ} {n₁ n₂ n₃ n₄ : ℕ} (a b c d : List ℕ) (at : ℕ) (out : List ℕ) → Puts a at out o₁ n₁ → Puts b n₁ o₁ o₂ n₂ → Puts c n₂ o₂ o₃ n₃ → Puts d n₃ o₃ o₄ n₄ → Puts (a ++ b ++ c ++ d) at out o₄ n₄
puts₄ a b c d at out p q r s = puts₂ (a ++ b ++ c) d at out (puts₃ a b c at out p q r) s

pub puts₅ : {o₁ o₂ o₃ o₄ o₅ : List ℕ} {n₁ n₂ n₃ n₄ n₅ : ℕ} (a b c d e : List ℕ) (at : ℕ) (out : List ℕ) → Puts a at out o₁ n₁ → Puts b n₁ o₁ o₂ n₂ → Puts c n₂ o₂ o₃ n₃ → Puts d n₃ o₃ o₄ n₄ → Puts e n₄ o₄ o₅ n₅ → Puts (a ++ b ++ c ++ d ++ e) at out o₅ n₅
puts₅ a b c d e at out p q r s t = puts₂ (a ++ b ++ c ++ d) e at out (puts₄ a b c d at out p q r s) t

pub none_put : (at : ℕ) (out : List ℕ) → Puts [] at out out at
none_put at out h = (omega arith, refl)

pub length_hex : (x : ℕ) → length (hex_digits 16 x) ≡ 16
unfolding hex_digits
length_hex x = refl

pub byte_put : (byte at : ℕ) (out o : List ℕ) (n : ℕ) → (at < length out → (n ≡ at + 1) × (o ≡ set out at byte)) → Puts (byte ∷ []) at out o n
byte_put byte at out o n p h = p (omega arith)

-- ---- as many as a loop puts

-- of the text s, put from `at` on, the rest is still to be put at n
pub record Rest (s : List ℕ) (at : ℕ) (out₀ rest out : List ℕ) (n : ℕ) : Type 0 where
  pub told : at + length s ≤ length out₀ → (n + length rest ≡ at + length s) × (sets out n rest ≡ sets out₀ at s)

pub all_left : (s : List ℕ) (at : ℕ) (out : List ℕ) → Rest s at out s out at
all_left s at out = record { told = λ h. (refl, refl) }

module _ {s : List ℕ} {at : ℕ} {out₀ out : List ℕ} {n : ℕ} where
  pub one_less : (a b o : List ℕ) (m : ℕ) → length out ≡ length out₀ → Rest s at out₀ (a ++ b) out n → Puts a n out o m → Rest s at out₀ b o m
  one_less a b o m l r p =
      record {
        told = λ h.
            let k = length-append a b in
            let g = r.told h in
            let f = p (omega (arith, g.0)) in
            (omega (arith, f.0, g.0), ap₂ (λ (x : List ℕ) (y : ℕ). sets x y b) f.1 f.0 ∙ sym (sets_append a b out n) ∙ g.1);
      }

  pub none_left : Rest s at out₀ [] out n → Puts s at out₀ out n
  none_left r h = let g = r.told h in (omega (arith, g.0), g.1)
