-- A list's words put by a loop: what is put, and what is still to be.
use Prim.Native.Nat.{ℕ, suc, ◌+◌, ◌-◌, ◌<◌}
use mathlib.Core.Path.{◌≡◌}
use mathlib.Core.List.{List}
use native.Mathlib.Numerals.{add-one}
use native.Mathlib.Omega.{arith}
use lib.ListN.{length}
use Rattle.output.specs.Puts.{Puts}
use Rattle.output.proofs.Puts.{Rest, all_left, one_less}
use Rattle.array_replies.specs.Texts.{entry_text, words_text}

module _ (ones xs selectors : List ℕ) where
  pub words_left : (k at : ℕ) (out : List ℕ) → Rest (words_text k 0 ones xs selectors) at out (words_text (k - 0) 0 ones xs selectors) out at
  words_left k at out = let e : k - 0 ≡ k = omega arith in rw e (all_left (words_text k 0 ones xs selectors) at out)

  module _ {s : List ℕ} {at : ℕ} {out₀ out : List ℕ} {n : ℕ} where
    pub words_less : (k i : ℕ) (o : List ℕ) (m : ℕ) → i < k → length out ≡ length out₀ → Rest s at out₀ (words_text (k - i) i ones xs selectors) out n →
        Puts (entry_text i ones xs selectors) n out o m → Rest s at out₀ (words_text (k - (i + 1)) (i + 1) ones xs selectors) o m
    unfolding words_text
    words_less k i o m h l r p =
        let e : k - i ≡ suc (k - suc i) = omega arith in
        rw (add-one i) (one_less (entry_text i ones xs selectors) (words_text (k - suc i) (suc i) ones xs selectors) o m l (rw e at r) p)

    pub words_all : (k i : ℕ) → k ≡ i → Rest s at out₀ (words_text (k - i) i ones xs selectors) out n → Puts s at out₀ out n
    unfolding words_text
    words_all k i e r h =
        let z : k - i ≡ 0 = omega arith in
        let g = rw z at (r.told h) in
        (omega (arith, g.0), g.1)
