-- A list's entries put by a loop: what is put, and what is still to be.
use Prim.Native.Nat.{ℕ, suc, ◌+◌, ◌-◌, ◌<◌}
use mathlib.Core.Path.{◌≡◌}
use mathlib.Core.List.{List}
use native.Mathlib.Numerals.{add-one}
use native.Mathlib.Omega.{arith}
use lib.ListN.{length}
use Rattle.output.specs.Puts.{Puts}
use Rattle.output.proofs.Puts.{Rest, one_less}
use Rattle.listing.specs.Lists.{entry_text, words_text}

module _ {s : List ℕ} {at : ℕ} {out₀ out : List ℕ} {n : ℕ} where
  pub words_less : (words responses : List ℕ) (k i : ℕ) (o : List ℕ) (m : ℕ) → i < k → length out ≡ length out₀ →
      Rest s at out₀ (words_text (k - i) i words responses) out n → Puts (entry_text i words responses) n out o m →
      Rest s at out₀ (words_text (k - (i + 1)) (i + 1) words responses) o m
  unfolding words_text
  words_less words responses k i o m h l r p =
      let e : k - i ≡ suc (k - suc i) = omega arith in
      rw (add-one i) (one_less (entry_text i words responses) (words_text (k - suc i) (suc i) words responses) o m l (rw e at r) p)

  pub words_all : (words responses : List ℕ) (k i : ℕ) → k ≡ i → Rest s at out₀ (words_text (k - i) i words responses) out n → Puts s at out₀ out n
  unfolding words_text
  words_all words responses k i e r h =
      let z : k - i ≡ 0 = omega arith in
      let g = rw z at (r.told h) in
      (omega (arith, g.0), g.1)
