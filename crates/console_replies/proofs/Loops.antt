-- An image's bytes put by a loop: what is put, and what is still to be.
use Prim.Native.Nat.{ℕ, suc, ◌+◌, ◌<◌}
use mathlib.Core.Path.{◌≡◌}
use mathlib.Core.List.{List}
use native.Mathlib.Numerals.{add-one}
use native.Mathlib.Omega.{arith}
use lib.ListN.{length, drop, get_or}
use lib.Seq.{drop-cons, drop-length}
use Rattle.output.specs.Digits.{pair}
use Rattle.output.specs.Puts.{Puts}
use Rattle.output.proofs.Puts.{Rest, one_less}
use Rattle.console_replies.specs.Texts.{pairs_text}

module _ {s : List ℕ} {at : ℕ} {out₀ out : List ℕ} {n : ℕ} where
  pub pairs_less : (bytes : List ℕ) (i : ℕ) (o : List ℕ) (m : ℕ) → i < length bytes → length out ≡ length out₀ →
      Rest s at out₀ (pairs_text (drop i bytes)) out n → Puts (pair (get_or bytes i 0)) n out o m → Rest s at out₀ (pairs_text (drop (i + 1) bytes)) o m
  unfolding pairs_text
  pairs_less bytes i o m h l r p = rw (add-one i) (one_less (pair (get_or bytes i 0)) (pairs_text (drop (suc i) bytes)) o m l (rw (drop-cons bytes i 0 h) at r) p)

  pub pairs_all : (bytes : List ℕ) (i : ℕ) → length bytes ≡ i → Rest s at out₀ (pairs_text (drop i bytes)) out n → Puts s at out₀ out n
  unfolding pairs_text
  pairs_all bytes i e r h = let g = rw (← e, drop-length) at (r.told h) in (omega (arith, g.0), g.1)
