-- What one answer does to the round's end (nothing) and to its counts.
use Prim.Native.Nat.{ℕ, ◌+◌}
use mathlib.Core.Path.{◌≡◌, refl, sym, ap, ◌∙◌}
use mathlib.Core.Bool.{Bool, true, false, not, ◌&&◌}
use mathlib.Core.List.{List}
use native.Mathlib.Omega.{arith}
use lib.ListN.{get_or, set}
use Rattle.laws.specs.Bits.{pick, digit}
use Rattle.machine.specs.declared.ResponseBit.{ResponseBit}
use Rattle.resolver.specs.Answers.{LowestAt}
use Rattle.rounds.specs.Round.{has, answered}
use Rattle.rounds.specs.Round.{Fit}
use Rattle.rounds.proofs.Round.{lost}
use Rattle.handout.specs.Whole.{says_done, verdict_by, each, tally, worked, is_done, is_faulty}
use Rattle.handout.proofs.Lists.{each_at, tally_at}

pub and_false : (a b : Bool) → a ≡ false → (a && b) ≡ false
and_false true b h = absurd (let z : ◌≡◌ {A = ℕ} 0 1 = cc in omega arith)
and_false false b h = refl

and_true : (a b : Bool) → a ≡ true → (a && b) ≡ b
and_true true b h = refl
and_true false b h = absurd (let z : ◌≡◌ {A = ℕ} 0 1 = cc in omega arith)

-- word i's response after an answer
abbrev pub stored : ResponseBit → ResponseBit → List ℕ → ℕ → Bool → ℕ
stored x f rs i t = answered x f (verdict_by t) (get_or rs i 0)

module _ (x f : ResponseBit) (vs rs : List ℕ) (i : ℕ) (t : Bool) (h : Fit x f) (l : LowestAt (has x) rs i) (says : t ≡ says_done vs i) where
  off : has x (stored x f rs i t) ≡ false
  off = lost x f (verdict_by t) (get_or rs i 0) h

  -- the end of the round stays what it is
  pub answer_whole : each (worked x f vs) 0 (set rs i (stored x f rs i t)) ≡ each (worked x f vs) 0 rs
  answer_whole =
      each_at i (stored x f rs i t) rs (worked x f vs)
      (ap (λ (b : Bool). pick b (answered x f (verdict_by (says_done vs i)) (stored x f rs i t)) (stored x f rs i t)) off
      ∙ ap (λ (b : Bool). stored x f rs i b) says
      ∙ sym (ap (λ (b : Bool). pick b (stored x f rs i (says_done vs i)) (get_or rs i 0)) l.passes))

  pub answer_done : tally (is_done x vs) 0 (set rs i (stored x f rs i t)) + digit t ≡ tally (is_done x vs) 0 rs
  answer_done =
      tally_at i (stored x f rs i t) rs (is_done x vs) t l.within (and_false (has x (stored x f rs i t)) (says_done vs i) off)
      (and_true (has x (get_or rs i 0)) (says_done vs i) l.passes ∙ sym says)

  pub answer_faulty : tally (is_faulty x vs) 0 (set rs i (stored x f rs i t)) + digit (not t) ≡ tally (is_faulty x vs) 0 rs
  answer_faulty =
      tally_at i (stored x f rs i t) rs (is_faulty x vs) (not t) l.within (and_false (has x (stored x f rs i t)) (not (says_done vs i)) off)
      (and_true (has x (get_or rs i 0)) (not (says_done vs i)) l.passes ∙ ap not (sym says))
