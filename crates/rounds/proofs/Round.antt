-- What an answer does: to the bits of its word's response, and to the checks (nothing).
use Prim.Native.Nat.{ℕ, ◌<◌}
use mathlib.Core.Path.{◌≡◌, sym, ap, ◌∙◌}
use mathlib.Core.Bool.{false}
use mathlib.Core.List.{List}
use native.Mathlib.Omega.{arith}
use lib.Dec.{eqb}
use lib.ListN.{length}
use Rattle.laws.specs.Bits.{bit}
use Rattle.machine.specs.declared.ResponseBit.{ResponseBit}
use Rattle.machine.specs.declared.Refusal.TheVariants.{Size, Width}
use Rattle.machine.specs.Machine.{machine, response_bits}
use Rattle.machine.specs.Resolution.{lowest}
use Rattle.machine.specs.Refusals.{bad_size, bad_width, too_wide, machine_check, ◌else◌, refuse, refuse_word}
use Rattle.rounds.specs.declared.Verdict.{Verdict}
use Rattle.rounds.specs.declared.Verdict.TheVariants.{Done, Faulty}
use Rattle.rounds.specs.Round.{has, put, answered, pair_check, round_check}
use Rattle.rounds.proofs.Marks.{put_here, put_else}
use Rattle.rounds.specs.Round.{Fit}

-- X is 0 afterwards
pub answered_mark : (x f : ResponseBit) (v : Verdict) (r : ℕ) → Fit x f → bit (answered x f v r) x.0 ≡ 0
answered_mark x f Done r h = put_here x 0 r (omega arith) h.mark
answered_mark x f Faulty r h = put_else f 1 (put x 0 r) x.0 (omega arith) h.mark h.differ ∙ put_here x 0 r (omega arith) h.mark

pub lost : (x f : ResponseBit) (v : Verdict) (r : ℕ) → Fit x f → has x (answered x f v r) ≡ false
lost x f v r h = ap (λ (b : ℕ). eqb b 1) (answered_mark x f v r h)

-- F is 1 if faulty, and as before if done
pub answered_faulty : (x f : ResponseBit) (r : ℕ) → Fit x f → bit (answered x f Faulty r) f.0 ≡ 1
answered_faulty x f r h = put_here f 1 (put x 0 r) (omega arith) h.fault

pub answered_done : (x f : ResponseBit) (r : ℕ) → Fit x f → bit (answered x f Done r) f.0 ≡ bit r f.0
answered_done x f r h = put_else x 0 r f.0 (omega arith) h.fault (λ e. h.differ (sym e))

-- the other bits are as before
pub answered_else : (x f : ResponseBit) (v : Verdict) (r b : ℕ) → b < response_bits → (b ≡ x.0 → ⊥) → (b ≡ f.0 → ⊥) → bit (answered x f v r) b ≡ bit r b
answered_else x f Done r b h p q = put_else x 0 r b (omega arith) h p
answered_else x f Faulty r b h p q = put_else f 1 (put x 0 r) b (omega arith) h q ∙ put_else x 0 r b (omega arith) h p

-- the checks look at how many responses there are, and at no response
pub same_checks : (x f : ResponseBit) (n : ℕ) (ws rs qs : List ℕ) → length qs ≡ length rs → round_check x f (machine n ws qs) ≡ round_check x f (machine n ws rs)
unfolding round_check machine_check
same_checks x f n ws rs qs e =
    ap (λ (k : ℕ). (refuse Size (bad_size (length ws) k) else refuse Width (bad_width n) else refuse_word (lowest (too_wide n) 0 ws)) else pair_check x f) e
