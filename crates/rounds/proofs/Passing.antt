-- Checks of a round's calls: from the code's branches to the definition, and what is known where they pass.
use Prim.Native.Nat.{ℕ, ◌<◌}
use mathlib.Core.Path.{◌≡◌, refl, sym, ap, ◌∙◌}
use mathlib.Core.Bool.{Bool, false, not}
use native.Mathlib.Omega.{arith}
use lib.Dec.{leb, eqb}
use borrow.Author.Tests.{leb-false, eq-eqb, eqb-true, eqb-false, not-false}
use Rattle.std.specs.Prelude.{Option, Some, None, Ok}
use Rattle.machine.specs.declared.WordSlice.{WordSlice}
use Rattle.machine.specs.declared.ResponseBit.{ResponseBit}
use Rattle.machine.specs.declared.Refusal.TheVariants.{NotShown}
use Rattle.machine.specs.Machine.{Machine, response_bits}
use Rattle.machine.specs.Refusals.{Check, machine_check, bit_check, apart_check, ◌else◌, refuse}
use Rattle.machine.proofs.Refusals.{else_assoc, else_passed, not_refused}
use Rattle.resolver.proofs.Lowest.{found_exactly}
use Rattle.resolver.specs.Answers.{LowestAt}
use Rattle.rounds.specs.Round.{has, shown, show_check, pair_check, round_check, other_than, answer_check}
use Rattle.rounds.specs.Round.{Fit}

pub both_passed : (c d : Check) → c ≡ Ok tt → d ≡ Ok tt → (c else d) ≡ Ok tt
both_passed c d h g = rw (h, g)

-- ---- the bits are fit

bit_by : (x : ResponseBit) → bit_check x ≡ Ok tt → x.0 < response_bits
bit_by x h = leb-false response_bits x.0 (not_refused _ (leb response_bits x.0) h)

pub bit_fits : (x : ResponseBit) (m : Machine) → show_check x m ≡ Ok tt → x.0 < response_bits
unfolding show_check
bit_fits x m h = bit_by x (else_passed (machine_check m) (bit_check x) h).1

pub pair_fits : (x f : ResponseBit) → pair_check x f ≡ Ok tt → Fit x f
unfolding pair_check
pair_fits x f h =
    let a = else_passed (bit_check x) (bit_check f else apart_check x f) h in
    let b = else_passed (bit_check f) (apart_check x f) a.1 in
    record {
      mark = bit_by x a.0;
      fault = bit_by f b.0;
      differ = eqb-false x.0 f.0 (not_refused _ (eqb x.0 f.0) b.1);
    }

-- a round's checks: the machine's, and the two bits'
pub round_parts : (x f : ResponseBit) (m : Machine) → round_check x f m ≡ Ok tt → (machine_check m ≡ Ok tt) × (pair_check x f ≡ Ok tt)
unfolding round_check
round_parts x f m h = else_passed (machine_check m) (pair_check x f) h

pub round_fits : (x f : ResponseBit) (m : Machine) → round_check x f m ≡ Ok tt → Fit x f
round_fits x f m h = pair_fits x f (round_parts x f m h).1

-- where an answer's bits are fit, so is show's
pub show_passes : (x f : ResponseBit) (m : Machine) → round_check x f m ≡ Ok tt → show_check x m ≡ Ok tt
unfolding show_check pair_check
show_passes x f m h =
    let p = round_parts x f m h in
    both_passed (machine_check m) (bit_check x) p.0 (else_passed (bit_check x) (bit_check f else apart_check x f) p.1).0

-- an answer's checks: a round's, then 11
pub answer_by_lem : (x f : ResponseBit) (k : WordSlice) (m : Machine) → answer_check x f k m ≡ (round_check x f m else refuse NotShown (other_than k (shown x m)))
unfolding answer_check round_check
answer_by_lem x f k m = sym (else_assoc (machine_check m) (pair_check x f) (refuse NotShown (other_than k (shown x m))))

-- ---- the word is the one shown

same_word : (k : WordSlice) (s : Option WordSlice) → other_than k s ≡ false → s ≡ Some k
same_word k (Some j) h =
    let e : j.0 ≡ k.0 = sym (eqb-true k.0 j.0 (not-false (eqb k.0 j.0) h)) in
    ap (λ (n : ℕ). Some (record { 0 = n })) e
same_word k None h = absurd (let z : ◌≡◌ {A = ℕ} 0 1 = cc in omega arith)

-- an accepted answer: the machine and the bits are in order, and the word is the one that show would give now
pub record Accepted (x f : ResponseBit) (k : WordSlice) (m : Machine) : Type 0 where
  pub bits : round_check x f m ≡ Ok tt
  pub fit : Fit x f
  pub word : shown x m ≡ Some k
  pub low : LowestAt (has x) m.responses k.0

pub accepted : (x f : ResponseBit) (k : WordSlice) (m : Machine) → answer_check x f k m ≡ Ok tt → Accepted x f k m
unfolding shown
accepted x f k m h =
    let p = else_passed (round_check x f m) (refuse NotShown (other_than k (shown x m))) (sym (answer_by_lem x f k m) ∙ h) in
    let s = same_word k (shown x m) (not_refused NotShown (other_than k (shown x m)) p.1) in
    record { bits = p.0; fit = round_fits x f m p.0; word = s; low = (found_exactly (has x) m.responses k).0 s }

-- and the other way round: the word that is shown may be answered
pub acceptable : (x f : ResponseBit) (k : WordSlice) (m : Machine) → round_check x f m ≡ Ok tt → shown x m ≡ Some k → answer_check x f k m ≡ Ok tt
acceptable x f k m b s =
    answer_by_lem x f k m
    ∙ both_passed (round_check x f m) (refuse NotShown (other_than k (shown x m))) b
    (rw s (ap (λ (t : Bool). refuse NotShown (not t)) (eq-eqb k.0 k.0 refl)))
