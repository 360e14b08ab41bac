-- The host's loop: what is answered and what is left to answer give the whole round.
use Prim.Native.Nat.{ℕ, ◌+◌, ◌≤◌, ◌<◌}
use mathlib.Core.Path.{◌≡◌, refl, sym, ap, ap₂, ◌∙◌}
use mathlib.Core.Bool.{Bool, true, false, not}
use mathlib.Core.List.{List}
use native.Mathlib.Omega.{arith}
use lib.ListN.{length, get_or, set, length-set}
use mir.Val.{bool_byte}
use Rattle.std.specs.Prelude.{Some, None, Ok, Err, is_ok}
use Rattle.laws.specs.Bits.{pick, digit}
use Rattle.machine.specs.declared.WordSlice.{WordSlice}
use Rattle.machine.specs.declared.ResponseBit.{ResponseBit}
use Rattle.machine.specs.declared.Refusal.{Refusal}
use Rattle.machine.specs.Machine.{Machine, machine}
use Rattle.machine.specs.Refusals.{Check, answer_by, change_by}
use Rattle.resolver.proofs.Lowest.{none_exactly}
use Rattle.resolver.proofs.Sizes.{sized}
use Rattle.rounds.specs.declared.Verdict.{Verdict}
use Rattle.handout.specs.declared.Report.{Report}
use Rattle.rounds.specs.Round.{has, shown, answered, answered_at, show_check, round_check, answer_check, show_of, reply_of, after_answer}
use Rattle.handout.specs.Whole.{says_done, verdict_by, each, tally, worked, is_done, is_faulty, ended, after_ended}
use Rattle.rounds.proofs.Passing.{round_parts, accepted, acceptable, show_passes}
use Rattle.handout.proofs.Lists.{each_all, tally_all, tally_few}
use Rattle.rounds.proofs.Round.{same_checks}
use Rattle.handout.proofs.Answering.{and_false, stored, answer_whole, answer_done, answer_faulty}

-- ---- what show tells: the checks pass, so it is not turned down

not_turned_down : (x : ResponseBit) (m : Machine) → show_check x m ≡ Ok tt → show_of x m ≡ Ok (shown x m)
unfolding show_of
not_turned_down x m p = ap (λ (c : Check). answer_by c (shown x m)) p

-- ---- the state of the loop

abbrev pub counts : ℕ → ℕ → Report
counts d e = record { done = d; faulty = e }

pub record Working (x f : ResponseBit) (vs : List ℕ) (n : ℕ) (ws rs₀ rs : List ℕ) (done faulty : ℕ) : Type 0 where
  pub passed : round_check x f (machine n ws rs) ≡ Ok tt
  pub same : length rs ≡ length rs₀
  pub whole : each (worked x f vs) 0 rs ≡ each (worked x f vs) 0 rs₀
  pub dones : done + tally (is_done x vs) 0 rs ≡ tally (is_done x vs) 0 rs₀
  pub faults : faulty + tally (is_faulty x vs) 0 rs ≡ tally (is_faulty x vs) 0 rs₀

-- how many are left: it falls with each answer
abbrev pub left : ResponseBit → List ℕ → List ℕ → ℕ
left x vs rs = tally (is_done x vs) 0 rs + tally (is_faulty x vs) 0 rs

-- after a turn: the state, with the new responses qs and counts; the answer was taken; fewer are left
pub record Turned (x f : ResponseBit) (vs : List ℕ) (n : ℕ) (ws rs₀ rs qs : List ℕ) (done faulty : ℕ) (taken : Bool) : Type 0 where
  pub next : Working x f vs n ws rs₀ qs done faulty
  pub again : taken ≡ true
  pub falls : left x vs qs < left x vs rs

-- a test as a number
as_digit : (t : Bool) → bool_byte t ≡ digit t
as_digit true = refl
as_digit false = refl

pub one_if : (t : Bool) → bool_byte t ≤ 1
one_if true = omega arith
one_if false = omega arith

one_less : (t : Bool) (a b : ℕ) {c d : ℕ} → a + digit t ≡ c → b + digit (not t) ≡ d → a + b < c + d
one_less true a b h g = omega arith
one_less false a b h g = omega arith

pub start : (x f : ResponseBit) (vs : List ℕ) (n : ℕ) (ws rs : List ℕ) → round_check x f (machine n ws rs) ≡ Ok tt → Working x f vs n ws rs rs 0 0
start x f vs n ws rs h = record { passed = h; same = refl; whole = refl; dones = omega arith; faults = omega arith }

module _ {x f : ResponseBit} {vs : List ℕ} {n : ℕ} {ws rs₀ rs : List ℕ} {done faulty : ℕ} (w : Working x f vs n ws rs₀ rs done faulty) where
  -- the counts fit
  pub few : (done ≤ 1024) × (faulty ≤ 1024)
  few =
      let s = sized (machine n ws rs) (round_parts x f (machine n ws rs) w.passed).0 in
      (omega (arith, s.few, w.dones, w.same, tally_few (is_done x vs) 0 rs₀), omega (arith, s.few, w.faults, w.same, tally_few (is_faulty x vs) 0 rs₀))

  showable : show_of x (machine n ws rs) ≡ Ok (shown x (machine n ws rs))
  showable = not_turned_down x (machine n ws rs) (show_passes x f (machine n ws rs) w.passed)

  -- ---- a word is shown, and answered: qs are the responses afterwards
  module _ {k : WordSlice} (shows : show_of x (machine n ws rs) ≡ Ok (Some k)) where
    word : shown x (machine n ws rs) ≡ Some k
    word = let e = showable in cc

    check : answer_check x f k (machine n ws rs) ≡ Ok tt
    check = acceptable x f k (machine n ws rs) w.passed word

    -- the answer is taken
    taken : reply_of x f k (machine n ws rs) ≡ Ok tt
    unfolding reply_of
    taken = check

    module _ (t : Bool) (says : t ≡ says_done vs k.0) (qs : List ℕ) (answers : qs ≡ (after_answer x f k (verdict_by t) (machine n ws rs)).responses) where
      changed : qs ≡ set rs k.0 (stored x f rs k.0 t)
      unfolding after_answer
      changed = answers ∙ ap (λ (c : Check). (change_by c (answered_at x f k (verdict_by t) (machine n ws rs)) (machine n ws rs)).responses) check

      fewer_done : tally (is_done x vs) 0 qs + digit t ≡ tally (is_done x vs) 0 rs
      fewer_done =
          let a = accepted x f k (machine n ws rs) check in
          rw changed (answer_done x f vs rs k.0 t a.fit a.low says)

      fewer_faulty : tally (is_faulty x vs) 0 qs + digit (not t) ≡ tally (is_faulty x vs) 0 rs
      fewer_faulty =
          let a = accepted x f k (machine n ws rs) check in
          rw changed (answer_faulty x f vs rs k.0 t a.fit a.low says)

      same_length : length qs ≡ length rs
      same_length = ap length changed ∙ length-set rs k.0 (stored x f rs k.0 t)

      step : Working x f vs n ws rs₀ qs (done + digit t) (faulty + digit (not t))
      step =
          let a = accepted x f k (machine n ws rs) check in
          record {
            passed = same_checks x f n ws rs qs same_length ∙ w.passed;
            same = same_length ∙ w.same;
            whole = ap (each (worked x f vs) 0) changed ∙ answer_whole x f vs rs k.0 t a.fit a.low says ∙ w.whole;
            dones = omega (arith, fewer_done, w.dones);
            faults = omega (arith, fewer_faulty, w.faults);
          }

      falls : left x vs qs < left x vs rs
      falls = one_less t (tally (is_done x vs) 0 qs) (tally (is_faulty x vs) 0 qs) fewer_done fewer_faulty

    -- one turn of the loop, in the code's terms: the verdict, the reply, the test of it, and what is counted
    pub turn : {t : Bool} {v : Verdict} {r : Check} {qs : List ℕ} {b : Bool} {d e : ℕ} → t ≡ says_done vs k.0 → v ≡ verdict_by t
        → r ≡ reply_of x f k (machine n ws rs) → qs ≡ (after_answer x f k v (machine n ws rs)).responses → b ≡ is_ok r
        → d ≡ bool_byte t → e ≡ bool_byte (not t) → Turned x f vs n ws rs₀ rs qs (done + d) (faulty + e) b
    turn {t} {qs = qs} says judges replies answers tests one other =
        let by-verdict : qs ≡ (after_answer x f k (verdict_by t) (machine n ws rs)).responses =
        answers ∙ ap (λ (u : Verdict). (after_answer x f k u (machine n ws rs)).responses) judges in
        record {
          next = rw (one ∙ as_digit t, other ∙ as_digit (not t)) (step t says qs by-verdict);
          again = tests ∙ ap is_ok (replies ∙ taken);
          falls = falls t says qs by-verdict;
        }

  -- ---- no word is shown: the round is over
  pub goes_on : {r : Refusal} → show_of x (machine n ws rs) ≡ Err r → ⊥
  goes_on h = let e = showable in cc

  module _ (none : show_of x (machine n ws rs) ≡ Ok None) where
    is_none : shown x (machine n ws rs) ≡ None
    is_none = let e = showable in cc

    off_all : (i : ℕ) → i < length rs → has x (get_or rs i 0) ≡ false
    unfolding shown
    off_all = (none_exactly (has x) rs).0 is_none

    pub over : (counts done faulty ≡ ended x vs (machine n ws rs₀)) × (rs ≡ (after_ended x f vs (machine n ws rs₀)).responses)
    unfolding ended after_ended
    over =
        let d : tally (is_done x vs) 0 rs ≡ 0 = tally_all rs (is_done x vs) (λ i l. and_false (has x (get_or rs i 0)) (says_done vs i) (off_all i l)) in
        let e : tally (is_faulty x vs) 0 rs ≡ 0 = tally_all rs (is_faulty x vs) (λ i l. and_false (has x (get_or rs i 0)) (not (says_done vs i)) (off_all i l)) in (
          ap₂ counts (omega (arith, d, w.dones)) (omega (arith, e, w.faults)),
          sym (each_all rs (worked x f vs)
              (λ i l. ap (λ (b : Bool). pick b (answered x f (verdict_by (says_done vs i)) (get_or rs i 0)) (get_or rs i 0)) (off_all i l))) ∙ w.whole,
        )
