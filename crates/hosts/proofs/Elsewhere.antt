-- Answers over other bits, one alone or a whole round's: what they keep, and that they leave a round over two bits apart from theirs as it is.
use Prim.Native.Nat.{ℕ, zero, suc, ◌^◌, ◌<◌}
use mathlib.Core.Path.{◌≡◌, refl, ap, ◌∙◌}
use mathlib.Core.List.{List, [], ◌∷◌, map}
use native.Mathlib.Omega.{arith}
use lib.ListN.{length, set}
use Rattle.std.specs.Prelude.{Ok, Err}
use Rattle.machine.specs.declared.WordSlice.{WordSlice}
use Rattle.machine.specs.declared.ResponseBit.{ResponseBit}
use Rattle.machine.specs.Machine.{Machine}
use Rattle.machine.specs.Refusals.{change_by, machine_check, answer_by, Check}
use Rattle.rounds.specs.declared.Verdict.{Verdict}
use Rattle.rounds.specs.declared.Verdict.TheVariants.{Done, Faulty}
use Rattle.rounds.specs.Round as round
use Rattle.rounds.specs.Round.{Fit, put, round_check, answered_at, answer_check, reply_of, after_answer}
use Rattle.rounds.specs.Handout.{response, responders, Answers, none_yet, one_more}
use Rattle.rounds.proofs.Marks.{put_lt}
use Rattle.rounds.proofs.Kept.{run}
use Rattle.handout.specs.declared.Report.{Report}
use Rattle.handout.specs.Whole.{verdict_of, ended, after_ended, report_of, after_round}
use Rattle.handout.proofs.Whole.{whole_round}
use Rattle.image_layout.specs.Sizes.{response_size}
use Rattle.image_layout.specs.Format.{AreResponses}
use Rattle.hosts.specs.Rounds.{Leaves, Beside}

-- ---- checks taken apart

ended_passed : (c : Check) (a b : Report) → answer_by c a ≡ Ok b → c ≡ Ok tt
ended_passed (Ok tt) a b h = refl
ended_passed (Err r) a b h = cc

-- ---- one response put

pub set_responses : (rs : List ℕ) (k v : ℕ) → AreResponses rs → v < 256 ^ response_size → AreResponses (set rs k v)
set_responses [] k v h g = tt
set_responses (r ∷ rs) zero v h g = (g, h.1)
set_responses (r ∷ rs) (suc k) v h g = (h.0, set_responses rs k v h.1 g)

pub answered_fits : (x f : ResponseBit) (v : Verdict) (r : ℕ) → round.answered x f v r < 256 ^ response_size
answered_fits x f Done r = put_lt x 0 r (omega arith)
answered_fits x f Faulty r = put_lt f 1 (put x 0 r) (omega arith)

pub answered_machine : (x f : ResponseBit) (m : Machine) (k : WordSlice) (v : Verdict) → answer_check x f k m ≡ Ok tt
    → after_answer x f k v m ≡ answered_at x f k v m
unfolding after_answer
answered_machine x f m k v p = ap (λ (c : Check). change_by c (answered_at x f k v m) m) p

-- ---- accepted answers, however many

like_machine : (m n : Machine) → n.width ≡ m.width → n.words ≡ m.words → length n.responses ≡ length m.responses → machine_check n ≡ machine_check m
unfolding machine_check
like_machine m n e d g = rw (e, d, g)

pub answers_responses : {y g : ResponseBit} {m n : Machine} {us : List Verdict} → Answers y g m us n → AreResponses m.responses → AreResponses n.responses
answers_responses none_yet h = h
answers_responses {y} {g} {m} (one_more {n = n} k v t p) h =
    rw (answered_machine y g n k v p) (set_responses n.responses k.0 _ (answers_responses t h) (answered_fits y g v (response n k.0)))

module _ {y g : ResponseBit} {m n : Machine} {us : List Verdict} (t : Answers y g m us n) where
  pub answers_width : n.width ≡ m.width
  answers_width = (run t).width

  pub answers_pass : machine_check m ≡ Ok tt → machine_check n ≡ Ok tt
  answers_pass h = like_machine m n (run t).width (run t).words (run t).as_many ∙ h

  pub answers_spare : (x f : ResponseBit) → Fit x f → Beside y g x → Beside y g f → Leaves x f m n
  answers_spare x f fit a b = record {
    count = (run t).as_many;
    mark = λ k l. (run t).kept k x.0 fit.mark a.0 a.1;
    fault = λ k l. (run t).kept k f.0 fit.fault b.0 b.1;
  }

-- ---- the two calls

pub one_answer : (y g : ResponseBit) (k : WordSlice) (v : Verdict) (m : Machine) → reply_of y g k m ≡ Ok tt → Answers y g m (v ∷ []) (after_answer y g k v m)
unfolding reply_of
one_answer y g k v m h = one_more k v none_yet h

pub whole_answers : (y g : ResponseBit) (vs : List ℕ) (m : Machine) {d e : ℕ} → report_of y g vs m ≡ Ok (record { done = d; faulty = e })
    → Answers y g m (map (verdict_of vs) (responders y m)) (after_round y g vs m)
unfolding report_of after_round ended
whole_answers y g vs m h =
    let p = ended_passed (round_check y g m) _ _ h in
    let e : change_by (round_check y g m) (after_ended y g vs m) m ≡ after_ended y g vs m = ap (λ (c : Check). change_by c (after_ended y g vs m) m) p in
    rw e (whole_round y g vs m p)

-- an accepted answer, and a whole round, over two bits apart from X and F
module _ (x f : ResponseBit) (fit : Fit x f) (y g : ResponseBit) (a : Beside y g x) (b : Beside y g f) (m : Machine) where
  pub answer_spares : (k : WordSlice) (v : Verdict) → reply_of y g k m ≡ Ok tt → Leaves x f m (after_answer y g k v m)
  answer_spares k v h = answers_spare (one_answer y g k v m h) x f fit a b

  pub round_spares : (vs : List ℕ) {done faulty : ℕ} → report_of y g vs m ≡ Ok (record { done = done; faulty = faulty }) → Leaves x f m (after_round y g vs m)
  round_spares vs h = answers_spare (whole_answers y g vs m h) x f fit a b
