-- Document 01, 'The hand-out round': a whole round, worked by the host from a list of verdicts.
use Rattle.std.specs.Prelude.{ℕ, suc, ◌+◌, Bool, not, ◌&&◌, List, [], ◌∷◌, eqb, get_or, Result, Ok, Err}
use Rattle.laws.specs.Bits.{pick, digit}
use Rattle.machine.specs.declared.ResponseBit.{ResponseBit}
use Rattle.machine.specs.declared.Refusal.{Refusal}
use Rattle.machine.specs.Machine.{Machine, machine}
use Rattle.machine.specs.Refusals.{answer_by, change_by, number_of, also_answers}
use Rattle.rounds.specs.declared.Verdict.{Verdict}
use Rattle.rounds.specs.declared.Verdict.TheVariants.{Done, Faulty}
use Rattle.handout.specs.declared.Report.{Report}
use Rattle.rounds.specs.Round.{has, answered, round_check}

-- ---- the verdicts, by word number

-- 1 says done. Any other number says faulty, and so does a list that is too short: no word is called done that the caller didn't call so
abbrev pub says_done : List ℕ → ℕ → Bool
says_done vs k = eqb (get_or vs k 0) 1

abbrev pub verdict_by : Bool → Verdict
verdict_by done = pick done Done Faulty

abbrev pub verdict_of : List ℕ → ℕ → Verdict
verdict_of vs k = verdict_by (says_done vs k)

-- ---- every word that has X is answered, and no other

-- f of each number (from k) and the response there
unfoldable pub each : (ℕ → ℕ → ℕ) → ℕ → List ℕ → List ℕ
each f k [] = []
each f k (r ∷ rs) = f k r ∷ each f (suc k) rs

-- how many, numbered from k, pass the test
unfoldable pub tally : (ℕ → ℕ → Bool) → ℕ → List ℕ → ℕ
tally test k [] = 0
tally test k (r ∷ rs) = digit (test k r) + tally test (suc k) rs

abbrev pub worked : ResponseBit → ResponseBit → List ℕ → ℕ → ℕ → ℕ
worked x f vs k r = pick (has x r) (answered x f (verdict_of vs k) r) r

abbrev pub is_done : ResponseBit → List ℕ → ℕ → ℕ → Bool
is_done x vs k r = has x r && says_done vs k

abbrev pub is_faulty : ResponseBit → List ℕ → ℕ → ℕ → Bool
is_faulty x vs k r = has x r && not (says_done vs k)

unfoldable pub ended : ResponseBit → List ℕ → Machine → Report
ended x vs m = record { done = tally (is_done x vs) 0 m.responses; faulty = tally (is_faulty x vs) 0 m.responses }

unfoldable pub after_ended : ResponseBit → ResponseBit → List ℕ → Machine → Machine
after_ended x f vs m = machine m.width m.words (each (worked x f vs) 0 m.responses)

-- ---- checked as an answer is, but for 11: only the word that is shown is ever answered

unfoldable pub report_of : ResponseBit → ResponseBit → List ℕ → Machine → Result Report Refusal
report_of x f vs m = answer_by (round_check x f m) (ended x vs m)

unfoldable pub after_round : ResponseBit → ResponseBit → List ℕ → Machine → Machine
after_round x f vs m = change_by (round_check x f m) (after_ended x f vs m) m

-- ---- each report's number and values; "other answer fields are 0"

pub record Told : Type 0 where
  pub refusal : ℕ
  pub also : ℕ
  pub done : ℕ
  pub faulty : ℕ

abbrev pub told : Result Report Refusal → Told
told (Ok a) = record { refusal = 0; also = 0; done = a.done; faulty = a.faulty }
told (Err r) = record { refusal = number_of r; also = also_answers r; done = 0; faulty = 0 }
