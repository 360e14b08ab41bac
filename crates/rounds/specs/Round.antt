-- Document 01, 'The hand-out round': show and answer.
use Rattle.std.specs.Prelude.{◌≡◌, ℕ, ◌<◌, Bool, true, not, eqb, set, Option, Some, None, Result, Ok, Err}
use Rattle.laws.specs.Bits.{bit, number, pick}
use Rattle.machine.specs.declared.WordSlice.{WordSlice}
use Rattle.machine.specs.declared.ResponseBit.{ResponseBit}
use Rattle.machine.specs.declared.Refusal.{Refusal}
use Rattle.machine.specs.declared.Refusal.TheVariants.{NotShown}
use Rattle.machine.specs.Machine.{Machine, machine, response_bits, response}
use Rattle.machine.specs.Resolution.{lowest}
use Rattle.machine.specs.Refusals.{Check, machine_check, bit_check, apart_check, ◌else◌, refuse, answer_by, change_by, tells}
use Rattle.rounds.specs.declared.Verdict.{Verdict}
use Rattle.rounds.specs.declared.Verdict.TheVariants.{Done, Faulty}

-- ---- show

-- a word's response has bit x
abbrev pub has : ResponseBit → ℕ → Bool
has x r = eqb (bit r x.0) 1

-- "Show answers the lowest word with response bit X, or none"
unfoldable pub shown : ResponseBit → Machine → Option WordSlice
shown x m = lowest (has x) 0 m.responses

-- ---- answer

-- a response with bit i made v, and every other bit as it was
unfoldable pub put : ResponseBit → ℕ → ℕ → ℕ
put i v r = number response_bits (λ j. pick (eqb j i.0) v (bit r j))

-- 'Answer "done" for the shown word clears its X. Answer "faulty" clears its X and sets its F.'
abbrev pub answered : ResponseBit → ResponseBit → Verdict → ℕ → ℕ
answered x f Done r = put x 0 r
answered x f Faulty r = put f 1 (put x 0 r)

-- that one word's response, and nothing else
abbrev pub answered_at : ResponseBit → ResponseBit → WordSlice → Verdict → Machine → Machine
answered_at x f k v m = machine m.width m.words (set m.responses k.0 (answered x f v (response m k.0)))

-- ---- "show for 1 to 3 and 8; an answer for those and 11"; "show judges X, an answer X and F"; 02 d: "Round calls give 23 and 24 too."

unfoldable pub show_check : ResponseBit → Machine → Check
show_check x m = machine_check m else bit_check x

-- 23 and 24, of an answer: "response bit above 7", "working bits clash"
unfoldable pub pair_check : ResponseBit → ResponseBit → Check
pair_check x f = bit_check x else bit_check f else apart_check x f

-- 11: "answer for a word other than the one show would give now"; so for every word if show gives none
abbrev pub other_than : WordSlice → Option WordSlice → Bool
other_than k (Some j) = not (eqb k.0 j.0)
other_than k None = true

unfoldable pub answer_check : ResponseBit → ResponseBit → WordSlice → Machine → Check
answer_check x f k m = machine_check m else pair_check x f else refuse NotShown (other_than k (shown x m))

-- what every answer of a round is checked for, whatever its word: all but 11
unfoldable pub round_check : ResponseBit → ResponseBit → Machine → Check
round_check x f m = machine_check m else pair_check x f

-- ---- what the calls answer, and what stands in the machine afterwards

unfoldable pub show_of : ResponseBit → Machine → Result (Option WordSlice) Refusal
show_of x m = answer_by (show_check x m) (shown x m)

unfoldable pub reply_of : ResponseBit → ResponseBit → WordSlice → Machine → Check
reply_of x f k m = answer_check x f k m

-- "Nothing lent changes" if the answer is turned down
unfoldable pub after_answer : ResponseBit → ResponseBit → WordSlice → Verdict → Machine → Machine
after_answer x f k v m = change_by (answer_check x f k m) (answered_at x f k v m) m

-- ---- each reply's number and value; "other answer fields are 0"

abbrev pub told : Check → ℕ × ℕ
told (Ok tt) = (0, 0)
told (Err r) = tells r

-- ---- words of the theorems

-- X and F are two response bits
pub record Fit (x f : ResponseBit) : Type 0 where
  pub mark : x.0 < response_bits
  pub fault : f.0 < response_bits
  pub differ : x.0 ≡ f.0 → ⊥
