-- Document 01, 'The hand-out round': the words that a round is to show, and accepted answers one after another.
use Rattle.std.specs.Prelude.{ℕ, suc, ◌<◌, ◌≡◌, List, [], ◌∷◌, ◌++◌, get_or, Option, Some, None, Ok}
use Rattle.laws.specs.Bits.{pick}
use Rattle.machine.specs.declared.WordSlice.{WordSlice}
use Rattle.machine.specs.declared.ResponseBit.{ResponseBit}
use Rattle.machine.specs.Machine.{Machine}
pub use Rattle.machine.specs.Machine.{response}
use Rattle.rounds.specs.declared.Verdict.{Verdict}
use Rattle.rounds.specs.Round.{has, answer_check, after_answer}

-- the numbers, counted from k, of the words that have bit x, in rising order
unfoldable pub numbers_with : ResponseBit → ℕ → List ℕ → List ℕ
numbers_with x k [] = []
numbers_with x k (r ∷ rs) = pick (has x r) (k ∷ numbers_with x (suc k) rs) (numbers_with x (suc k) rs)

-- a machine's responders: the words that have X
abbrev pub responders : ResponseBit → Machine → List ℕ
responders x m = numbers_with x 0 m.responses

-- responder i, counted from 0
abbrev pub responder : ResponseBit → Machine → ℕ → ℕ
responder x m i = get_or (responders x m) i 0

-- word j is none of the first n of a list of words
abbrev pub NotAmong : List ℕ → ℕ → ℕ → Type 0
NotAmong ks n j = (i : ℕ) → i < n → get_or ks i 0 ≡ j → ⊥

-- the first of a list of words, or none
abbrev pub first_of : List ℕ → Option WordSlice
first_of [] = None
first_of (k ∷ ks) = Some (record { 0 = k })

-- `Answers x f m vs n`: from the machine m, answers with the verdicts vs, in this order, were accepted, and n is the machine now.
-- Each answer may be for any word: 11 judges it
pub data Answers (x f : ResponseBit) (m : Machine) : List Verdict → Machine → Type 0 where
  none_yet : Answers x f m [] m
  one_more : {vs : List Verdict} {n : Machine} (k : WordSlice) (v : Verdict) → Answers x f m vs n → answer_check x f k n ≡ Ok tt
      → Answers x f m (vs ++ (v ∷ [])) (after_answer x f k v n)
