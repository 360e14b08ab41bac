-- Show, answer and a whole round for callers in other languages: what is refused, told and left (house, but for the calls' own definitions;
-- docs/DECISIONS.md, 'The library for C').
use Rattle.std.specs.Prelude.{ℕ, List, [], ◌∷◌, eqb}
use Rattle.machine.specs.declared.ResponseBit.{ResponseBit}
use Rattle.machine.specs.declared.WordSlice.{WordSlice}
use Rattle.machine.specs.Machine.{Machine}
use Rattle.machine.specs.Refusals.{Check, answer_by, change_by}
use Rattle.resolver.specs.Answers as resolving
use Rattle.rounds.specs.Round.{shown, show_check, answer_check, answered_at, round_check, told}
use Rattle.handout.specs.Whole as whole
use Rattle.entry_forms.specs.Numbers.{lower, room_check, resolved_size}

-- the number of a response bit, and of a word
abbrev pub bit_of : ℕ → ResponseBit
bit_of x = record { 0 = x }

abbrev pub word_of : ℕ → WordSlice
word_of k = record { 0 = k }

-- ---- show

unfoldable pub show_told : ℕ → Machine → ℕ → resolving.Told
show_told x m room =
    resolving.told
    (answer_by (lower (room_check resolved_size room) (show_check (bit_of x) m)) (shown (bit_of x) m))

-- ---- answer: 1 says done, any other number faulty

abbrev pub reply_size : ℕ
reply_size = 2

abbrev pub reply_numbers : ℕ × ℕ → List ℕ
reply_numbers t = t.0 ∷ t.1 ∷ []

unfoldable pub answer_entry : ℕ → ℕ → ℕ → Machine → ℕ → Check
answer_entry x f k m room = lower (room_check reply_size room) (answer_check (bit_of x) (bit_of f) (word_of k) m)

unfoldable pub answer_told : ℕ → ℕ → ℕ → Machine → ℕ → ℕ × ℕ
answer_told x f k m room = told (answer_entry x f k m room)

unfoldable pub answer_left : ℕ → ℕ → ℕ → ℕ → Machine → ℕ → Machine
answer_left x f k verdict m room =
    change_by (answer_entry x f k m room) (answered_at (bit_of x) (bit_of f) (word_of k) (whole.verdict_by (eqb verdict 1)) m) m

-- ---- a whole round

abbrev pub report_size : ℕ
report_size = 4

abbrev pub report_numbers : whole.Told → List ℕ
report_numbers t = t.refusal ∷ t.also ∷ t.done ∷ t.faulty ∷ []

unfoldable pub round_entry : ℕ → ℕ → Machine → ℕ → Check
round_entry x f m room = lower (room_check report_size room) (round_check (bit_of x) (bit_of f) m)

unfoldable pub round_told : ℕ → ℕ → List ℕ → Machine → ℕ → whole.Told
round_told x f verdicts m room = whole.told (answer_by (round_entry x f m room) (whole.ended (bit_of x) verdicts m))

unfoldable pub round_left : ℕ → ℕ → List ℕ → Machine → ℕ → Machine
round_left x f verdicts m room = change_by (round_entry x f m room) (whole.after_ended (bit_of x) (bit_of f) verdicts m) m
