-- Demand 1: "Every call takes any input. What is wrong gets its refusal number from document 01, always the same one, and nothing lent changes."
-- For 8 document 02, request d, has 20 to 25, which "stand in its place in the order, lowest first".
-- That calls take any input is said by their contracts, which have no `requires`. Here: each call's part of the table; `Given` has that its check is
-- given by it, `Answered` what its answer tells, and that nothing lent changes.
use Prim.Native.Nat.{ℕ, ◌+◌}
use mathlib.Core.Bool.{Bool, true, false, not, ◌||◌}
use lib.Dec.{ltb, leb, eqb}
use mathlib.Core.List.{List, [], ◌∷◌}
use lib.ListN.{length}
use Rattle.std.specs.Prelude.{Option, Some, None, Ok, Err}
use Rattle.laws.specs.Bits.{pick}
use Rattle.laws.specs.Lists.{all}
use Rattle.machine.specs.declared.Panel.{Panel}
use Rattle.machine.specs.declared.Lines.{Lines}
use Rattle.machine.specs.declared.WordSlice.{WordSlice}
use Rattle.machine.specs.declared.ResponseBit.{ResponseBit}
use Rattle.machine.specs.declared.Syllable.{Syllable}
use Rattle.machine.specs.declared.Syllable.TheVariants.{A, B, P}
use Rattle.machine.specs.Machine.{Machine, response_bits, syllables}
use Rattle.machine.specs.Search.{unmixed}
use Rattle.machine.specs.Resolution.{lowest}
use Rattle.machine.specs.Refusals.{Check, bad_size, bad_width, too_wide, bad_panel, bad_codes, bad_lines, bad_address, in_care, value_of, tells}
use Rattle.job_plans.specs.declared.Span.{Span}
use Rattle.job_plans.specs.declared.Job.{Job}
use Rattle.job_plans.specs.Fields.{Held, Kind, greatest, smallest, scaledAdd, product, unknown, kind_of, overlaps, unused_zero}
use Rattle.job_plans.specs.Places.{in_table}
use Rattle.jobs.specs.Calls.{is_held}
use Rattle.job_tally.specs.Totals.{is_first}
use Rattle.jobs.specs.Runs.{State}
use Rattle.image_layout.specs.Format.{image_of, held_jobs}
use Rattle.image_layout.specs.Reading.{Scanned, words_in, scanned}
use Rattle.rounds.specs.Round.{other_than, shown}

-- ---- a call's part of the table: the numbers it is checked for, in order, each with its condition and what it "also answers"

pub record Entry : Type 0 where
  pub number : ℕ
  pub also : ℕ
  pub holds : Bool

abbrev pub entry : ℕ → Bool → Entry
entry k b = record { number = k; also = 0; holds = b }

-- "Checked in number order": the number of the first condition that holds and what it also answers, or 0 and 0
unfoldable pub first : List Entry → ℕ × ℕ
first [] = (0, 0)
first (e ∷ es) = pick e.holds (e.number, e.also) (first es)

-- 3: "lowest such word"
abbrev pub word_of : Option WordSlice → ℕ
word_of (Some k) = k.0
word_of None = 0

abbrev pub is_found : Option WordSlice → Bool
is_found (Some k) = true
is_found None = false

abbrev pub stray : Option WordSlice → Entry
stray f = record { number = 3; also = word_of f; holds = is_found f }

-- 1 to 3, with which every call's table begins but that of reading, and then the rest
abbrev pub machine_table : Machine → List Entry → List Entry
machine_table m rest =
    entry 1 (bad_size (length m.words) (length m.responses))
    ∷ entry 2 (bad_width m.width)
    ∷ stray (lowest (too_wide m.width) 0 m.words)
    ∷ rest

abbrev pub pulse_table : Machine → Panel → Lines → List Entry
pulse_table m p l =
    machine_table m (entry 4 (bad_panel m.width p)
    ∷ entry 5 (bad_codes m.width p l)
    ∷ entry 6 (bad_lines l)
    ∷ entry 7 (bad_address (length m.words) p l)
    ∷ [])

-- 02 e: "as for a search, with 7 for the word number"
abbrev pub explain_table : Machine → Panel → WordSlice → List Entry
explain_table m p k =
    machine_table m (entry 4 (bad_panel m.width p)
    ∷ entry 5 (not (all (unmixed p) (syllables m.width p.sdr)))
    ∷ entry 7 (leb (length m.words) k.0)
    ∷ [])

-- ---- 20 to 25, condition by condition, and then the rest of a call's table

-- "For 20 to 22 also name the syllable"
abbrev pub naming : ℕ → Syllable → Bool → Entry
naming k name b = record { number = k; also = value_of name; holds = b }

-- "20 syllable empty"
abbrev pub empty : Syllable → Span → Entry
empty name s = naming 20 name (eqb s.width 0)

-- "21 syllable beyond the word"
abbrev pub beyond : ℕ → Syllable → Span → Entry
beyond n name s = naming 21 name (ltb n (s.low.0 + s.width))

-- "22 result overlaps a source", "for 22 the source"
abbrev pub shared : Span → Syllable → Span → Entry
shared p name s = naming 22 name (overlaps p s)

-- "23 response bit above 7"
abbrev pub above_last : ResponseBit → Entry
above_last x = entry 23 (leb response_bits x.0)

-- "24 working bits clash"
abbrev pub alike : ResponseBit → ResponseBit → Entry
alike x y = entry 24 (eqb x.0 y.0)

-- "or stand in care"
abbrev pub among_care : ℕ → ResponseBit → Entry
among_care care x = entry 24 (in_care care x)

-- "25 unknown kind or place, unused field not 0, start while one is held, step while none is"
abbrev pub wrong_job : Bool → Entry
wrong_job b = entry 25 b

abbrev pub pair_table : ResponseBit → ResponseBit → List Entry → List Entry
pair_table x f rest = above_last x ∷ above_last f ∷ alike x f ∷ rest

-- "Of a job 8 judges used fields"; "an unknown kind gets only 25"
abbrev pub used_table : Kind → ℕ → Job → List Entry → List Entry
used_table greatest n o rest =
    empty A o.a ∷ beyond n A o.a ∷ above_last o.x ∷ above_last o.y ∷ alike o.x o.y ∷ among_care o.care o.x ∷ among_care o.care o.y ∷ rest
used_table smallest n o rest =
    empty A o.a ∷ beyond n A o.a ∷ above_last o.x ∷ above_last o.y ∷ alike o.x o.y ∷ among_care o.care o.x ∷ among_care o.care o.y ∷ rest
used_table scaledAdd n o rest =
    empty A o.a ∷ empty P o.p ∷ beyond n A o.a ∷ beyond n P o.p ∷ shared o.p A o.a ∷ above_last o.y ∷ among_care o.care o.y ∷ rest
used_table product n o rest =
    empty A o.a ∷ empty B o.b ∷ empty P o.p ∷ beyond n A o.a ∷ beyond n B o.b ∷ beyond n P o.p ∷ shared o.p A o.a ∷ shared o.p B o.b
    ∷ above_last o.y ∷ among_care o.care o.y ∷ rest
used_table unknown n o rest = wrong_job true ∷ rest

-- "its place only after the start, and then too that others are 0"
abbrev pub held_table : ℕ → Job → List Entry → List Entry
held_table n o rest = used_table (kind_of o.kind) n o (wrong_job (not (unused_zero o)) ∷ wrong_job (not (in_table o)) ∷ rest)

-- "step while none is"
abbrev pub step_table : ℕ → Held → List Entry → List Entry
step_table n None rest = wrong_job true ∷ rest
step_table n (Some o) rest = held_table n o rest

-- every held job, of an image
abbrev pub jobs_table : ℕ → List Job → List Entry → List Entry
jobs_table n [] rest = rest
jobs_table n (o ∷ os) rest = held_table n o (jobs_table n os rest)

-- ---- the calls' tables

abbrev pub show_table : ResponseBit → Machine → List Entry
show_table x m = machine_table m (above_last x ∷ [])

abbrev pub round_table : ResponseBit → ResponseBit → Machine → List Entry
round_table x f m = machine_table m (pair_table x f [])

abbrev pub answer_table : ResponseBit → ResponseBit → WordSlice → Machine → List Entry
answer_table x f k m = machine_table m (pair_table x f (entry 11 (other_than k (shown x m)) ∷ []))

-- "a start judges the job offered"; "start while one is held"
abbrev pub start_table : Machine → Held → Job → List Entry
start_table m h o = machine_table m (used_table (kind_of o.kind) m.width o (wrong_job (is_held h) ∷ []))

abbrev pub steps_table : Machine → Held → List Entry
steps_table m h = machine_table m (step_table m.width h [])

-- (house): of a job that is not at its first place
abbrev pub total_table : Machine → Held → List Entry
total_table m h = machine_table m (step_table m.width h (wrong_job (not (is_first h)) ∷ []))

abbrev pub write_table : State → ℕ → List Entry
write_table s room =
    machine_table s.machine (jobs_table s.machine.width (held_jobs s.held) (entry 10 (ltb room (length (image_of s))) ∷ []))

-- 9: its "place"
abbrev pub malformed : Scanned → Entry
malformed (Ok tt) = record { number = 9; also = 0; holds = false }
malformed (Err at) = record { number = 9; also = at; holds = true }

abbrev pub read_table : List ℕ → ℕ → ℕ → List Entry
read_table bs words responses =
    malformed (scanned bs) ∷ entry 10 (ltb words (words_in bs) || ltb responses (words_in bs)) ∷ []

-- the number that a check gives and what it also answers, 0 if it is passed
abbrev pub given : Check → ℕ × ℕ
given (Ok tt) = (0, 0)
given (Err r) = tells r
