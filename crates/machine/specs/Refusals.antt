-- Document 01, 'Numbers given when a call is turned down', with 4 and 5 as document 02, request c, has them and 20 to 25 of its request d: the
-- conditions of 1 to 7 and of response bits, the numbers and their order, and what a pulse answers and leaves.
use Rattle.std.specs.Prelude.{ℕ, ◌+◌, ◌^◌, Bool, true, false, not, ◌&&◌, ◌||◌, List, [], ◌∷◌, ltb, leb, eqb, length, Result, Ok, Err, Option, Some, None}
use Rattle.laws.specs.Bits.{bit, digit, pick}
use Rattle.laws.specs.Lists.{all}
use Rattle.machine.specs.declared.Panel.{Panel}
use Rattle.machine.specs.declared.Lines.{Lines}
use Rattle.machine.specs.declared.ResponseBit.{ResponseBit}
use Rattle.machine.specs.declared.WordSlice.{WordSlice}
use Rattle.machine.specs.declared.Syllable.{Syllable}
use Rattle.machine.specs.declared.Syllable.TheVariants.{A, B, P}
use Rattle.machine.specs.declared.Refusal.{Refusal}
use Rattle.machine.specs.declared.Refusal.TheVariants.{Size, Width, WordTooWide, PanelTooWide, TwoCodes, WrongLines, NoSuchWord, EmptySyllable, BeyondWord, Overlap, NoSuchBit, BitsClash, WrongJob, Malformed, NoRoom, NotShown}
use Rattle.machine.specs.declared.Answer.{Answer}
use Rattle.machine.specs.Machine.{Machine, response_bits, syllables}
use Rattle.machine.specs.Search.{unmixed}
use Rattle.machine.specs.Pulse.{count_of, read_of, pulsed}
use Rattle.machine.specs.Resolution.{lowest}

-- ---- the table's conditions

-- 1: "n is 0 or above 1,024, or the response buffer isn't n long"
unfoldable pub bad_size : ℕ → ℕ → Bool
bad_size n responses = eqb n 0 || (ltb 1024 n || not (eqb responses n))

-- 2: "N not 1 to 64"
unfoldable pub bad_width : ℕ → Bool
bad_width n = eqb n 0 || ltb 64 n

-- 3: "a word has a one at or above bit N"
abbrev pub too_wide : ℕ → ℕ → Bool
too_wide n x = leb (2 ^ n) x

-- 4: "a panel register has such a one"; 02 c: "4 covers SC3"
unfoldable pub bad_panel : ℕ → Panel → Bool
bad_panel n p =
    too_wide n p.comp || too_wide n p.sdr || too_wide n p.sc1 || too_wide n p.sc2 || too_wide n p.mor || too_wide n p.sc3

-- 5: "search raised, a syllable with two codes"; 02 c: "5 also covers two SC3 settings among one syllable's cared bits, or a one of SC3 over an exact
-- or don't-care bit"
unfoldable pub bad_codes : ℕ → Panel → Lines → Bool
bad_codes n p l = l.search && not (all (unmixed p) (syllables n p.sdr))

-- 6: "no line, three or more, or complement with another"
abbrev pub raised : Lines → ℕ
raised l =
    digit l.search + digit l.read + digit l.write + digit l.add + digit l.multiwrite + digit l.multiadd + digit l.complement

unfoldable pub bad_lines : Lines → Bool
bad_lines l = eqb (raised l) 0 || ltb 2 (raised l) || l.complement && not (eqb (raised l) 1)

-- 7: "read, write or add raised, address n or more"
unfoldable pub bad_address : ℕ → Panel → Lines → Bool
bad_address n p l = (l.read || l.write || l.add) && leb n p.address.0

-- ---- "Checked in number order; given exactly then."

-- what checking a call finds: nothing wrong, or the refusal
abbrev pub Check : Type 0
Check = Result (Unit {0}) Refusal

infixr 20 ◌else◌
-- the first check, and where it passes the second
abbrev pub ◌else◌ : {R : Type 0} → Result (Unit {0}) R → Result (Unit {0}) R → Result (Unit {0}) R
(Ok tt) else c = c
Err r else c = Err r

abbrev pub refuse : {R : Type 0} → R → Bool → Result (Unit {0}) R
refuse r true = Err r
refuse r false = Ok tt

-- 3 also answers the "lowest such word"
abbrev pub refuse_word : Option WordSlice → Check
refuse_word (Some k) = Err (WordTooWide k)
refuse_word None = (Ok tt)

-- a check passes
abbrev pub passes : Check → Bool
passes (Ok tt) = true
passes (Err r) = false

-- "resolution for 1 to 3", and every other call first
unfoldable pub machine_check : Machine → Check
machine_check m = refuse Size (bad_size (length m.words) (length m.responses))
    else refuse Width (bad_width m.width)
    else refuse_word (lowest (too_wide m.width) 0 m.words)

-- 6 and 7
abbrev pub command_check : ℕ → Panel → Lines → Check
command_check n p l = refuse WrongLines (bad_lines l) else refuse NoSuchWord (bad_address n p l)

-- "A pulse is checked for 1 to 7"
unfoldable pub pulse_check : Machine → Panel → Lines → Check
pulse_check m p l = machine_check m
    else refuse PanelTooWide (bad_panel m.width p)
    else refuse TwoCodes (bad_codes m.width p l)
    else command_check (length m.words) p l

-- ---- 02 d, of response bits: what jobs and rounds share. "Round calls give 23 and 24 too."

-- 23: "response bit above 7"
abbrev pub bit_check : ResponseBit → Check
bit_check x = refuse NoSuchBit (leb response_bits x.0)

-- 24: "working bits clash": 01's "X equal to Y or F"
abbrev pub apart_check : ResponseBit → ResponseBit → Check
apart_check x y = refuse BitsClash (eqb x.0 y.0)

-- 24: "or stand in care"
abbrev pub in_care : ℕ → ResponseBit → Bool
in_care care x = eqb (bit care x.0) 1

abbrev pub care_check : ℕ → ResponseBit → Check
care_check care x = refuse BitsClash (in_care care x)

-- ---- what a pulse answers, and what stands in the machine afterwards

-- a refusal, or where the check passes the call's own answer
abbrev pub answer_by : {A R : Type 0} → Result (Unit {0}) R → A → Result A R
answer_by (Ok tt) done = Ok done
answer_by (Err r) done = Err r

unfoldable pub answer_of : Machine → Panel → Lines → Result Answer Refusal
answer_of m p l = answer_by (pulse_check m p l) (record { count = count_of m p l; read = read_of m p l })

-- "Nothing lent changes"
abbrev pub change_by : {A R : Type 0} → Result (Unit {0}) R → A → A → A
change_by (Ok tt) new old = new
change_by (Err r) new old = old

unfoldable pub after : Machine → Panel → Lines → Machine
after m p l = change_by (pulse_check m p l) (pulsed m p l) m

-- ---- each answer's number and values; "other answer fields are 0"

-- 02 d: "For 20 to 22 also name the syllable": the value that names it (house)
abbrev pub value_of : Syllable → ℕ
value_of A = 1
value_of B = 2
value_of P = 3

-- the table's number of each refusal, and what it also answers
abbrev pub tells : Refusal → ℕ × ℕ
tells Size = (1, 0)
tells Width = (2, 0)
tells (WordTooWide k) = (3, k.0)
tells PanelTooWide = (4, 0)
tells TwoCodes = (5, 0)
tells WrongLines = (6, 0)
tells NoSuchWord = (7, 0)
tells (EmptySyllable s) = (20, value_of s)
tells (BeyondWord s) = (21, value_of s)
tells (Overlap s) = (22, value_of s)
tells NoSuchBit = (23, 0)
tells BitsClash = (24, 0)
tells WrongJob = (25, 0)
tells (Malformed place) = (9, place)
tells NoRoom = (10, 0)
tells NotShown = (11, 0)

abbrev pub number_of : Refusal → ℕ
number_of r = (tells r).0

abbrev pub also_answers : Refusal → ℕ
also_answers r = (tells r).1

-- 02 d: "8 is retired and 20 to 25 stand in its place in the order, lowest first": the numbers as they are checked, one after the other; 12 is the
-- array's own
abbrev pub numbers : List ℕ
numbers = 1 ∷ 2 ∷ 3 ∷ 4 ∷ 5 ∷ 6 ∷ 7 ∷ 20 ∷ 21 ∷ 22 ∷ 23 ∷ 24 ∷ 25 ∷ 9 ∷ 10 ∷ 11 ∷ []

abbrev pub turn_in : List ℕ → ℕ → ℕ
turn_in [] k = 0
turn_in (j ∷ js) k = pick (eqb j k) 0 (1 + turn_in js k)

-- a number's turn among them: the lower one is the one whose turn comes first
abbrev pub turn : ℕ → ℕ
turn k = turn_in numbers k

-- the refusal's number, 0 for none, and what it also answers; the count and the word read
pub record Told : Type 0 where
  pub refusal : ℕ
  pub also : ℕ
  pub count : ℕ
  pub read : ℕ

abbrev pub told : Result Answer Refusal → Told
told (Ok a) = record { refusal = 0; also = 0; count = a.count; read = a.read }
told (Err r) = record { refusal = number_of r; also = also_answers r; count = 0; read = 0 }
