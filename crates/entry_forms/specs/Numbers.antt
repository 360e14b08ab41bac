-- What a caller in another language hands over and is told, as numbers and lent buffers (house, all of it: docs/DECISIONS.md, 'The library for C').
use Rattle.std.specs.Prelude.{ℕ, ◌+◌, ◌*◌, ◌%◌, ◌^◌, Bool, not, ◌||◌, List, [], ◌∷◌, ltb, eqb, length, get_or, Ok, Err}
use Rattle.std.proofs.lemmas.List.Edits.{sets}
use Rattle.laws.specs.Bits.{bit, digit, pick}
use Rattle.machine.specs.declared.Panel.{Panel}
use Rattle.machine.specs.declared.Lines.{Lines}
use Rattle.machine.specs.declared.Refusal.{Refusal}
use Rattle.machine.specs.declared.Refusal.TheVariants.{Size, PanelTooWide, WrongLines, NoRoom}
use Rattle.machine.specs.Machine.{response_bits}
use Rattle.machine.specs.Panel.{panel_of}
use Rattle.machine.specs.Refusals.{Check, too_wide, ◌else◌, refuse, number_of, turn}
use Rattle.resolver.specs.Answers.{Told}

-- ---- several things wrong at once: "Checked in number order", with 20 to 25 in the place of 8: so the number whose turn comes first is given

-- of a refusal and another check, the refusal whose number's turn comes first
abbrev pub lower_of : Refusal → Check → Refusal
lower_of r (Ok tt) = r
lower_of r (Err s) = pick (ltb (turn (number_of s)) (turn (number_of r))) s r

abbrev pub lower : Check → Check → Check
lower (Ok tt) c = c
lower (Err r) c = Err (lower_of r c)

-- ---- a panel is a buffer of its registers in the order of their numbers

abbrev pub panel_size : ℕ
panel_size = 10

-- register k is one of 8 bits and doesn't fit
abbrev pub overflows : List ℕ → ℕ → Bool
overflows rs k = too_wide response_bits (get_or rs k 0)

-- another length is 1, key, care or target above 255 is 4
abbrev pub panel_check : List ℕ → Check
panel_check rs =
    refuse Size (not (eqb (length rs) panel_size)) else refuse PanelTooWide (overflows rs 5 || (overflows rs 6 || overflows rs 7))

-- the panel that the code hands on: where the check passes it is `panel_of` of the buffer
abbrev pub panel_in : List ℕ → Panel
panel_in rs =
    let at : ℕ → ℕ = λ k. get_or rs k 0 in
    let narrow : ℕ → ℕ = λ k. at k % 2 ^ response_bits in
    panel_of (at 0 ∷ at 1 ∷ at 2 ∷ at 3 ∷ at 4 ∷ narrow 5 ∷ narrow 6 ∷ narrow 7 ∷ at 8 ∷ at 9 ∷ [])

-- ---- the line byte: a bit for each line, search lowest, in document 01's order; a stray bit is 6

abbrev pub raised : ℕ → ℕ → Bool
raised lines i = eqb (bit lines i) 1

abbrev pub lines_of : ℕ → Lines
lines_of l =
    record {
      search = raised l 0;
      read = raised l 1;
      write = raised l 2;
      add = raised l 3;
      multiwrite = raised l 4;
      multiadd = raised l 5;
      complement = raised l 6;
    }

abbrev pub lines_check : ℕ → Check
lines_check l = refuse WrongLines (raised l 7)

-- the byte of lines that a command raises
abbrev pub line_byte : Lines → ℕ
line_byte l =
    1 * digit l.search + 2 * digit l.read + 4 * digit l.write + 8 * digit l.add
    + 16 * digit l.multiwrite + 32 * digit l.multiadd + 64 * digit l.complement

-- ---- the answer is a lent buffer of numbers: one that is too short is 10 and stays as it was

abbrev pub room_check : ℕ → ℕ → Check
room_check numbers room = refuse NoRoom (ltb room numbers)

-- what is behind the answer stays
abbrev pub tell_in : List ℕ → List ℕ → List ℕ
tell_in numbers answer = pick (ltb (length answer) (length numbers)) answer (sets answer 0 numbers)

-- what resolution and show answer, in the order of `told`
abbrev pub resolved_size : ℕ
resolved_size = 4

abbrev pub resolved_numbers : Told → List ℕ
resolved_numbers t = t.refusal ∷ t.also ∷ t.found ∷ t.word ∷ []
