-- Figures for document 02, request e, worked out by hand: each answer for each code, don't-care bits about the settling place, syllables of one bit
-- and of 64, several that are not satisfied, response bits, and the numbers.
use Prim.Native.Nat.{ℕ}
use mathlib.Core.Path.{◌≡◌, refl}
use mathlib.Core.List.{List, [], ◌∷◌, map}
use Rattle.laws.specs.Bits.{number, every}
use Rattle.laws.specs.Lists.{all}
use Rattle.machine.specs.declared.Panel.{Panel}
use Rattle.machine.specs.Machine.{Machine, bottom, tops, selected}
use Rattle.machine.specs.Panel.{panel_of}
use Rattle.machine.specs.Resolution.{lowest}
use Rattle.machine.specs.Search.{one_code, one_setting, compared_only, satisfied}
use Rattle.machine.specs.Refusals.{bad_size, bad_width, bad_panel, bad_codes, bad_lines, bad_address, machine_check, pulse_check}
use Rattle.explainer.specs.Reasons.{lowest_of, down_through, topmost, reason, explain_check, explained, told}

-- ---- the form of a row: what the definitions tell, and what is stated: the refusal's number and what it also answers; 1 matched, 2 not selected, 3
-- against, 4 equal to the bottom; the syllable's top bit; the bit

pub record Told : Type 0 where
  pub refusal : ℕ × ℕ
  pub answer : ℕ
  pub syllable : ℕ
  pub bit : ℕ

pub record Case : Type 0 where
  pub given : Told
  pub stated : Told

abbrev because : ℕ → ℕ → ℕ → Told
because answer syllable bit = record { refusal = (0, 0); answer = answer; syllable = syllable; bit = bit }

abbrev matched : Told
matched = because 1 0 0

abbrev against : ℕ → ℕ → Told
against = because 3

abbrev equal : ℕ → Told
equal t = because 4 t 0

abbrev refused : ℕ → ℕ → Told
refused k also = record { refusal = (k, also); answer = 0; syllable = 0; bit = 0 }

-- why word k of a machine
abbrev why : Machine → Panel → ℕ → Told → Case
why m p k stated =
    let t = told (explained m p (record { 0 = k })) in
    record { given = record { refusal = (t.refusal, t.also); answer = t.answer; syllable = t.syllable; bit = t.bit }; stated = stated }

-- one word of n bits, all selected: COMP, SDR, SC1, SC2 and SC3; the address is far outside
abbrev asked : ℕ → ℕ → ℕ → ℕ → ℕ → ℕ → ℕ → Told → Case
asked n sdr comp sc1 sc2 sc3 w stated =
    why (record { width = n; words = w ∷ []; responses = 0 ∷ [] }) (panel_of (comp ∷ sdr ∷ sc1 ∷ sc2 ∷ 0 ∷ 0 ∷ 0 ∷ 1 ∷ 5000 ∷ sc3 ∷ [])) 0 stated

-- COMP 5A, 0101 1010, in one syllable of 8 bits. Word 5B, 0101 1011, has 1 over 0 at bit 0; 59, 0101 1001, has 0 over 1 at bit 1; 1A, 0001 1010, has 0
-- over 1 at bit 6; DA, 1101 1010, has 1 over 0 at bit 7
abbrev of5_a : ℕ → ℕ → ℕ → ℕ → Told → Case
of5_a = asked 8 0x80 0x5A

abbrev pub exact : List Case
exact =
    of5_a 0 0xFF 0 0x5A matched
    ∷ of5_a 0 0xFF 0 0x5B (against 7 0)
    ∷ of5_a 0 0xFF 0 0x59 (against 7 1)
    ∷ of5_a 0 0xFF 0 0x1A (against 7 6)
    ∷ of5_a 0 0xFF 0 0xDA (against 7 7)
    ∷ []

abbrev pub larger : List Case
larger =
    of5_a 0xFF 0 0 0x5A (equal 7)
    ∷ of5_a 0xFF 0 0 0x5B matched
    ∷ of5_a 0xFF 0 0 0x59 (against 7 1)
    ∷ of5_a 0xFF 0 0 0x1A (against 7 6)
    ∷ of5_a 0xFF 0 0 0xDA matched
    ∷ []

abbrev pub smaller : List Case
smaller =
    of5_a 0xFF 0xFF 0 0x5A (equal 7)
    ∷ of5_a 0xFF 0xFF 0 0x5B (against 7 0)
    ∷ of5_a 0xFF 0xFF 0 0x59 matched
    ∷ of5_a 0xFF 0xFF 0 0x1A matched
    ∷ of5_a 0xFF 0xFF 0 0xDA (against 7 7)
    ∷ []

abbrev pub at_least : List Case
at_least =
    of5_a 0xFF 0 0xFF 0x5A matched
    ∷ of5_a 0xFF 0 0xFF 0x5B matched
    ∷ of5_a 0xFF 0 0xFF 0x59 (against 7 1)
    ∷ of5_a 0xFF 0 0xFF 0x1A (against 7 6)
    ∷ []

abbrev pub at_most : List Case
at_most =
    of5_a 0xFF 0xFF 0xFF 0x5A matched
    ∷ of5_a 0xFF 0xFF 0xFF 0x59 matched
    ∷ of5_a 0xFF 0xFF 0xFF 0x5B (against 7 0)
    ∷ of5_a 0xFF 0xFF 0xFF 0xDA (against 7 7)
    ∷ []

-- 59 differs from 5A at bits 1 and 0. Bit 1 not cared for, FD: bit 0 settles, 1 over 0. Bits 1 and 0, FC: nothing does. Nor where all are: 00. 1A differs at bit
-- 6: without it, BF, nothing settles. 19, 0001 1001, differs at bits 6, 1 and 0: without bit 6 it is bit 1 that settles
abbrev pub dont_care : List Case
dont_care =
    of5_a 0 0xFD 0 0x59 (against 7 0)
    ∷ of5_a 0 0xFC 0 0x59 matched
    ∷ of5_a 0xFD 0 0 0x59 matched
    ∷ of5_a 0xFC 0 0 0x59 (equal 7)
    ∷ of5_a 0xFD 0xFD 0 0x59 (against 7 0)
    ∷ of5_a 0xFC 0xFC 0 0x59 (equal 7)
    ∷ of5_a 0xFC 0 0xFC 0x59 matched
    ∷ of5_a 0xFD 0xFD 0xFD 0x59 (against 7 0)
    ∷ of5_a 0 0 0 0x59 matched
    ∷ of5_a 0xBF 0 0 0x1A (equal 7)
    ∷ of5_a 0 0xBF 0 0x1A matched
    ∷ of5_a 0xBF 0 0 0x19 (against 7 1)
    ∷ of5_a 0xBF 0 0xBF 0x19 (against 7 1)
    ∷ []

-- bits 7 to 4 and 3 to 0, COMP 35, 0011 0101. 9C, 1001 1100, differs at bit 7 and at bit 3: the upper one is told. 15, 0001 0101, at bit 5. 3D, 0011 1101, at
-- bit 3. Upper larger, lower exact: 35 is equal above, 45, 0100 0101, larger there, 44 differs at bit 0 then
abbrev halves : ℕ → ℕ → ℕ → Told → Case
halves sc1 sc2 = asked 8 0x88 0x35 sc1 sc2 0

abbrev pub several : List Case
several =
    halves 0 0xFF 0x35 matched
    ∷ halves 0 0xFF 0x9C (against 7 7)
    ∷ halves 0 0xFF 0x15 (against 7 5)
    ∷ halves 0 0xFF 0x3D (against 3 3)
    ∷ halves 0xF0 0x0F 0x35 (equal 7)
    ∷ halves 0xF0 0x0F 0x34 (equal 7)
    ∷ halves 0xF0 0x0F 0x45 matched
    ∷ halves 0xF0 0x0F 0x44 (against 3 0)
    ∷ halves 0xF0 0x0F 0x24 (against 7 4)
    ∷ halves 0xFF 0 0x35 (equal 7)
    ∷ halves 0xFF 0 0x45 (equal 3)
    ∷ halves 0xFF 0 0x44 (against 3 0)
    ∷ halves 0x0F 0 0x95 (equal 3)
    ∷ []

-- eight syllables of one bit. Exact 35: 25, 0010 0101, differs at bit 4; 24 at bits 4 and 0. Larger than 0 at each bit: FE has 0 at bit 0, 7E at bits 7 and 0.
-- Than 01: FE has 0 over 1 at bit 0, FF 1 over 1
abbrev pub one_bit : List Case
one_bit =
    asked 8 0xFF 0x35 0 0xFF 0 0x25 (against 4 4)
    ∷ asked 8 0xFF 0x35 0 0xFF 0 0x24 (against 4 4)
    ∷ asked 8 0xFF 0 0xFF 0 0 0xFF matched
    ∷ asked 8 0xFF 0 0xFF 0 0 0xFE (equal 0)
    ∷ asked 8 0xFF 0 0xFF 0 0 0x7E (equal 7)
    ∷ asked 8 0xFF 1 0xFF 0 0 0xFE (against 0 0)
    ∷ asked 8 0xFF 1 0xFF 0 0 0xFF (equal 0)
    ∷ asked 1 0 1 1 0 0 1 (equal 0)
    ∷ asked 1 0 1 1 0 1 1 matched
    ∷ asked 1 0 1 1 0 1 0 (against 0 0)
    ∷ []

-- one syllable of 64 bits; SDR may leave its top bit out
abbrev pub sixty_four : List Case
sixty_four =
    asked 64 0 0x8000000000000000 0xFFFFFFFFFFFFFFFF 0 0 0x7FFFFFFFFFFFFFFF (against 63 63)
    ∷ asked 64 0 0x8000000000000000 0xFFFFFFFFFFFFFFFF 0 0 0x8000000000000000 (equal 63)
    ∷ asked 64 0 0x8000000000000000 0xFFFFFFFFFFFFFFFF 0 0 0x8000000000000001 matched
    ∷ asked 64 0 0xFFFFFFFFFFFFFFFE 0xFFFFFFFFFFFFFFFF 0xFFFFFFFFFFFFFFFF 0 0xFFFFFFFFFFFFFFFF (against 63 0)
    ∷ asked 64 0 0xFFFFFFFFFFFFFFFE 0xFFFFFFFFFFFFFFFF 0xFFFFFFFFFFFFFFFF 0xFFFFFFFFFFFFFFFF 0xFFFFFFFFFFFFFFFE matched
    ∷ asked 64 0 0 0 0xFFFFFFFFFFFFFFFF 0 1 (against 63 0)
    ∷ []

-- key 05, care 0F: 0101 in bits 3 to 0. 04, 0100, differs at bit 0; 01 at bit 2; 0D, 1101, at bit 3; 0A, 1010, at all four; F5 at none; 02, 0010, at bits 2, 1 and
-- 0; 03, 0011, at bits 2 and 1. Where it is not selected no syllable is looked at: exact 35 in word 9C
abbrev under : ℕ → ℕ → Told → Case
under w r stated = why (record { width = 8; words = w ∷ []; responses = r ∷ [] }) (panel_of (0x35 ∷ 0x88 ∷ 0 ∷ 0xFF ∷ 0 ∷ 0x05 ∷ 0x0F ∷ 0 ∷ [])) 0 stated

abbrev pub selection : List Case
selection =
    under 0x35 0x05 matched
    ∷ under 0x35 0xF5 matched
    ∷ under 0x35 0x04 (because 2 0 0)
    ∷ under 0x35 0x01 (because 2 0 2)
    ∷ under 0x35 0x0D (because 2 0 3)
    ∷ under 0x35 0x0A (because 2 0 0)
    ∷ under 0x9C 0x02 (because 2 0 0)
    ∷ under 0x9C 0x03 (because 2 0 1)
    ∷ under 0x9C 0x05 (against 7 7)
    ∷ under 0x9C 0xF5 (against 7 7)
    ∷ []

-- two words of 8 bits and a panel; each number alone, then beside the next one
abbrev two : List ℕ → List ℕ → ℕ → Machine
two ws rs n = record { width = n; words = ws; responses = rs }

-- SDR 80; MOR, SC1 and SC2 as given
abbrev codes : ℕ → ℕ → ℕ → Panel
codes mor sc1 sc2 = panel_of (0 ∷ 0x80 ∷ sc1 ∷ sc2 ∷ mor ∷ 0 ∷ 0 ∷ 0 ∷ 5000 ∷ [])

abbrev pub refusals : List Case
refusals =
    why (two (0 ∷ 0 ∷ []) (0 ∷ 0 ∷ []) 8) (codes 0 0 0) 1 matched
    ∷ why (two (0 ∷ 0 ∷ []) (0 ∷ []) 8) (codes 0 0 0) 1 (refused 1 0)
    ∷ why (two (0 ∷ 0 ∷ []) (0 ∷ 0 ∷ []) 0) (codes 0 0 0) 1 (refused 2 0)
    ∷ why (two (0 ∷ 0x100 ∷ []) (0 ∷ 0 ∷ []) 8) (codes 0 0 0) 0 (refused 3 1)
    ∷ why (two (0 ∷ 0 ∷ []) (0 ∷ 0 ∷ []) 8) (codes 0x100 0 0) 1 (refused 4 0)
    ∷ why (two (0 ∷ 0 ∷ []) (0 ∷ 0 ∷ []) 8) (codes 0 0x0F 0xFF) 1 (refused 5 0)
    ∷ why (two (0 ∷ 0 ∷ []) (0 ∷ 0 ∷ []) 8) (codes 0 0 0) 2 (refused 7 0)
    ∷ why (two (0 ∷ 0 ∷ []) (0 ∷ []) 0) (codes 0 0 0) 1 (refused 1 0)
    ∷ why (two (0 ∷ 0x100 ∷ []) (0 ∷ 0 ∷ []) 0) (codes 0 0 0) 2 (refused 2 0)
    ∷ why (two (0x200 ∷ 0x100 ∷ []) (0 ∷ 0 ∷ []) 8) (codes 0x100 0 0) 2 (refused 3 0)
    ∷ why (two (0 ∷ 0 ∷ []) (0 ∷ 0 ∷ []) 8) (codes 0x100 0x0F 0xFF) 2 (refused 4 0)
    ∷ why (two (0 ∷ 0 ∷ []) (0 ∷ 0 ∷ []) 8) (codes 0 0x0F 0xFF) 2 (refused 5 0)
    ∷ []

-- ---- the statement: what the definitions tell is what is stated, in every row

abbrev shown_all : List Case → List Told
shown_all = map (λ (r : Case). r.given)

abbrev stated_all : List Case → List Told
stated_all = map (λ (r : Case). r.stated)

pub figures_of_e : (shown_all exact ≡ stated_all exact) × (shown_all larger ≡ stated_all larger) × (shown_all smaller ≡ stated_all smaller)
    × (shown_all at_least ≡ stated_all at_least) × (shown_all at_most ≡ stated_all at_most) × (shown_all dont_care ≡ stated_all dont_care)
    × (shown_all several ≡ stated_all several) × (shown_all one_bit ≡ stated_all one_bit) × (shown_all sixty_four ≡ stated_all sixty_four)
    × (shown_all selection ≡ stated_all selection) × (shown_all refusals ≡ stated_all refusals)
unfolding bottom tops selected every number all one_code one_setting compared_only satisfied lowest bad_size bad_width bad_panel bad_codes bad_lines bad_address machine_check pulse_check lowest_of down_through topmost reason explain_check explained
figures_of_e = (refl, refl, refl, refl, refl, refl, refl, refl, refl, refl, refl)
