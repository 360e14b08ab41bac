-- Document 01, 'One pulse', The cells, and document 02, request c: a search from top bit to bottom, an add from bottom to top.
use Rattle.std.specs.Prelude.{ℕ, zero, suc, ◌+◌, ◌/◌, ◌%◌, Bool, true, false, ◌&&◌}
use Rattle.laws.specs.Bits.{bit}
use Rattle.laws.specs.Lists.{all}
use Rattle.machine.specs.declared.Panel.{Panel}
use Rattle.machine.specs.declared.Code.{Code}
use Rattle.machine.specs.declared.Status.{Status}
use Rattle.machine.specs.declared.Status.TheVariants.{Equal, For, Against}
use Rattle.machine.specs.Machine.{Syllable, syllables, selected}
use Rattle.machine.specs.Search.{code_at, by_code, each_bit}

-- word and COMP differ or not: what word 1 with COMP 0 settles, and word 0 with COMP 1
abbrev pub settled : Status → Status → ℕ → ℕ → Status
settled more less zero zero = Equal
settled more less zero (suc c) = less
settled more less (suc w) zero = more
settled more less (suc w) (suc c) = Equal

-- One cell: its code, the word's bit, COMP's bit, the status from above.
-- "A don't-care bit passes it on. Exact: a difference settles against. Larger: word 1 with COMP 0 settles for, word 0 with COMP 1 against;
-- smaller is the mirror. A settled status stays."
abbrev pub cell : Code → ℕ → ℕ → Status → Status
cell d w c Equal = by_code d Equal (settled Against Against w c) (settled For Against w c) (settled Against For w c)
cell d w c For = For
cell d w c Against = Against

-- "From top bit to bottom a syllable passes on one of three statuses: equal so far, settled for, settled against."
unfoldable pub passed : (ℕ → Status → Status) → ℕ → Status → Status
passed f zero t = t
passed f (suc j) t = passed f j (f j t)

-- "It starts equal."
abbrev pub status_of : Panel → ℕ → Syllable → Status
status_of p w y = passed (λ j. cell (code_at p (y.low + j)) (bit w (y.low + j)) (bit p.comp (y.low + j))) y.width Equal

-- "Exact wants "equal" at the bottom, larger and smaller want "settled for"." 02 c: with a one of SC3 "equal at the bottom also satisfies".
abbrev pub wants : Code → Bool → Status → Bool
wants d e Equal = by_code d true true e e
wants d e For = by_code d true false true true
wants d e Against = by_code d true false false false

unfoldable pub accepted : Panel → ℕ → Syllable → Bool
accepted p w y = each_bit p y (λ d e. wants d e (status_of p w y))

unfoldable pub cells_match : ℕ → Panel → ℕ → ℕ → Bool
cells_match n p w r = selected p.key p.care r && all (accepted p w) (syllables n p.sdr)

-- "Add goes bottom up: carry 0 in, each cell keeps the sum's low bit and passes its carry on."
unfoldable pub carry : (ℕ → ℕ) → (ℕ → ℕ) → ℕ → ℕ
carry w a zero = 0
carry w a (suc j) = (w j + a j + carry w a j) / 2

abbrev pub sum_bit : (ℕ → ℕ) → (ℕ → ℕ) → ℕ → ℕ
sum_bit w a j = (w j + a j + carry w a j) % 2
