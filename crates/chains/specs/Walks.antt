-- Names that the inner functions' contracts use for one step of a loop. The public call cites none of them.
use Rattle.std.specs.Prelude.{ℕ, ◌+◌, ◌*◌, ◌^◌, Bool, true, false}
use Rattle.laws.specs.Bits.{bit, number, pick}
use Rattle.machine.specs.declared.Panel.{Panel}
use Rattle.machine.specs.declared.Code.{Code}
use Rattle.machine.specs.declared.Code.TheVariants.{DontCare, Exact, Larger, Smaller}
use Rattle.machine.specs.Machine.{Syllable, is_top, down_from}
use Rattle.machine.specs.Search.{by_code, or_exact, or_larger, or_smaller, or_unset, or_set}
use Rattle.machine.specs.Cells.{sum_bit}
use Rattle.machine.specs.Pulse.{addend}

abbrev pub syllable : ℕ → ℕ → Syllable
syllable low width = record { low = low; width = width }

-- a test at bit i: of the syllable that starts there, or true where none does
unfoldable pub here : (Syllable → Bool) → ℕ → ℕ → ℕ → Bool
here test n sdr i = pick (is_top n sdr i) (test (down_from sdr i)) true

-- don't care, or this code
abbrev pub or_code : Code → Code → Bool
or_code DontCare d = by_code d true false false false
or_code Exact d = or_exact d
or_code Larger d = or_larger d
or_code Smaller d = or_smaller d

-- don't care, or this setting of SC3
abbrev pub or_setting : Bool → Code → Bool → Bool
or_setting false = or_unset
or_setting true = or_set

-- what the adding cells of a syllable keep, as a number
unfoldable pub kept : Panel → ℕ → Syllable → ℕ
kept p w y = number y.width (sum_bit (λ j. bit w (y.low + j)) (λ j. addend p (y.low + j)))

-- what the syllable that starts at bit i adds to the word, or 0 where none does
unfoldable pub kept_at : ℕ → Panel → ℕ → ℕ → ℕ
kept_at n p w i = pick (is_top n p.sdr i) (kept p w (down_from p.sdr i) * 2 ^ (down_from p.sdr i).low) 0
