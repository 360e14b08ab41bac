-- Document 01, 'The machine': the machine, its syllables, selection.
use Rattle.std.specs.Prelude.{ℕ, zero, suc, ◌+◌, ◌-◌, Bool, ◌||◌, List, [], ◌∷◌, eqb, get_or}
use Rattle.laws.specs.Bits.{bit, number, every, pick}

-- "n words, 1 to 1,024, each of N bits, 1 to 64. .. Each word has 8 response bits, numbered 0 to 7."
pub record Machine : Type 0 where
  pub width : ℕ
  pub words : List ℕ
  pub responses : List ℕ

-- of this width, with these words and responses lent
abbrev pub machine : ℕ → List ℕ → List ℕ → Machine
machine n ws rs = record { width = n; words = ws; responses = rs }

abbrev pub response_bits : ℕ
response_bits = 8

-- word j's response
abbrev pub response : Machine → ℕ → ℕ
response m j = get_or m.responses j 0

-- "A one in SDR makes that bit the top bit of a syllable, which runs down to the bit above the next such one, or to bit 0.": held by its lowest
-- bit and how many bits it has
pub record Syllable : Type 0 where
  pub low : ℕ
  pub width : ℕ

-- "A one in SDR makes that bit the top bit of a syllable .. Bit N-1 always starts a syllable (house)."
abbrev pub is_top : ℕ → ℕ → ℕ → Bool
is_top n sdr i = eqb (bit sdr i) 1 || eqb (suc i) n

-- ".. which runs down to the bit above the next such one, or to bit 0."
unfoldable pub bottom : ℕ → ℕ → ℕ
bottom sdr zero = zero
bottom sdr (suc i) = pick (eqb (bit sdr i) 1) (suc i) (bottom sdr i)

-- the syllable whose top bit is bit i
abbrev pub down_from : ℕ → ℕ → Syllable
down_from sdr i = record { low = bottom sdr i; width = suc i - bottom sdr i }

abbrev pub keep : Bool → Syllable → List Syllable → List Syllable
keep top y ys = pick top (y ∷ ys) ys

-- the syllables whose top bits are among the m bits from bit i up, lowest first
unfoldable pub tops : ℕ → ℕ → ℕ → ℕ → List Syllable
tops n sdr i zero = []
tops n sdr i (suc m) = keep (is_top n sdr i) (down_from sdr i) (tops n sdr (suc i) m)

-- the syllables of a word of n bits
abbrev pub syllables : ℕ → ℕ → List Syllable
syllables n sdr = tops n sdr 0 n

-- the number that bits make over a syllable
abbrev pub over : Syllable → (ℕ → ℕ) → ℕ
over y f = number y.width (λ j. f (y.low + j))

-- "A word is **selected** if its response bits equal the key at every bit that care has."
unfoldable pub selected : ℕ → ℕ → ℕ → Bool
selected key care r = every response_bits (λ i. eqb (bit care i) 0 || eqb (bit r i) (bit key i))
