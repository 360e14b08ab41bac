-- The word control unit of source document 001, with "its own two selector sets, P and S" (02): a byte for each word, bit 0 P and bit 1 S, its other
-- bits neither read nor changed (house, docs/DECISIONS.md 'How are the selectors lent?').
use Rattle.std.specs.Prelude.{ℕ, Bool, false, not, ◌&&◌, ◌||◌, eqb}
use Rattle.laws.specs.Bits.{bit, number, pick, digit}
use Rattle.array.specs.declared.Latches.{Latches}
use Rattle.array.specs.declared.Latches.TheVariants as latches
use Rattle.array.specs.declared.Selector.{Selector}
use Rattle.array.specs.declared.Selector.TheVariants as selector
use Rattle.array.specs.declared.Form.{Form}
use Rattle.array.specs.declared.Form.TheVariants.{True, Complement}
use Rattle.array.specs.declared.Wanted.{Wanted}
use Rattle.array.specs.declared.Wanted.TheVariants.{Agree, Disagree}
use Rattle.array.specs.declared.Combine.{Combine}
use Rattle.array.specs.declared.Combine.TheVariants.{Replace, And, Or}

-- a set's place in the byte, and a word's latch of that set
abbrev pub place : Latches → ℕ
place latches.P = 0
place latches.S = 1

abbrev pub latch : Latches → ℕ → Bool
latch set byte = eqb (bit byte (place set)) 1

-- 001: "The contents of a specified set of selector latches (P, S, all 0's) in true or complement form are used to select words"
abbrev pub signal : Selector → ℕ → Bool
signal selector.P byte = latch latches.P byte
signal selector.S byte = latch latches.S byte
signal selector.Zeros byte = false

abbrev pub selected : Selector → Form → ℕ → Bool
selected s True byte = signal s byte
selected s Complement byte = not (signal s byte)

-- 02: "which a search replaces, ANDs or ORs with the words that agree, or with those that don't"; 001: word mismatch signals "in true or complement
-- form", of which the true form is the mismatch (house, docs/DECISIONS.md 'Which words does a search mark?')
abbrev pub wants : Wanted → Bool → Bool
wants Agree agree = agree
wants Disagree agree = not agree

abbrev pub combined : Combine → Bool → Bool → Bool
combined Replace old new = new
combined And old new = old && new
combined Or old new = old || new

-- the byte with one latch set to a bit
abbrev pub put : Latches → Bool → ℕ → ℕ
put set on byte = number 8 (λ i. pick (eqb i (place set)) (digit on) (bit byte i))

unfoldable pub marked : Wanted → Latches → Combine → Bool → ℕ → ℕ
marked wanted set combine agree byte = put set (combined combine (latch set byte) (wants wanted agree)) byte
