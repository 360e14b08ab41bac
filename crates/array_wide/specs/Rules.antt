-- What the word-wide machine does to each word, by operations on whole numbers. proofs/Bridge ties each rule to the definition in `array` that it
-- computes, where the array is sound.
use Rattle.std.specs.Prelude.{ℕ, ◌-◌, ◌^◌, Bool, List, [], ◌∷◌, eqb}
use Rattle.std.specs.Int.Bits.{bit_and, bit_or, bit_xor}
use Rattle.laws.specs.Bits.{pick}
use Rattle.array.specs.declared.Kind.{Kind}
use Rattle.array.specs.declared.Kind.TheVariants.{Normal, Special}
use Rattle.array.specs.Words.{Word}

-- no bit under the mask where the word's plane of ones and the data differ, but for its X's
abbrev pub agreeing : ℕ → ℕ → Word → Bool
agreeing d mask w = eqb (bit_and (bit_and mask (2 ^ 64 - 1 - w.xs)) (bit_xor w.ones d)) 0

-- the OR of the planes of ones of the chosen words
unfoldable pub union : (ℕ → Bool) → List Word → ℕ
union chosen [] = 0
union chosen (w ∷ ws) = bit_or (pick (chosen w.selectors) w.ones 0) (union chosen ws)

-- a plane with the bits outside the mask kept and the others filled
abbrev pub filled : ℕ → ℕ → ℕ → ℕ
filled mask fill x = bit_or (bit_and x (2 ^ 64 - 1 - mask)) fill

-- what a write fills the bits under the mask with: 0 or 1 for write normal, X for write special
abbrev pub fill_ones : Kind → ℕ → ℕ → ℕ
fill_ones Normal d mask = bit_and d mask
fill_ones Special d mask = 0

abbrev pub fill_xs : Kind → ℕ → ℕ
fill_xs Normal mask = 0
fill_xs Special mask = mask
