-- Document 01, 'One pulse', Search, and document 02, request c: by the numbers that word and COMP make over each syllable.
use Rattle.std.specs.Prelude.{ℕ, zero, suc, ◌+◌, Bool, true, false, not, ◌&&◌, ◌||◌, ltb, leb, eqb}
use Rattle.laws.specs.Bits.{bit, number, every, pick, digit, under}
use Rattle.laws.specs.Lists.{all}
use Rattle.machine.specs.declared.Panel.{Panel}
use Rattle.machine.specs.declared.Code.{Code}
use Rattle.machine.specs.declared.Code.TheVariants.{DontCare, Exact, Larger, Smaller}
use Rattle.machine.specs.Machine.{response_bits, Syllable, syllables, over, selected}

-- "Each bit has a code (SC1, SC2): 00 don't care, 01 exact, 10 larger, 11 smaller (house)."
abbrev pub code : ℕ → ℕ → Code
code zero zero = DontCare
code zero (suc b) = Exact
code (suc a) zero = Larger
code (suc a) (suc b) = Smaller

abbrev pub code_at : Panel → ℕ → Code
code_at p i = code (bit p.sc1 i) (bit p.sc2 i)

-- what is said of each code, in this order
abbrev pub by_code : {A : Type 0} → Code → A → A → A → A → A
by_code DontCare d e l s = d
by_code Exact d e l s = e
by_code Larger d e l s = l
by_code Smaller d e l s = s

-- a test holds of the code of each bit of a syllable
abbrev pub each_code : Panel → Syllable → (Code → Bool) → Bool
each_code p y test = every y.width (λ j. test (code_at p (y.low + j)))

-- 02 c: "Add a third search register SC3": whether it has a one at a bit
abbrev pub or_equal : Panel → ℕ → Bool
or_equal p i = eqb (bit p.sc3 i) 1

-- a test holds of each bit of a syllable: of its code, and whether SC3 has a one there
abbrev pub each_bit : Panel → Syllable → (Code → Bool → Bool) → Bool
each_bit p y test = every y.width (λ j. test (code_at p (y.low + j)) (or_equal p (y.low + j)))

-- "In one syllable all bits other than don't-care ones carry one code."
abbrev pub or_exact : Code → Bool
or_exact d = by_code d true true false false

abbrev pub or_larger : Code → Bool
or_larger d = by_code d true false true false

abbrev pub or_smaller : Code → Bool
or_smaller d = by_code d true false false true

unfoldable pub one_code : Panel → Syllable → Bool
one_code p y = each_code p y or_exact || (each_code p y or_larger || each_code p y or_smaller)

-- 02 c: "two SC3 settings among one syllable's cared bits": not so where none of them has a one, or each has
abbrev pub or_unset : Code → Bool → Bool
or_unset d e = by_code d true (not e) (not e) (not e)

abbrev pub or_set : Code → Bool → Bool
or_set d e = by_code d true e e e

unfoldable pub one_setting : Panel → Syllable → Bool
one_setting p y = each_bit p y or_unset || each_bit p y or_set

-- 02 c: "or a one of SC3 over an exact or don't-care bit": not so where each of its ones is over a larger or smaller bit
abbrev pub over_compared : Code → Bool → Bool
over_compared d e = by_code d (not e) (not e) true true

unfoldable pub compared_only : Panel → Syllable → Bool
compared_only p y = each_bit p y over_compared

-- one code, one setting of SC3, and that only where it says something
abbrev pub unmixed : Panel → Syllable → Bool
unmixed p y = one_code p y && (one_setting p y && compared_only p y)

-- "Read word and COMP over that syllable with don't-care bits taken as 0 .."
abbrev pub cared : Code → ℕ → ℕ
cared d b = by_code d 0 b b b

abbrev pub read_over : Panel → Syllable → ℕ → ℕ
read_over p y x = over y (λ i. cared (code_at p i) (bit x i))

-- ".. the word's number must be equal to, larger than or smaller than COMP's." 02 c: with a one of SC3 "over a cared bit, larger becomes at least
-- and smaller at most".
abbrev pub asks : Code → Bool → ℕ → ℕ → Bool
asks d e w c = by_code d true (eqb w c) (pick e (leb c w) (ltb c w)) (pick e (leb w c) (ltb w c))

-- "A syllable of don't-cares is satisfied."
unfoldable pub satisfied : Panel → ℕ → Syllable → Bool
satisfied p w y = each_bit p y (λ d e. asks d e (read_over p y w) (read_over p y p.comp))

-- "A word **matches** if it is selected and all its syllables are satisfied."
unfoldable pub matches : ℕ → Panel → ℕ → ℕ → Bool
matches n p w r = selected p.key p.care r && all (satisfied p w) (syllables n p.sdr)

-- "Each target bit becomes 1 in matching words and 0 in all others."
unfoldable pub marked : ℕ → Bool → ℕ → ℕ
marked target m r = number response_bits (under target (λ i. digit m) (bit r))
