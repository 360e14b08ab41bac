-- Document 01, 'One pulse': write, add, pairs, complement, count and read; what a pulse does to the machine.
-- "All results are worked out from the machine before the pulse."
use Rattle.std.specs.Prelude.{ℕ, ◌+◌, ◌*◌, ◌-◌, ◌%◌, ◌^◌, Bool, true, false, not, ◌&&◌, ◌||◌, List, [], ◌∷◌, eqb, get_or}
use Rattle.laws.specs.Bits.{bit, number, pick, under}
use Rattle.laws.specs.Lists.{zip, count}
use Rattle.machine.specs.declared.Panel.{Panel}
use Rattle.machine.specs.declared.Lines.{Lines}
use Rattle.machine.specs.Machine.{Machine, machine, response_bits, Syllable, syllables, over, selected}
use Rattle.machine.specs.Search.{matches, marked}

-- "In the addressed word, or in all selected words, each bit under a one of MOR takes COMP's bit."
unfoldable pub written : ℕ → Panel → ℕ → ℕ
written n p w = number n (under p.mor (bit p.comp) (bit w))

-- "The addend is COMP with bits outside MOR as 0 (house)."
abbrev pub addend : Panel → ℕ → ℕ
addend p = under p.mor (bit p.comp) (λ i. 0)

-- "Each syllable becomes word plus addend modulo 2 to its width; no carry crosses a syllable's top." A word is the sum of its syllables, each
-- times 2 to its lowest bit.
unfoldable pub sums : Panel → ℕ → List Syllable → ℕ
sums p w [] = 0
sums p w (y ∷ ys) = (over y (bit w) + over y (addend p)) % 2 ^ y.width * 2 ^ y.low + sums p w ys

unfoldable pub added : ℕ → Panel → ℕ → ℕ
added n p w = sums p w (syllables n p.sdr)

-- 02 b: "Where a write and an add meet on one word, each asks for certain bits to flip": those at which its result x differs from the word w, ..
abbrev pub asks_flip : ℕ → ℕ → ℕ → Bool
asks_flip w x i = not (eqb (bit x i) (bit w i))

-- .. "and a bit flips if either asks."
abbrev pub both_of : ℕ → ℕ → ℕ → ℕ → ℕ
both_of n w x y = number n (λ i. pick (asks_flip w x i || asks_flip w y i) (1 - bit w i) (bit w i))

-- a word that is neither written nor added to, added to, written, or both
abbrev pub change : ℕ → Bool → Bool → ℕ → ℕ → ℕ → ℕ
change n false false w x y = w
change n false true w x y = y
change n true false w x y = x
change n true true w x y = both_of n w x y

-- "read, write, add (the last three at the address)", multiwrite and multiadd "in all selected words".
-- "Two writes on one word write once; two adds add once (house)."
unfoldable pub word_after : ℕ → Panel → Lines → ℕ → ℕ → ℕ → ℕ
word_after n p l k w r = let addressed = eqb k p.address.0 in let chosen = selected p.key p.care r in
    change n (l.write && addressed || l.multiwrite && chosen) (l.add && addressed || l.multiadd && chosen) w (written n p w) (added n p w)

-- "In selected words the target bits flip."
unfoldable pub flipped : ℕ → ℕ → ℕ
flipped target r = number response_bits (under target (λ i. 1 - bit r i) (bit r))

unfoldable pub response_after : ℕ → Panel → Lines → ℕ → ℕ → ℕ → ℕ
response_after n p l k w r = pick l.search (marked p.target (matches n p w r) r)
    (pick (l.complement && selected p.key p.care r) (flipped p.target r) r)

-- "A pulse also answers the count: matching words if search is raised, else selected words."
unfoldable pub counts : ℕ → Panel → Lines → ℕ → ℕ → Bool
counts n p l w r = pick l.search (matches n p w r) (selected p.key p.care r)

unfoldable pub count_of : Machine → Panel → Lines → ℕ
count_of m p l = count (counts m.width p l) m.words m.responses

-- "Read gives the word before the pulse." "Read's word is 0 if read isn't raised."
unfoldable pub read_of : Machine → Panel → Lines → ℕ
read_of m p l = pick l.read (get_or m.words p.address.0 0) 0

-- the machine after a pulse that is not turned down
unfoldable pub pulsed : Machine → Panel → Lines → Machine
pulsed m p l = machine m.width (zip (word_after m.width p l) 0 m.words m.responses)
    (zip (response_after m.width p l) 0 m.words m.responses)
