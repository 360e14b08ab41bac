-- What a sweep does to one word or to its response bits, as the code computes it. What the masks stand for is not known here.
use Rattle.std.specs.Prelude.{ℕ, ◌+◌, ◌-◌, ◌%◌, ◌^◌, Bool, true, false, ◌&&◌, ◌==◌, bit_and, bit_or, bit_xor}
use Rattle.laws.specs.Bits.{pick, digit}
use Rattle.machine.specs.Machine.{response_bits}
use Rattle.sweeps.specs.declared.Masks.{Masks}
use Rattle.sweeps.specs.declared.Tags.{Tags}
use Rattle.sweeps.specs.declared.Changes.{Changes}

-- ---- search

-- equal to `want` exactly if every syllable that asks for anything is satisfied
unfoldable pub test : Masks → ℕ → ℕ
test m w =
    bit_and (bit_xor (bit_and w m.topcare) m.topflip)
    (bit_xor ((m.rest + bit_xor (bit_and w m.lowcare) m.lowflip) % 2 ^ 64) m.limit)

-- 1 where the word is satisfied
unfoldable pub flag : Masks → ℕ → ℕ
flag m w = digit (test m w == m.want)

unfoldable pub chosen : Tags → ℕ → Bool
chosen p r = bit_and r p.care == bit_and p.key p.care

-- of a flag and the response bits
unfoldable pub hit : Tags → ℕ → ℕ → Bool
hit p x r = x == 1 && chosen p r

abbrev pub put : ℕ → Bool → ℕ → ℕ
put target true r = bit_or r target
put target false r = bit_and r (2 ^ response_bits - 1 - target)

unfoldable pub mark : Tags → ℕ → ℕ → ℕ
mark p x r = put p.target (hit p x r) r

-- of a word and its response bits
unfoldable pub found : Masks → Tags → ℕ → ℕ → Bool
found m p w r = hit p (flag m w) r

unfoldable pub answer : Masks → Tags → ℕ → ℕ → ℕ
answer m p w r = mark p (flag m w) r

-- ---- write and add

unfoldable pub written : Changes → ℕ → ℕ
written q w = bit_xor w (bit_and (bit_xor w q.comp) q.mor)

unfoldable pub summed : Changes → ℕ → ℕ
summed q w = bit_xor ((bit_and w q.low + q.rest) % 2 ^ 64) (bit_and (bit_xor w q.addend) q.tops)

-- the bits that an add asks to flip
unfoldable pub asked : Changes → ℕ → ℕ
asked q w = bit_xor (bit_xor ((bit_and w q.low + q.rest) % 2 ^ 64) (bit_and w q.low)) (bit_and q.addend q.tops)

-- written and added to: the bits flip that either asks to
unfoldable pub both : Changes → ℕ → ℕ
both q w = bit_xor w (bit_or (bit_xor w (written q w)) (asked q w))

-- a word that is written or not, added to or not
unfoldable pub new : Bool → Bool → Changes → ℕ → ℕ
new false false q w = w
new false true q w = summed q w
new true false q w = written q w
new true true q w = both q w

-- 1 where the word is chosen
unfoldable pub choice : Tags → ℕ → ℕ
choice p r = digit (chosen p r)

-- of a choice and the word
unfoldable pub gated : Bool → Bool → Changes → ℕ → ℕ → ℕ
gated write add q x w = pick (x == 1) (new write add q w) w

-- of the response bits and the word
unfoldable pub changed : Bool → Bool → Changes → Tags → ℕ → ℕ → ℕ
changed write add q p r w = gated write add q (choice p r) w

abbrev pub takes : Tags → ℕ → ℕ → Bool
takes p r w = chosen p r

-- ---- complement

unfoldable pub flipped : Tags → ℕ → ℕ
flipped p r = pick (chosen p r) (bit_xor r p.target) r
