-- The syllables of a word as the list of their widths, and whole-word arithmetic over them: the form in which laws for every width are proved.
-- Document 01, 'The machine' and 'One pulse', Add; proofs/Reader ties it to the machine's definitions.
use Rattle.std.specs.Prelude.{ℕ, zero, suc, ◌+◌, ◌*◌, ◌/◌, ◌%◌, ◌^◌, List, [], ◌∷◌, ltb}
use Rattle.laws.specs.Bits.{digit}

-- One more bit below. A top (not 0) is a field of its own; any other bit belongs to the field above it, and where there is none it is bit N-1,
-- which always starts one.
abbrev pub grow : ℕ → List ℕ → List ℕ
grow zero [] = zero ∷ []
grow zero (k ∷ ks) = suc k ∷ ks
grow (suc d) ks = zero ∷ ks

-- the widths less one of the syllables of a word of n bits, lowest first
unfoldable pub fields : ℕ → ℕ → List ℕ
fields zero sdr = []
fields (suc n) sdr = grow (sdr % 2) (fields n (sdr / 2))

-- how many bits these fields have
unfoldable pub bits : List ℕ → ℕ
bits [] = zero
bits (k ∷ ks) = bits ks + suc k

-- each field becomes w + a (+ c in the lowest) modulo 2 to its width
unfoldable pub add_in : List ℕ → ℕ → ℕ → ℕ → ℕ
add_in [] w a c = zero
add_in (k ∷ ks) w a c = add_in ks (w / 2 ^ suc k) (a / 2 ^ suc k) zero * 2 ^ suc k + (w + a + c) % 2 ^ suc k

-- a one at the top of each field in which q (+ c in the lowest) is larger than p
unfoldable pub above_in : List ℕ → ℕ → ℕ → ℕ → ℕ
above_in [] q p c = zero
above_in (k ∷ ks) q p c = above_in ks (q / 2 ^ suc k) (p / 2 ^ suc k) zero * 2 ^ suc k + digit (ltb (p % 2 ^ suc k) (q % 2 ^ suc k + c)) * 2 ^ k
