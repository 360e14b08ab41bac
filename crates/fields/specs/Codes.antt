-- Search and refusal 5 over fields, by the numbers that SC1 (a), SC2 (b), SC3 (e), the word (w) and COMP (c) make in each.
-- Document 01, 'One pulse', Search, with document 02, request c; proofs/Reader and proofs/Mixing tie it to the machine's definitions.
use Rattle.std.specs.Prelude.{ℕ, zero, suc, ◌/◌, ◌%◌, ◌^◌, List, [], ◌∷◌, Bool, true, ◌&&◌, ◌||◌, ltb, leb, eqb}
use Rattle.std.specs.Int.Bits.{bit_and, bit_or, bit_xor}
use Rattle.fields.specs.Fields.{above_in}

-- what an unmixed field asks: nothing where no bit is cared for; exact; larger or at least; smaller or at most
abbrev pub asks : ℕ → ℕ → ℕ → ℕ → ℕ → Bool
asks zero zero e w c = true
asks zero (suc b) e w c = eqb w c
asks (suc a) zero zero w c = ltb c w
asks (suc a) zero (suc e) w c = leb c w
asks (suc a) (suc b) zero w c = ltb w c
asks (suc a) (suc b) (suc e) w c = leb w c

-- Of two numbers in a field: one is 0, or they are the same. Of SC1 and SC2 this is one code among its cared bits: none larger or smaller, none exact
-- or smaller, or all smaller. Of SC3's bits among the cared ones and all cared ones it is one setting of SC3.
abbrev pub one : ℕ → ℕ → Bool
one a b = eqb a zero || (eqb b zero || eqb a b)

unfoldable pub one_in : List ℕ → ℕ → ℕ → Bool
one_in [] a b = true
one_in (k ∷ ks) a b = one (a % 2 ^ suc k) (b % 2 ^ suc k) && one_in ks (a / 2 ^ suc k) (b / 2 ^ suc k)

-- a one at the top of each field that has two
unfoldable pub clash : List ℕ → ℕ → ℕ → ℕ
clash ks a b = bit_and (bit_and (above_in ks a 0 0) (above_in ks b 0 0)) (above_in ks (bit_xor a b) 0 0)

-- SC3's ones among the cared bits
abbrev pub set_bits : ℕ → ℕ → ℕ → ℕ
set_bits a b e = bit_and e (bit_or a b)

-- one code and one setting of SC3 in each field, and no one of SC3 where SC1 has none
unfoldable pub unmixed_in : List ℕ → ℕ → ℕ → ℕ → Bool
unmixed_in ks a b e = one_in ks a b && (one_in ks (set_bits a b e) (bit_or a b) && eqb (bit_and e a) e)

-- all fields are satisfied, don't-care bits taken as 0
unfoldable pub satisfied_in : List ℕ → ℕ → ℕ → ℕ → ℕ → ℕ → Bool
satisfied_in [] a b e w c = true
satisfied_in (k ∷ ks) a b e w c =
    asks (a % 2 ^ suc k) (b % 2 ^ suc k) (e % 2 ^ suc k) (bit_and w (bit_or a b) % 2 ^ suc k) (bit_and c (bit_or a b) % 2 ^ suc k)
    && satisfied_in ks (a / 2 ^ suc k) (b / 2 ^ suc k) (e / 2 ^ suc k) (w / 2 ^ suc k) (c / 2 ^ suc k)
