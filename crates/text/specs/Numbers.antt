-- What a word of a line says as a number.
use Rattle.std.specs.Prelude.{Option, Some, None, ℕ, ◌+◌, ◌-◌, ◌*◌, ◌^◌, Bool, true, false, ◌&&◌, List, [], ◌∷◌, ltb, leb, eqb, length}
use Rattle.laws.specs.Bits.{pick}

-- the digits 0 to 9, A to F and a to f; 16 for a byte that is none
unfoldable pub digit_of : ℕ → ℕ
digit_of byte =
    pick (ltb byte 48) 16
    (pick (ltb byte 58) (byte - 48)
    (pick (ltb byte 65) 16
    (pick (ltb byte 71) (byte - 55)
    (pick (ltb byte 97) 16
    (pick (ltb byte 103) (byte - 87) 16)))))

-- the digits from here on, after those that made x: a byte that is no digit to the base is bad, and so is a number of 2^64 or more
unfoldable pub number_from : ℕ → ℕ → List ℕ → Option ℕ
number_from base x [] = Some x
number_from base x (byte ∷ s) =
    pick (leb base (digit_of byte)) None
    (pick (leb (2 ^ 64) (x * base + digit_of byte)) None (number_from base (x * base + digit_of byte) s))

unfoldable pub number_of : ℕ → List ℕ → Option ℕ
number_of base s = pick (eqb (length s) 0) None (number_from base 0 s)

-- "decimal digits with no sign; leading zeros are taken"
abbrev pub decimal_of : List ℕ → Option ℕ
decimal_of s = number_of 10 s

-- "HEX is 1 to 16 digits, either case"
abbrev pub hex_of : List ℕ → Option ℕ
hex_of s = pick (ltb 16 (length s)) None (number_of 16 s)

-- "a number outside its range"
unfoldable pub at_most : ℕ → Option ℕ → Option ℕ
at_most most (Some x) = pick (leb x most) (Some x) None
at_most most None = None

-- the number that a command's letter asks for: b 98, n 110, k 107 and a 97 decimal, h 104 and any other hex
unfoldable pub letter_of : ℕ → List ℕ → Option ℕ
letter_of letter s =
    pick (eqb letter 98) (at_most 255 (decimal_of s))
    (pick (eqb letter 110) (at_most 2048 (decimal_of s))
    (pick (eqb letter 107) (at_most 20000 (decimal_of s))
    (pick (eqb letter 97) (decimal_of s)
    (pick (eqb letter 104) (at_most 255 (hex_of s)) (hex_of s)))))

-- "An image is one word of digit pairs": whether each digit is one and has its partner
unfoldable pub paired : List ℕ → Bool
paired [] = true
paired (a ∷ []) = false
paired (a ∷ (b ∷ s)) = (ltb (digit_of a) 16 && ltb (digit_of b) 16) && paired s

-- the bytes that the pairs stand for, up to the first that is none
unfoldable pub pairs : List ℕ → List ℕ
pairs [] = []
pairs (a ∷ []) = []
pairs (a ∷ (b ∷ s)) = pick (ltb (digit_of a) 16 && ltb (digit_of b) 16) ((digit_of a * 16 + digit_of b) ∷ pairs s) []

-- how many bytes a lent buffer is to get: bad where a digit is none or has no partner, or the buffer is too short
abbrev pub bytes_of : ℕ → List ℕ → Option ℕ
bytes_of room s = pick (paired s && leb (length (pairs s)) room) (Some (length (pairs s))) None
