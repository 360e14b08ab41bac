-- The digits in which a number is printed.
use Rattle.std.specs.Prelude.{ℕ, zero, suc, ◌+◌, ◌/◌, ◌%◌, ◌^◌, List, [], ◌∷◌, ◌++◌, ltb}
use Rattle.laws.specs.Bits.{pick}

-- the digits 0 to 9 and A to F, of a number's last place in hex
unfoldable pub capital : ℕ → ℕ
capital x = pick (ltb (x % 16) 10) (48 + x % 16) (55 + x % 16)

-- "Contents are printed in hex with capital digits, 16 of them for a word": the last k digits, the highest first
unfoldable pub hex_digits : ℕ → ℕ → List ℕ
hex_digits zero x = []
hex_digits (suc k) x = capital (x / 16 ^ k) ∷ hex_digits k x

-- "Other numbers are printed in decimal": all digits of a number that has at most k, the highest first
unfoldable pub decimal_digits : ℕ → ℕ → List ℕ
decimal_digits zero x = []
decimal_digits (suc k) x = pick (ltb x 10) ((48 + x) ∷ []) (decimal_digits k (x / 10) ++ ((48 + x % 10) ∷ []))

-- "2 for a response or an 8-bit register"
abbrev pub pair : ℕ → List ℕ
pair x = capital (x / 16) ∷ (capital x ∷ [])
