-- Loading a register of the panel by its number (document 01, 'The machine'; the numbers are those of `registers`).
use Rattle.std.specs.Prelude.{ℕ, Bool, true, not, eqb, ltb}
use Rattle.laws.specs.Bits.{pick}
use Rattle.machine.specs.Machine.{response_bits}
use Rattle.machine.specs.Refusals.{too_wide}

-- whether there is a register k and it takes v: "five N-bit registers .., three 8-bit ones .. and an address"; 02 c: "a third search register SC3"
abbrev pub takes : ℕ → ℕ → Bool
takes k v = pick (ltb k 5) true (pick (ltb k 8) (not (too_wide response_bits v)) (ltb k 10))

-- of one value for each of the three kinds, the one for register k: what `load_own` is written with
abbrev pub chosen : ℕ → ℕ → ℕ → ℕ → ℕ
chosen k value narrow word = pick (ltb k 5) value (pick (ltb k 8) narrow (pick (eqb k 8) word value))
