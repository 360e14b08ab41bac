-- One latch set to a bit, as a mask of the byte.
use Prim.Native.Nat.{ℕ, ◌<◌}
use mathlib.Core.Path.{◌≡◌, refl, sym, ◌∙◌}
use mathlib.Core.Bool.{Bool}
use native.Mathlib.Omega.{arith}
use lib.Bits.{bit_and, bit_or}
use Rattle.laws.specs.Bits.{number, pick}
use Rattle.machine.specs.Search.{marked}
use Rattle.machine.proofs.Masks.{marked_is}
use Rattle.array.specs.declared.Latches.TheVariants as latches
use Rattle.array.specs.Selectors.{put}

-- a latch is the target bit of a search
target_p : (byte : ℕ) (on : Bool) → put latches.P on byte ≡ marked 1 on byte
unfolding number marked
target_p byte on = refl

target_s : (byte : ℕ) (on : Bool) → put latches.S on byte ≡ marked 2 on byte
unfolding number marked
target_s byte on = refl

pub put_p : (byte : ℕ) (on : Bool) → byte < 256 → pick on (bit_or byte 1) (bit_and byte 254) ≡ put latches.P on byte
put_p byte on h = sym (target_p byte on ∙ marked_is 1 on byte h (omega arith))

pub put_s : (byte : ℕ) (on : Bool) → byte < 256 → pick on (bit_or byte 2) (bit_and byte 253) ≡ put latches.S on byte
put_s byte on h = sym (target_s byte on ∙ marked_is 2 on byte h (omega arith))
