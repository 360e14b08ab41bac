-- What a machine that passes checks 1 to 3 is known to be: 1 to 1,024 words, and as many responses.
use Prim.Native.Nat.{ℕ, ◌≤◌}
use mathlib.Core.Path.{◌≡◌}
use mathlib.Core.Bool.{false, not, ◌||◌}
use native.Mathlib.Omega.{arith}
use lib.Dec.{ltb, eqb}
use lib.ListN.{length}
use borrow.Author.Tests.{ltb-false}
use Rattle.std.specs.Prelude.{Ok}
use Rattle.machine.specs.Machine.{Machine}
use Rattle.machine.specs.Refusals.{bad_size, machine_check}
use Rattle.machine.proofs.Refusals.{or_left, or_right, size_same, sound}

pub record Sized (m : Machine) : Type 0 where
  pub same : length m.responses ≡ length m.words
  pub few : length m.responses ≤ 1024

few_words : (n r : ℕ) → bad_size n r ≡ false → n ≤ 1024
unfolding bad_size
few_words n r h = ltb-false 1024 n (or_left (ltb 1024 n) (not (eqb r n)) (or_right (eqb n 0) (ltb 1024 n || not (eqb r n)) h))

pub sized : (m : Machine) → machine_check m ≡ Ok tt → Sized m
sized m h =
    let s = sound m h in
    let same = size_same (length m.words) (length m.responses) s.size in
    record { same = same; few = omega (arith, same, few_words (length m.words) (length m.responses) s.size) }
