-- What is stored so far and the rest of the number's bytes are all of them.
use Prim.Native.Nat.{◌+◌, ◌-◌}
use mathlib.Core.Path.{◌≡◌}
use lib.ListN.{length}
use lib.Seq.{sets}
use Rattle.image_layout.specs.Format.{bytes}
use Rattle.image_stores.proofs.put.Given as goal

abbrev pub invariant-loop-j : goal.invariant-loop-j
invariant-loop-j l = (length l.out ≡ length l.initial.out) × (sets l.initial.out l.at (bytes l.k l.x) ≡ sets l.out (l.at + l.j) (bytes (l.k - l.j) l.rest))
