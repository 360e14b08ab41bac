-- The invariant: the flags of the words passed stand in h.
use Rattle.std.proofs.Common.{◌≡◌, ℕ, ◌<◌, length, get_or}
use Rattle.sweeps.specs.Rules.{flag}
use Rattle.sweeps.proofs.flags.Given as goal

abbrev pub invariant-loop-i : goal.invariant-loop-i
invariant-loop-i l = ((j : ℕ) → j < l.i → get_or l.h j 0 ≡ flag l.m (get_or l.words j 0)) × (length l.h ≡ 64)
