-- An add's command, from what its callees ensure.
use Prim.Native.Nat.{ℕ, ◌+◌, ◌-◌, ◌*◌, ◌%◌, ◌^◌, ◌≤◌, ◌<◌}
use mathlib.Core.Bool.{true, false}
use mathlib.Core.Path.{◌≡◌}
use native.Mathlib.Omega.{arith}
use lib.Pow.{shl_exact}
use Rattle.machine.specs.declared.ResponseBit.{ResponseBit}
use Rattle.job_plans.specs.declared.Span.{Span}
use Rattle.job_plans.specs.Commands.{bit_of, order, plus, raising}
use Rattle.job_plans.proofs.Shifts.{run}

-- an add's registers, shifted
pub plus_is : (y : ResponseBit) (u m t v : ℕ) (s : Span) → 0 < s.width → s.low.0 + s.width ≤ 64 → v < 2 ^ s.width → u ≡ 2 ^ y.0 → m ≡ 2 ^ s.width - 1
    → t ≡ bit_of s (s.width - 1)
    → order (raising false true) (v * 2 ^ s.low.0 % 2 ^ 64) t 0 (m * 2 ^ s.low.0 % 2 ^ 64) u u 0
    ≡ plus y s v
plus_is y u m t v s h g l e d f =
    let k : s.low.0 + (s.width - 1) ≡ s.low.0 + s.width - 1 = omega arith in
    rw (e, d, f, k, shl_exact s.width s.low.0 64 l (omega arith), run s.low.0 s.width g)
