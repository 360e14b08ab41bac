use Prim.Native.Nat.{ℕ, ◌<◌, ◌≤◌}
use mathlib.Core.Path.{◌≡◌}
use native.Mathlib.Omega.{arith}
use borrow.Author.Tests.{lt-ltb, le-ltb, ne_eqb}
use Rattle.console_setting.specs.Settings.{letter_for}
use Rattle.console_setting.proofs.read_value.Goals.{in_default-via-then-register-lt5, in_default-via-else-register-lt5+else-register-lt8}
use Rattle.console_setting.proofs.read_value.Goals as goal

for_narrow : (k : ℕ) → 5 ≤ k → k < 8 → letter_for k ≡ "h"
for_narrow k h g = rw (le-ltb k 5 h, lt-ltb k 8 g)

for_wide : (k : ℕ) → k < 5 → letter_for k ≡ "x"
for_wide k h = rw (lt-ltb k 5 h)

for_third : (k : ℕ) → 8 ≤ k → (k ≡ 8 → ⊥) → letter_for k ≡ "x"
for_third k h n = rw (le-ltb k 5 (omega arith), le-ltb k 8 h, ne_eqb k 8 n)

pub returns-in-8 : goal.returns-in-8
returns-in-8 c = let e : c.args.register ≡ 8 = omega arith in record {
  right_value = rw e c.read.ensures.right_value;
  values_value = rw e (c.read.ensures.values_value (omega arith));
}

pub returns-in-5-to-7 : goal.returns-in-5-to-7
returns-in-5-to-7 c = let e = for_narrow c.args.register (omega arith) (omega arith) in record {
  right_value = rw e c.read-in-5-to-7.ensures.right_value;
  values_value = rw e (c.read-in-5-to-7.ensures.values_value (omega arith));
}

pub returns-in_default : goal.returns-in_default
returns-in_default c = let e : letter_for c.args.register ≡ "x" = elim c.in_default.branch [ in_default-via-then-register-lt5 w ↦ for_wide c.args.register (omega arith) | in_default-via-else-register-lt5+else-register-lt8 w ↦ for_third c.args.register (omega arith) (λ e. omega arith) ] in record {
  right_value = rw e c.read-in_default.ensures.right_value;
  values_value = rw e (c.read-in_default.ensures.values_value (omega arith));
}
