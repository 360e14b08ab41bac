-- The numbers, and what is behind them.
use Prim.Native.Nat.{ℕ, ◌+◌, ◌≤◌}
use mathlib.Core.Path.{◌≡◌, sym, ap, ◌∙◌}
use mathlib.Core.List.{List, ◌++◌}
use native.Mathlib.Omega.{arith}
use lib.ListN.{length, drop}
use lib.Seq.{sets-eq}
use borrow.Author.Tests.{le-ltb}
use Rattle.entry_forms.specs.Numbers.{tell_in}
use Rattle.entry_forms.proofs.tell.Goals as goal

stored : (s d : List ℕ) → length s ≤ length d → s ++ drop (length s) d ≡ tell_in s d
stored s d h =
    let z : length s ≡ 0 + length s = omega arith in
    rw (le-ltb (length d) (length s) h) (ap (λ (n : ℕ). s ++ drop n d) z ∙ sym (sets-eq s d 0 (omega arith)))

pub returns-then-numbers-answer : goal.returns-then-numbers-answer
returns-then-numbers-answer c =
    rw c.copy_from_slice.ensures.after (stored c.args.numbers.now c.args.answer.now c.if-numbers-answer.true)
