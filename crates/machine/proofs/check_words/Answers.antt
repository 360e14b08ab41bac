-- No word is larger than the union of all; and none of 64 bits is too wide for 64.
use Prim.Native.Nat.{◌^◌}
use mathlib.Core.Path.{sym, ap, ◌∙◌}
use native.Mathlib.Omega.{arith}
use lib.Pow.{pow_mono}
use borrow.Author.Tests.{leb-false}
use Rattle.machine.specs.Refusals.{refuse_word}
use Rattle.machine.proofs.Refusals.{none_lowest}
use Rattle.machine.proofs.Words.{union_each}
use borrow.Author.Rules.{rules}
use Rattle.machine.proofs.check_words.Goals as goal

pub returns-then-too_wide : goal.returns-then-too_wide
returns-then-too_wide c = c.refuse_word.ensures ∙ ap refuse_word c.first_too_wide.ensures

pub returns-else-too_wide : goal.returns-else-too_wide
returns-else-too_wide c =
    sym (ap refuse_word (none_lowest c.args.width 0 c.args.words.now
    (λ j g. omega (
      arith,
      union_each 0 c.args.words.now j g,
      c.union_of.ensures,
      leb-false (2 ^ c.args.width) c.union_of.result (sym c.too_wide.ensures ∙ c.if-too_wide.false),
    ))))

pub returns-else-width-lt64 : goal.returns-else-width-lt64
returns-else-width-lt64 c =
    sym (ap refuse_word (none_lowest c.args.width 0 c.args.words.now
    (λ j g. omega (arith, c.shared_slice_known-1.given j, pow_mono {i = 64} {j = c.args.width} (search rules)))))
