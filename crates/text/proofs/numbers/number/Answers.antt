use mathlib.Core.Path.{refl, ◌∙◌}
use native.Mathlib.Omega.{arith}
use Rattle.text.proofs.Reading.{empty, begins, none, large, on, ended, fits, too_large}
use Rattle.text.proofs.numbers.number.Goals as goal

pub returns-then-is_empty : goal.returns-then-is_empty
returns-then-is_empty c = empty _ _ _ c.is_empty.ensures c.if-is_empty.true

pub loop-byte-init : goal.loop-byte-init
loop-byte-init c = begins _ _ _ c.is_empty.ensures c.if-is_empty.false

pub returns-in_err-d : goal.returns-in_err-d
returns-in_err-d c = let l = c.loop-byte in c.from_residual.ensures ∙ none c.args.base l.value l.byte-index c.args.s.now _ l.invariant _ (omega arith) refl (omega (arith, c.in_err-d.ensures))

pub returns-then-base-d : goal.returns-then-base-d
returns-then-base-d c = let l = c.loop-byte in let d = c.in_ok-d in none c.args.base l.value l.byte-index c.args.s.now _ l.invariant d.d (omega arith) d.ensures.0 c.if-base-d.true

pub returns-then-d-base : goal.returns-then-d-base
returns-then-d-base c = let l = c.loop-byte in let d = c.in_ok-d in large c.args.base l.value l.byte-index c.args.s.now _ l.invariant d.d (omega arith) d.ensures.0 c.if-base-d.false (too_large _ _ _ (omega arith) (omega arith) c.if-d-base.true)

pub overflow_mul-value : goal.overflow_mul-value
overflow_mul-value c = omega (arith, fits _ _ _ (omega arith) (omega arith) c.if-d-base.false)

pub overflow_add-value : goal.overflow_add-value
overflow_add-value c = omega (arith, fits _ _ _ (omega arith) (omega arith) c.if-d-base.false)

pub loop-byte-preserved : goal.loop-byte-preserved
loop-byte-preserved c = let l = c.loop-byte in let d = c.in_ok-d in on c.args.base l.value l.byte-index c.args.s.now _ l.invariant d.d (omega arith) d.ensures.0 c.if-base-d.false (fits _ _ _ (omega arith) (omega arith) c.if-d-base.false)

pub returns : goal.returns
returns c = let l = c.loop-byte in ended c.args.base l.value l.byte-index c.args.s.now _ l.invariant (omega arith)
