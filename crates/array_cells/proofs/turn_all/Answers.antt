use Prim.Native.Nat.{◌<◌}
use mathlib.Core.Path.{ap, ◌∙◌}
use native.Mathlib.Omega.{arith}
use lib.ListN.{length}
use Rattle.array.specs.Words.{Word}
use Rattle.array.specs.Operations as operations
use Rattle.array.proofs.Walks.{start, step, done, stored, as_digit}
use borrow.Author.Rules.{rules}
use Rattle.array_cells.proofs.turn_all.Goals as goal

pub loop-k-init : goal.loop-k-init
loop-k-init c = let p = c.requires.xs_len in start _ _ _ _ _ p.0 p.1

pub loop-k-preserved : goal.loop-k-preserved
loop-k-preserved c =
    let l = c.loop-k in
    let a = c.args in
    let t = c.turn-turned in
    let ho : l.k < length l.ones = search rules in
    let hx : l.k < length l.xs = omega arith in
    let hs : l.k < length l.selectors = omega arith in
    rw (c.from-counted.ensures ∙ as_digit t.result.counted)
    (step (operations.word_after a.width a.registers a.operation) (operations.counted a.width a.registers a.operation)
    a.ones.now a.xs.now a.selectors.now l.invariant ho
    (stored l.ones l.k t.result.word.ones ho) (stored l.xs l.k t.result.word.xs hx) (stored l.selectors l.k t.result.word.selectors hs)
    (ap (λ (w : Word). w.ones) t.ensures.selectors_value) (ap (λ (w : Word). w.xs) t.ensures.selectors_value) (ap (λ (w : Word). w.selectors) t.ensures.selectors_value) t.ensures.counted_value)

pub returns : goal.returns
returns c =
    let d = done _ _ _ _ _ c.loop-k.invariant (search rules) in record {
      value = d.0;
      ones_after = d.1;
      xs_after = d.2;
      selectors_after = d.3;
    }
