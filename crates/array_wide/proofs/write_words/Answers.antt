use mathlib.Core.Path.{refl, sym, ap, ◌∙◌}
use mathlib.Core.Bool.{Bool}
use lib.ListN.{get_or}
use Rattle.laws.specs.Bits.{pick}
use Rattle.array.proofs.Walks.{start, step, stored, kept, done}
use Rattle.array_wide.specs.Rules.{filled}
use Rattle.array_wide.proofs.Gather.{counted, passed_over}
use borrow.Author.Rules.{rules}
use Rattle.array_wide.proofs.write_words.Goals as goal
use Rattle.array_wide.proofs.write_words.Goals.{then-is_selected, else-is_selected}

pub loop-k-init : goal.loop-k-init
loop-k-init c =
    let p = c.requires in
    start _ _ _ _ _ p.0 p.1

pub loop-k-preserved : goal.loop-k-preserved
loop-k-preserved c =
    let a = c.args in
    let one = get_or c.loop-k.ones c.loop-k.k 0 in
    let x = get_or c.loop-k.xs c.loop-k.k 0 in
    let t = c.is_selected in
    elim c.if-is_selected.branch [
      | then-is_selected w ↦ (let on = sym w.if-is_selected.true ∙ t.ensures in
          rw (w.ones-is, w.xs-is, counted c.loop-k.count w.if-is_selected.true w.count-is)
          (step _ _ _ _ _ c.loop-k.invariant (search rules) (stored _ _ _ (search rules)) (stored _ _ _ (search rules)) (kept _ _ _ (search rules) refl)
          (w.filled.ensures ∙ ap (λ (b : Bool). pick b (filled a.mask a.fill one) one) on)
          (w.filled-then-is_selected.ensures ∙ ap (λ (b : Bool). pick b (filled a.mask a.xfill x) x) on) refl t.ensures))
      | else-is_selected w ↦ (let on = sym w.if-is_selected.false ∙ t.ensures in
          rw (w.ones-is, w.xs-is, passed_over c.loop-k.count w.if-is_selected.false w.count-is)
          (step _ _ _ _ _ c.loop-k.invariant (search rules) (kept _ _ _ (search rules) refl) (kept _ _ _ (search rules) refl) (kept _ _ _ (search rules) refl)
          (ap (λ (b : Bool). pick b (filled a.mask a.fill one) one) on)
          (ap (λ (b : Bool). pick b (filled a.mask a.xfill x) x) on) refl t.ensures))
    ]

pub returns : goal.returns
returns c =
    let d = done _ _ _ _ _ c.loop-k.invariant (search rules) in record {
      value = d.0;
      ones_after = d.1;
      xs_after = d.2;
    }
