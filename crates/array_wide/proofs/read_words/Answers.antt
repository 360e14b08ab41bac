use Prim.Native.Nat.{◌+◌}
use mathlib.Core.Path.{◌≡◌, refl, sym, ap, ◌∙◌}
use mathlib.Core.Bool.{Bool}
use lib.Bits.{bit_or, or_zero_l}
use lib.ListN.{get_or}
use Rattle.laws.specs.Bits.{digit, pick}
use Rattle.array.specs.Selectors.{selected}
use Rattle.array.proofs.Walks.{start, step, kept, done}
use Rattle.array_wide.proofs.Gather.{counted, passed_over, gather, gathered}
use borrow.Author.Rules.{rules}
use Rattle.array_wide.proofs.read_words.Goals as goal
use Rattle.array_wide.proofs.read_words.Goals.{then-is_selected, else-is_selected}

pub loop-k-init : goal.loop-k-init
loop-k-init c =
    let p = c.requires in
    (start _ _ _ _ _ p.0 p.1, or_zero_l _)

pub loop-k-preserved : goal.loop-k-preserved
loop-k-preserved c =
    let a = c.args in
    let k = c.loop-k.k in
    let t = c.is_selected in
    let count : c.if-is_selected.count ≡ c.loop-k.count + digit t.result =
    elim c.if-is_selected.branch [ then-is_selected w ↦ counted c.loop-k.count w.if-is_selected.true w.count-is | else-is_selected w ↦ passed_over c.loop-k.count w.if-is_selected.false w.count-is ] in
    let value : c.if-is_selected.value ≡ pick t.result (bit_or c.loop-k.value (get_or a.ones.now k 0)) c.loop-k.value =
    elim c.if-is_selected.branch [
      | then-is_selected w ↦ w.value-is ∙ sym (ap (λ (b : Bool). pick b (bit_or c.loop-k.value (get_or a.ones.now k 0)) c.loop-k.value) w.if-is_selected.true)
      | else-is_selected w ↦ w.value-is ∙ sym (ap (λ (b : Bool). pick b (bit_or c.loop-k.value (get_or a.ones.now k 0)) c.loop-k.value) w.if-is_selected.false)
    ] in
    rw (count, value) (
      step _ _ _ _ _ c.loop-k.invariant.0 (search rules) (kept _ _ _ (search rules) refl) (kept _ _ _ (search rules) refl) (kept _ _ _ (search rules) refl) refl refl refl t.ensures,
      gather (selected a.selector a.form) a.ones.now a.xs.now a.selectors.now c.loop-k.value k t.result (search rules) (search rules) (search rules) t.ensures ∙ c.loop-k.invariant.1,
    )

pub returns : goal.returns
returns c =
    record {
      value_value = sym (gathered _ _ _ _ _ c.loop-k.k (search rules)) ∙ c.loop-k.invariant.1;
      count_value = (done _ _ _ _ _ c.loop-k.invariant.0 (search rules)).0;
    }
