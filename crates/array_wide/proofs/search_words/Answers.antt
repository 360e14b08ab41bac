use mathlib.Core.Path.{refl, ap, ◌∙◌}
use mathlib.Core.Bool.{Bool}
use lib.ListN.{get_or}
use Rattle.array.specs.Selectors.{marked}
use Rattle.array.proofs.Walks.{start, step, stored, kept, done, as_digit}
use borrow.Author.Rules.{rules}
use Rattle.array_wide.proofs.search_words.Goals as goal

pub loop-k-init : goal.loop-k-init
loop-k-init c =
    let p = c.requires in
    start _ _ _ _ _ p.0 p.1

pub loop-k-preserved : goal.loop-k-preserved
loop-k-preserved c =
    let a = c.args in
    let t = c.is_agreeing-agree in
    let m = c.mark in
    rw (c.from-count.ensures ∙ as_digit t.result)
    (step _ _ _ _ _ c.loop-k.invariant (search rules) (kept _ _ _ (search rules) refl) (kept _ _ _ (search rules) refl) (stored _ _ _ (search rules)) refl refl
    (m.ensures ∙ ap (λ (b : Bool). marked a.wanted a.destination a.combine b (get_or c.loop-k.selectors c.loop-k.k 0)) t.ensures)
    t.ensures)

pub returns : goal.returns
returns c =
    let d = done _ _ _ _ _ c.loop-k.invariant (search rules) in record {
      value = d.0;
      selectors_after = d.3;
    }
