-- The answers of the halves merge to the lowest of all.
use mathlib.Core.Path.{ap, ap₂, sym, ◌∙◌}
use borrow.Author.Rules.{rules}
use Rattle.std.specs.Option.{option_or}
use Rattle.std.specs.Bool.{then_some}
use Rattle.machine.specs.Machine.{selected}
use Rattle.machine.specs.Resolution.{lowest}
use Rattle.resolver.proofs.Merging.{no_word, one_word, joint}
use Rattle.resolver.proofs.+tree.Goals as goal

pub returns-in-empty : goal.returns-in-empty
returns-in-empty t c = no_word _ _ _ (search rules)

pub returns-in-len1 : goal.returns-in-len1
returns-in-len1 t c =
    let a = c.args in
    c.then_some.ensures ∙ ap (λ b. then_some b a.base) c.is_selected.ensures
    ∙ one_word (selected a.key a.care) a.base.0 a.responses.now (search rules) (search rules)

pub returns-in_default : goal.returns-in_default
returns-in_default t c =
    let a = c.args in
    let test = selected a.key a.care in
    c.or.ensures ∙ ap₂ option_or c.tree.ensures c.tree-in_default.ensures
    ∙ sym (joint test a.base.0 _ _) ∙ ap (lowest test a.base.0) (sym c.split_at.ensures.by_index.0)
