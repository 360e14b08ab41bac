use mathlib.Core.Path.{sym, ◌∙◌}
use Rattle.array.specs.declared.Refusal.TheVariants.{Size}
use Rattle.array.proofs.Refusals.{not_refused, sizes_same}
use borrow.Author.Rules.{rules}
use Rattle.array.proofs.check_call.Goals as goal

pub first_too_wide-requires : goal.first_too_wide-requires
first_too_wide-requires c =
    sizes_same _ _ _ (sym c.bad_size.ensures ∙ not_refused Size _ (sym c.refuse.ensures ∙ c.in_ok-refuse.was))

pub check_rest-requires-clause-xs_len : goal.check_rest-requires-clause-xs_len
check_rest-requires-clause-xs_len c = search (rules, sizes_same, not_refused)
