-- The lowest, if `find` finds one.
use Prim.Native.Nat.{ℕ}
use mathlib.Core.Path.{◌≡◌, ap, ◌∙◌}
use mathlib.Core.Bool.{true, false}
use native.Mathlib.Omega.{arith}
use borrow.Author.Rules.{rules}
use Rattle.std.proofs.lemmas.Iterator.{first_from_Range}
use Rattle.machine.specs.Machine.{response_bits}
use Rattle.explainer.specs.declared.Reason.TheVariants.{NotSelected}
use Rattle.explainer.specs.Reasons.{differs}
use Rattle.explainer.proofs.Answers.{Finds, found_lowest, found_within}
use Rattle.explainer.proofs.not_selected.Goals as goal

found : (c : goal.After-unwrap_or-lowest) → Finds (differs c.args.panel c.args.response) response_bits c.find.result
found c =
    let a = c.args in
    first_from_Range _ _ _ c.find.result (λ k. differs a.panel a.response k ≡ true) (λ k. differs a.panel a.response k ≡ false) c.find.ensures.ran (λ x q k. search rules) (λ x q k. search rules)

pub overflow_cast-result : goal.overflow_cast-result
overflow_cast-result c = record { fits = omega (arith, c.unwrap_or-lowest.ensures, found_within _ response_bits c.find.result (found c)) }

pub returns : goal.returns
returns c =
    ap (λ (k : ℕ). NotSelected (record { 0 = k })) (c.unwrap_or-lowest.ensures ∙ found_lowest _ response_bits c.find.result (found c))
