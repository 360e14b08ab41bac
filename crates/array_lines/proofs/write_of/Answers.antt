use mathlib.Core.Path.{◌∙◌}
use borrow.Author.Rules.{rules}
use Rattle.array_lines.proofs.Operations as operations
use Rattle.array_lines.proofs.write_of.Goals as goal

pub returns-in_err-kind : goal.returns-in_err-kind
returns-in_err-kind c = c.from_residual.ensures ∙ operations.write_missed_0 c.args.line.now c.in_err-kind.ensures.right_value

pub returns-in_err-source : goal.returns-in_err-source
returns-in_err-source c = c.from_residual-in_err-source.ensures ∙ operations.write_missed_1 c.args.line.now c.in_ok-kind.kind (c.in_ok-kind.ensures.right_value, c.in_ok-kind.ensures.place_value, c.in_ok-kind.ensures.to_in_bounds) c.in_err-source.ensures.right_value

pub returns-in_err-mask : goal.returns-in_err-mask
returns-in_err-mask c = c.from_residual-in_err-mask.ensures ∙ operations.write_missed_2 c.args.line.now c.in_ok-kind.kind (c.in_ok-kind.ensures.right_value, c.in_ok-kind.ensures.place_value, c.in_ok-kind.ensures.to_in_bounds) c.in_ok-source.source (c.in_ok-source.ensures.right_value, c.in_ok-source.ensures.place_value, c.in_ok-source.ensures.to_in_bounds) c.in_err-mask.ensures.right_value

pub returns-in_err-selector : goal.returns-in_err-selector
returns-in_err-selector c = c.from_residual-in_err-selector.ensures ∙ operations.write_missed_3 c.args.line.now c.in_ok-kind.kind (c.in_ok-kind.ensures.right_value, c.in_ok-kind.ensures.place_value, c.in_ok-kind.ensures.to_in_bounds) c.in_ok-source.source (c.in_ok-source.ensures.right_value, c.in_ok-source.ensures.place_value, c.in_ok-source.ensures.to_in_bounds) c.in_ok-mask.mask (c.in_ok-mask.ensures.right_value, c.in_ok-mask.ensures.place_value, c.in_ok-mask.ensures.to_in_bounds) c.in_err-selector.ensures.right_value

pub returns-in_err-form : goal.returns-in_err-form
returns-in_err-form c = c.from_residual-in_err-form.ensures ∙ operations.write_missed_4 c.args.line.now c.in_ok-kind.kind (c.in_ok-kind.ensures.right_value, c.in_ok-kind.ensures.place_value, c.in_ok-kind.ensures.to_in_bounds) c.in_ok-source.source (c.in_ok-source.ensures.right_value, c.in_ok-source.ensures.place_value, c.in_ok-source.ensures.to_in_bounds) c.in_ok-mask.mask (c.in_ok-mask.ensures.right_value, c.in_ok-mask.ensures.place_value, c.in_ok-mask.ensures.to_in_bounds) c.in_ok-selector.selector (c.in_ok-selector.ensures.right_value, c.in_ok-selector.ensures.place_value, c.in_ok-selector.ensures.to_in_bounds) c.in_err-form.ensures.right_value

pub returns-then-not-none_left : goal.returns-then-not-none_left
returns-then-not-none_left c = operations.write_more c.args.line.now c.in_ok-kind.kind (c.in_ok-kind.ensures.right_value, c.in_ok-kind.ensures.place_value, c.in_ok-kind.ensures.to_in_bounds) c.in_ok-source.source (c.in_ok-source.ensures.right_value, c.in_ok-source.ensures.place_value, c.in_ok-source.ensures.to_in_bounds) c.in_ok-mask.mask (c.in_ok-mask.ensures.right_value, c.in_ok-mask.ensures.place_value, c.in_ok-mask.ensures.to_in_bounds) c.in_ok-selector.selector (c.in_ok-selector.ensures.right_value, c.in_ok-selector.ensures.place_value, c.in_ok-selector.ensures.to_in_bounds) c.in_ok-form.form (c.in_ok-form.ensures.right_value, c.in_ok-form.ensures.place_value, c.in_ok-form.ensures.to_in_bounds) _ c.none_left.ensures (search rules)

pub returns : goal.returns
returns c = operations.write_is c.args.line.now c.in_ok-kind.kind (c.in_ok-kind.ensures.right_value, c.in_ok-kind.ensures.place_value, c.in_ok-kind.ensures.to_in_bounds) c.in_ok-source.source (c.in_ok-source.ensures.right_value, c.in_ok-source.ensures.place_value, c.in_ok-source.ensures.to_in_bounds) c.in_ok-mask.mask (c.in_ok-mask.ensures.right_value, c.in_ok-mask.ensures.place_value, c.in_ok-mask.ensures.to_in_bounds) c.in_ok-selector.selector (c.in_ok-selector.ensures.right_value, c.in_ok-selector.ensures.place_value, c.in_ok-selector.ensures.to_in_bounds) c.in_ok-form.form (c.in_ok-form.ensures.right_value, c.in_ok-form.ensures.place_value, c.in_ok-form.ensures.to_in_bounds) _ c.none_left.ensures (search rules) c.kind_at.ensures c.source_at.ensures c.mask_at.ensures c.selector_at.ensures c.form_at.ensures
