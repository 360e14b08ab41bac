use mathlib.Core.Path.{◌∙◌}
use borrow.Author.Rules.{rules}
use Rattle.array_lines.proofs.Operations as operations
use Rattle.array_lines.proofs.search_of.Goals as goal

pub returns-in_err-source : goal.returns-in_err-source
returns-in_err-source c = c.from_residual.ensures ∙ operations.search_missed_0 c.args.line.now c.in_err-source.ensures.right_value

pub returns-in_err-mask : goal.returns-in_err-mask
returns-in_err-mask c = c.from_residual-in_err-mask.ensures ∙ operations.search_missed_1 c.args.line.now c.in_ok-source.source (c.in_ok-source.ensures.right_value, c.in_ok-source.ensures.place_value, c.in_ok-source.ensures.to_in_bounds) c.in_err-mask.ensures.right_value

pub returns-in_err-wanted : goal.returns-in_err-wanted
returns-in_err-wanted c = c.from_residual-in_err-wanted.ensures ∙ operations.search_missed_2 c.args.line.now c.in_ok-source.source (c.in_ok-source.ensures.right_value, c.in_ok-source.ensures.place_value, c.in_ok-source.ensures.to_in_bounds) c.in_ok-mask.mask (c.in_ok-mask.ensures.right_value, c.in_ok-mask.ensures.place_value, c.in_ok-mask.ensures.to_in_bounds) c.in_err-wanted.ensures.right_value

pub returns-in_err-destination : goal.returns-in_err-destination
returns-in_err-destination c = c.from_residual-in_err-destination.ensures ∙ operations.search_missed_3 c.args.line.now c.in_ok-source.source (c.in_ok-source.ensures.right_value, c.in_ok-source.ensures.place_value, c.in_ok-source.ensures.to_in_bounds) c.in_ok-mask.mask (c.in_ok-mask.ensures.right_value, c.in_ok-mask.ensures.place_value, c.in_ok-mask.ensures.to_in_bounds) c.in_ok-wanted.wanted (c.in_ok-wanted.ensures.right_value, c.in_ok-wanted.ensures.place_value, c.in_ok-wanted.ensures.to_in_bounds) c.in_err-destination.ensures.right_value

pub returns-in_err-combine : goal.returns-in_err-combine
returns-in_err-combine c = c.from_residual-in_err-combine.ensures ∙ operations.search_missed_4 c.args.line.now c.in_ok-source.source (c.in_ok-source.ensures.right_value, c.in_ok-source.ensures.place_value, c.in_ok-source.ensures.to_in_bounds) c.in_ok-mask.mask (c.in_ok-mask.ensures.right_value, c.in_ok-mask.ensures.place_value, c.in_ok-mask.ensures.to_in_bounds) c.in_ok-wanted.wanted (c.in_ok-wanted.ensures.right_value, c.in_ok-wanted.ensures.place_value, c.in_ok-wanted.ensures.to_in_bounds) c.in_ok-destination.destination (c.in_ok-destination.ensures.right_value, c.in_ok-destination.ensures.place_value, c.in_ok-destination.ensures.to_in_bounds) c.in_err-combine.ensures.right_value

pub returns-then-not-none_left : goal.returns-then-not-none_left
returns-then-not-none_left c = operations.search_more c.args.line.now c.in_ok-source.source (c.in_ok-source.ensures.right_value, c.in_ok-source.ensures.place_value, c.in_ok-source.ensures.to_in_bounds) c.in_ok-mask.mask (c.in_ok-mask.ensures.right_value, c.in_ok-mask.ensures.place_value, c.in_ok-mask.ensures.to_in_bounds) c.in_ok-wanted.wanted (c.in_ok-wanted.ensures.right_value, c.in_ok-wanted.ensures.place_value, c.in_ok-wanted.ensures.to_in_bounds) c.in_ok-destination.destination (c.in_ok-destination.ensures.right_value, c.in_ok-destination.ensures.place_value, c.in_ok-destination.ensures.to_in_bounds) c.in_ok-combine.combine (c.in_ok-combine.ensures.right_value, c.in_ok-combine.ensures.place_value, c.in_ok-combine.ensures.to_in_bounds) _ c.none_left.ensures (search rules)

pub returns : goal.returns
returns c = operations.search_is c.args.line.now c.in_ok-source.source (c.in_ok-source.ensures.right_value, c.in_ok-source.ensures.place_value, c.in_ok-source.ensures.to_in_bounds) c.in_ok-mask.mask (c.in_ok-mask.ensures.right_value, c.in_ok-mask.ensures.place_value, c.in_ok-mask.ensures.to_in_bounds) c.in_ok-wanted.wanted (c.in_ok-wanted.ensures.right_value, c.in_ok-wanted.ensures.place_value, c.in_ok-wanted.ensures.to_in_bounds) c.in_ok-destination.destination (c.in_ok-destination.ensures.right_value, c.in_ok-destination.ensures.place_value, c.in_ok-destination.ensures.to_in_bounds) c.in_ok-combine.combine (c.in_ok-combine.ensures.right_value, c.in_ok-combine.ensures.place_value, c.in_ok-combine.ensures.to_in_bounds) _ c.none_left.ensures (search rules) c.source_at.ensures c.mask_at.ensures c.wanted_at.ensures c.latches_at.ensures c.combine_at.ensures
