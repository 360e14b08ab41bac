-- Where the checks are passed, the operation's results; where not, the refusal, and nothing has changed.
use mathlib.Core.Path.{sym, ◌∙◌}
use Rattle.array.specs.Operations.{array}
use Rattle.array.proofs.Refusals.{sound, same_xs, same_selectors}
use Rattle.array_wide.proofs.Sweeps.{searched, loaded, wrote}
use Rattle.array_wide.proofs.Answers.{after_search, after_read, after_write}
use Rattle.array_wide.proofs.operate.Goals as goal

-- ---- search

pub mask_of-under-requires : goal.mask_of-under-requires
mask_of-under-requires c = (sound _ _ (sym c.check_call.ensures ∙ c.in_ok-check_call.was)).width

pub search_words-count-requires : goal.search_words-count-requires
search_words-count-requires c =
    let s = sound _ _ (sym c.check_call.ensures ∙ c.in_ok-check_call.was) in (same_xs s, same_selectors s)

pub returns-in-Search : goal.returns-in-Search
returns-in-Search c =
    let a = c.args in
    let o = c.in-Search in
    let w = c.search_words-count in
    let h = sym c.check_call.ensures ∙ c.in_ok-check_call.was in
    let s = searched (array a.width a.ones.now a.xs.now a.selectors.now) a.registers h o.mask _ c.mask_of-under.ensures
    o.source o.wanted o.destination o.combine _ c.data_of-datum.ensures _ _ w.ensures.value w.ensures.selectors_after in
    let q = after_search a.width a.ones.now a.xs.now a.selectors.now a.registers h a.operation _ _ _ _ _ _ _ o.is s.0 s.1 in record {
      value = q.0;
      ones_after = q.1.0;
      xs_after = q.1.1.0;
      selectors_after = q.1.1.1;
    }

-- ---- read

pub mask_of-under-requires-in-Read : goal.mask_of-under-requires-in-Read
mask_of-under-requires-in-Read c = (sound _ _ (sym c.check_call.ensures ∙ c.in_ok-check_call.was)).width

pub read_words-bus-requires : goal.read_words-bus-requires
read_words-bus-requires c =
    let s = sound _ _ (sym c.check_call.ensures ∙ c.in_ok-check_call.was) in (same_xs s, same_selectors s)

pub returns-in-Read : goal.returns-in-Read
returns-in-Read c =
    let a = c.args in
    let o = c.in-Read in
    let b = c.read_words-bus in
    let h = sym c.check_call.ensures ∙ c.in_ok-check_call.was in
    let s = loaded (array a.width a.ones.now a.xs.now a.selectors.now) a.registers h o.mask _ c.mask_of-under-in-Read.ensures
    o.selector o.form o.sink _ _ _ b.result.value _ c.sink_of-old.ensures b.ensures.value_value b.ensures.count_value
    c.filled-value.ensures c.load.ensures in
    let q = after_read a.width a.ones.now a.xs.now a.selectors.now a.registers h a.operation _ _ _ _ _ o.is s in record {
      value = q.0;
      ones_after = q.1.0;
      xs_after = q.1.1.0;
      selectors_after = q.1.1.1;
    }

-- ---- write

pub mask_of-under-requires-in-Write : goal.mask_of-under-requires-in-Write
mask_of-under-requires-in-Write c = (sound _ _ (sym c.check_call.ensures ∙ c.in_ok-check_call.was)).width

pub write_words-count-requires : goal.write_words-count-requires
write_words-count-requires c =
    let s = sound _ _ (sym c.check_call.ensures ∙ c.in_ok-check_call.was) in (same_xs s, same_selectors s)

pub returns-in-Write : goal.returns-in-Write
returns-in-Write c =
    let a = c.args in
    let o = c.in-Write in
    let w = c.write_words-count in
    let h = sym c.check_call.ensures ∙ c.in_ok-check_call.was in
    let s = wrote (array a.width a.ones.now a.xs.now a.selectors.now) a.registers h o.mask _ c.mask_of-under-in-Write.ensures
    o.selector o.form o.kind o.source _ _ _ _ _ _ c.data_of-datum-in-Write.ensures c.fill_ones.ensures c.fill_xs.ensures
    w.ensures.value w.ensures.ones_after w.ensures.xs_after in
    let q = after_write a.width a.ones.now a.xs.now a.selectors.now a.registers h a.operation _ _ _ _ _ _ _ _ o.is s.0 s.1.0 s.1.1 in record {
      value = q.0;
      ones_after = q.1.0;
      xs_after = q.1.1.0;
      selectors_after = q.1.1.1;
    }
