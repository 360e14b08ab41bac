-- What the sweeps promise by rule is what the machine's definitions say, with search not raised.
use Prim.Native.Nat.{ℕ, ◌^◌, ◌<◌}
use native.Mathlib.Omega.{arith}
use lib.ListN.{get_or}
use Rattle.machine.specs.Machine.{response_bits}
use Rattle.wide.proofs.Swept.{words_change, selected_count, targets_flip, responses_stay}
use Rattle.wide.proofs.sweep_others.Goals as goal

pub returns-then-lines : goal.returns-then-lines
returns-then-lines c =
    let a = c.args in
    let care : a.panel.care < 2 ^ response_bits = omega (arith, c.well_formed) in
    let target : a.panel.target < 2 ^ response_bits = omega (arith, c.well_formed) in
    let bytes : (j : ℕ) → get_or a.responses.now j 0 < 2 ^ response_bits = λ j. omega (arith, c.slice_known-2-1.given j) in
    let t = c.make_tags-tags in
    let q = c.make_changes-changes in
    let w = c.change-n in record {
      value = selected_count a.width a.panel a.lines a.words.now a.responses.now c.requires.accepted care target bytes c.requires.search_value t.result t.ensures w.ensures.value;
      words_after = words_change a.width a.panel a.lines a.words.now a.responses.now c.requires.accepted care target bytes q.result t.result q.ensures t.ensures w.ensures.words_after;
      responses_after = targets_flip a.width a.panel a.lines a.words.now a.responses.now c.requires.accepted care target bytes c.requires.search_value t.result t.ensures c.if-lines.true c.flip.ensures;
    }

pub returns-else-lines : goal.returns-else-lines
returns-else-lines c =
    let a = c.args in
    let care : a.panel.care < 2 ^ response_bits = omega (arith, c.well_formed) in
    let target : a.panel.target < 2 ^ response_bits = omega (arith, c.well_formed) in
    let bytes : (j : ℕ) → get_or a.responses.now j 0 < 2 ^ response_bits = λ j. omega (arith, c.slice_known-2-1.given j) in
    let t = c.make_tags-tags in
    let q = c.make_changes-changes in
    let w = c.change-n in record {
      value = selected_count a.width a.panel a.lines a.words.now a.responses.now c.requires.accepted care target bytes c.requires.search_value t.result t.ensures w.ensures.value;
      words_after = words_change a.width a.panel a.lines a.words.now a.responses.now c.requires.accepted care target bytes q.result t.result q.ensures t.ensures w.ensures.words_after;
      responses_after = responses_stay a.width a.panel a.lines a.words.now a.responses.now c.requires.accepted care target bytes c.requires.search_value c.if-lines.false;
    }
