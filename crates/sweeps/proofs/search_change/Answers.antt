use Rattle.std.proofs.Common.{refl, ◌∙◌, arith, rules}
use Rattle.sweeps.specs.Rules.{found}
use Rattle.sweeps.proofs.Along.{start, finish, none_yet, all_counted}
use Rattle.sweeps.proofs.Blocks.{length_between}
use Rattle.sweeps.proofs.Searched.{searched, rewritten}
use Rattle.sweeps.proofs.search_change.Goals as goal

pub loop-i-init : goal.loop-i-init
loop-i-init c = (start _ _ _, start _ _ _, none_yet _ _ _, refl, refl)

pub flags-requires : goal.flags-requires
flags-requires c =
    let e = c.block_end-e in (
      omega (arith, e.ensures, length_between c.loop-i.i e.result c.loop-i.words (search rules)),
      c.loop-i.invariant.3,
    )

pub choices-requires : goal.choices-requires
choices-requires c =
    let e = c.block_end-e in (
      omega (
        arith,
        e.ensures,
        length_between c.loop-i.i e.result c.loop-i.responses (omega (arith, e.ensures, c.min-all.ensures, c.loop-i.invariant.1.long)),
      ),
      c.loop-i.invariant.4,
    )

pub change_block-requires : goal.change_block-requires
change_block-requires c =
    let e = c.block_end-e in (
      omega (
        arith,
        e.ensures,
        length_between c.loop-i.i e.result c.loop-i.words (omega (arith, e.ensures, c.min-all.ensures, c.loop-i.invariant.0.long)),
      ),
      c.choices.ensures.by_index.1,
    )

pub marks-requires : goal.marks-requires
marks-requires c =
    let e = c.block_end-e in (
      omega (
        arith,
        e.ensures,
        length_between c.loop-i.i e.result c.loop-i.responses (omega (arith, e.ensures, c.min-all.ensures, c.loop-i.invariant.1.long)),
      ),
      c.flags.ensures.1,
    )

pub overflow_add-n : goal.overflow_add-n
overflow_add-n c =
    let a = c.args in
    let f = c.flags in
    let b = c.marks in
    let e = c.block_end-e in
    let d =
    searched c.loop-i.i e.result (search rules) a.words.now a.responses.now c.loop-i.words c.loop-i.responses (omega (arith, e.ensures, c.min-all.ensures))
    (omega (arith, e.ensures, c.min-all.ensures)) c.loop-i.invariant.0.left a.m a.p f.new.h b.new.responses c.loop-i.n c.from-n.result c.loop-i.invariant.1 c.loop-i.invariant.2
    (omega (arith, e.ensures, f.ensures.1)) f.ensures.0 b.ensures.responses_after (c.from-n.ensures ∙ b.ensures.value) in
    omega (arith, d.1.few, e.ensures, c.min-all.ensures)

pub loop-i-preserved : goal.loop-i-preserved
loop-i-preserved c =
    let a = c.args in
    let f = c.flags in
    let b = c.marks in
    let e = c.block_end-e in
    let k = c.choices in
    let g = c.change_block in
    let d =
    searched c.loop-i.i e.result (search rules) a.words.now a.responses.now c.loop-i.words c.loop-i.responses (omega (arith, e.ensures, c.min-all.ensures))
    (omega (arith, e.ensures, c.min-all.ensures)) c.loop-i.invariant.0.left a.m a.p f.new.h b.new.responses c.loop-i.n c.from-n.result c.loop-i.invariant.1 c.loop-i.invariant.2
    (omega (arith, e.ensures, f.ensures.1)) f.ensures.0 b.ensures.responses_after (c.from-n.ensures ∙ b.ensures.value) in (
      rewritten c.loop-i.i e.result (search rules) a.responses.now a.words.now c.loop-i.responses c.loop-i.words
          (omega (arith, e.ensures, c.min-all.ensures)) (omega (arith, e.ensures, c.min-all.ensures)) c.loop-i.invariant.1.left
          a.write a.add a.q a.p k.new.g g.new.words c.loop-i.invariant.0 (omega (arith, e.ensures, k.ensures.by_index.1)) k.ensures.by_index.0 g.ensures,
      d.0,
      d.1,
      f.ensures.1,
      k.ensures.by_index.1,
    )

pub returns : goal.returns
returns c =
    let a = c.args in
    let w = c.loop-i.invariant.1 in record {
      value = all_counted (found a.m a.p) a.words.now a.responses.now c.loop-i.n c.loop-i.i c.loop-i.invariant.2 w.first w.second (search rules);
      words_after = finish _ _ _ _ c.loop-i.i c.loop-i.invariant.0 (search rules);
      responses_after = finish _ _ _ _ c.loop-i.i w (search rules);
    }
