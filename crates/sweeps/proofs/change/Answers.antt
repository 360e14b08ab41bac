use Rattle.std.proofs.Common.{refl, ◌∙◌, arith, rules}
use Rattle.sweeps.specs.Rules.{takes}
use Rattle.sweeps.proofs.Along.{start, finish, none_yet, all_counted}
use Rattle.sweeps.proofs.Blocks.{length_between}
use Rattle.sweeps.proofs.Searched.{rewritten, chosen_counted}
use Rattle.sweeps.proofs.change.Goals as goal

pub loop-i-init : goal.loop-i-init
loop-i-init c = (start _ _ _, none_yet _ _ _, refl)

pub choices-requires : goal.choices-requires
choices-requires c =
    let e = c.block_end-e in (
      omega (arith, e.ensures, length_between c.loop-i.i e.result c.args.responses.now (search rules)),
      c.loop-i.invariant.2,
    )

pub change_block-requires : goal.change_block-requires
change_block-requires c =
    let e = c.block_end-e in (
      omega (arith, e.ensures, length_between c.loop-i.i e.result c.loop-i.words (search rules)),
      c.choices.ensures.by_index.1,
    )

pub loop-i-preserved : goal.loop-i-preserved
loop-i-preserved c =
    let a = c.args in
    let e = c.block_end-e in
    let d = c.choices in
    let g = c.change_block in
    let z = c.from-n in (
      rewritten c.loop-i.i e.result (search rules) a.responses.now a.words.now a.responses.now c.loop-i.words (search rules) (search rules) refl
          a.write a.add a.q a.p d.new.g g.new.words c.loop-i.invariant.0 (omega (arith, e.ensures, d.ensures.by_index.1)) d.ensures.by_index.0 g.ensures,
      chosen_counted c.loop-i.i e.result (search rules) a.responses.now a.words.now a.responses.now c.loop-i.words (search rules) (search rules) refl
          a.p c.loop-i.n z.result c.loop-i.invariant.1 (z.ensures ∙ d.ensures.value),
      d.ensures.by_index.1,
    )

pub returns : goal.returns
returns c =
    let a = c.args in
    let w = c.loop-i.invariant.0 in record {
      value = all_counted (takes a.p) a.responses.now a.words.now c.loop-i.n c.loop-i.i c.loop-i.invariant.1 w.first w.second (search rules);
      words_after = finish _ _ _ _ c.loop-i.i w (search rules);
    }
