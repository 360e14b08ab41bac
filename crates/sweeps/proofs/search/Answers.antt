use Rattle.std.proofs.Common.{refl, ◌∙◌, arith, rules}
use Rattle.sweeps.specs.Rules.{found}
use Rattle.sweeps.proofs.Along.{start, finish, none_yet, all_counted}
use Rattle.sweeps.proofs.Blocks.{length_between}
use Rattle.sweeps.proofs.Searched.{searched}
use Rattle.sweeps.proofs.search.Goals as goal

pub loop-i-init : goal.loop-i-init
loop-i-init c = (start _ _ _, none_yet _ _ _, refl)

pub flags-requires : goal.flags-requires
flags-requires c = (
  omega (arith, length_between c.loop-i.i c.block_end-e.result c.args.words.now (search rules)),
  c.loop-i.invariant.2,
)

pub marks-requires : goal.marks-requires
marks-requires c = (
  omega (arith, length_between c.loop-i.i c.block_end-e.result c.loop-i.responses (search rules)),
  c.flags.ensures.1,
)

pub loop-i-preserved : goal.loop-i-preserved
loop-i-preserved c =
    let a = c.args in
    let f = c.flags in
    let b = c.marks in
    let e = c.block_end-e in
    let d =
    searched c.loop-i.i e.result (search rules) a.words.now a.responses.now a.words.now c.loop-i.responses (search rules) (search rules) refl
    a.m a.p f.new.h b.new.responses c.loop-i.n c.from-n.result c.loop-i.invariant.0 c.loop-i.invariant.1
    (omega (arith, e.ensures, f.ensures.1)) f.ensures.0 b.ensures.responses_after (c.from-n.ensures ∙ b.ensures.value) in
    (d.0, d.1, f.ensures.1)

pub returns : goal.returns
returns c =
    let a = c.args in
    let w = c.loop-i.invariant.0 in record {
      value = all_counted (found a.m a.p) a.words.now a.responses.now c.loop-i.n c.loop-i.i c.loop-i.invariant.1 w.first w.second (search rules);
      responses_after = finish _ _ _ _ c.loop-i.i w (search rules);
    }
