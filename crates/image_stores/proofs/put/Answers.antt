use Prim.Native.Nat.{◌+◌}
use mathlib.Core.Path.{◌≡◌, refl, sym, ◌∙◌}
use native.Mathlib.Omega.{arith}
use lib.ListN.{length-set}
use borrow.Author.Rules.{rules}
use Rattle.image_stores.proofs.Stored.{put_none, put_turn}
use Rattle.image_stores.proofs.put.Goals as goal

pub loop-j-preserved : goal.loop-j-preserved
loop-j-preserved c =
    let l = c.loop-j in
    let a = c.args in
    (simp length-set l.invariant.0, l.invariant.1 ∙ put_turn l.out a.at a.k l.rest l.j (search rules))

pub returns : goal.returns
returns c =
    let a = c.args in
    let l = c.loop-j in
    let e : l.j ≡ a.k = omega arith in
    (refl, sym (rw e at l.invariant.1 ∙ put_none l.out (a.at + a.k) a.k l.rest))
