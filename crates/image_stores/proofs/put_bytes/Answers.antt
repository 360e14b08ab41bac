use Prim.Native.Nat.{◌+◌}
use mathlib.Core.Path.{◌≡◌, refl, sym, ◌∙◌}
use native.Mathlib.Omega.{arith}
use native.Mathlib.Nat.{add-zero}
use lib.ListN.{length, length-set}
use borrow.Author.Rules.{rules}
use Rattle.image_stores.proofs.Stored.{list_turn, list_none}
use Rattle.image_stores.proofs.put_bytes.Goals as goal

pub loop-i-init : goal.loop-i-init
loop-i-init c = (refl, rw add-zero)

pub loop-i-preserved : goal.loop-i-preserved
loop-i-preserved c =
    let l = c.loop-i in
    let a = c.args in
    (simp length-set (omega arith), sym (list_turn l.out a.at a.list.now l.i (search rules)) ∙ l.invariant.1)

pub returns : goal.returns
returns c =
    let a = c.args in
    let l = c.loop-i in
    let e : l.i ≡ length a.list.now = omega arith in
    (refl, sym (list_none l.out (a.at + length a.list.now) a.list.now) ∙ rw e at l.invariant.1)
