use Rattle.std.proofs.Common.{◌≡◌, ℕ, Bool, get_or, ap, ◌∙◌, arith, rules}
use Rattle.sweeps.specs.declared.Tags.{Tags}
use Rattle.sweeps.specs.Rules.{hit, mark, put}
use Rattle.sweeps.proofs.Along.{start, step, here, finish, none_yet, step_counts, all_counted, byte_is, byte_le}
use Rattle.sweeps.proofs.marks.Goals as goal

marked_is : (p : Tags) (x r : ℕ) {y : ℕ} {t : Bool} → y ≡ put p.target t r → t ≡ hit p x r → y ≡ mark p x r
unfolding mark
marked_is p x r e g = e ∙ ap (λ (b : Bool). put p.target b r) g

pub loop-i-init : goal.loop-i-init
loop-i-init c = (start _ _ _, none_yet _ _ _)

pub overflow_add-n : goal.overflow_add-n
overflow_add-n c = omega (arith, byte_le c.hit_of-x.result)

pub loop-i-preserved : goal.loop-i-preserved
loop-i-preserved c =
    let a = c.args in
    let i = c.loop-i.i in
    let r = c.loop-i.responses in
    let w = c.loop-i.invariant.0 in
    let x = c.hit_of-x in (
      step (mark a.p) a.h.now a.responses.now r i w c.put_in.result (search rules) (search rules)
          (marked_is a.p (get_or a.h.now i 0) (get_or r i 0) c.put_in.ensures x.ensures),
      rw (byte_is x.result)
          (step_counts (hit a.p) a.h.now a.responses.now c.loop-i.n i x.result c.loop-i.invariant.1 (search rules) (search rules)
          (x.ensures ∙ ap (hit a.p (get_or a.h.now i 0)) (here (mark a.p) a.h.now a.responses.now r i w))),
    )

pub returns : goal.returns
returns c =
    let a = c.args in
    let w = c.loop-i.invariant.0 in record {
      value = all_counted (hit a.p) a.h.now a.responses.now c.loop-i.n c.loop-i.i c.loop-i.invariant.1 w.first w.second (search rules);
      responses_after = finish _ _ _ _ c.loop-i.i w (search rules);
    }
