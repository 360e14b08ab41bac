use mathlib.Core.Path.{◌≡◌, sym, ap, ◌∙◌}
use Prim.Native.Nat.{ℕ, ◌+◌}
use native.Mathlib.Nat.{mod-lt}
use native.Mathlib.Omega.{arith}
use lib.Pow.{pow_pos}
use Rattle.job_plans.specs.declared.Command.{Command}
use Rattle.job_plans.specs.Fields.{Kind, scaledAdd, product, kind_of}
use Rattle.job_plans.specs.Commands.{plus, second}
use Rattle.job_plans.proofs.Fair.{room, fair_as, scaled_sum, product_sum}
use Rattle.job_plans.proofs.Shifts as shifts
use borrow.Author.Rules.{rules}
use Rattle.jobs.proofs.commands.second.Goals as goal

pub scaled-requires : goal.scaled-requires
scaled-requires c =
    let g = scaled_sum c.args.n c.args.o (fair_as c.args.n c.args.o scaledAdd c.requires.o_value (search rules)) in
    (omega (arith, g.sum), omega (arith, g.fits, c.requires.n_bound))

pub plus-requires : goal.plus-requires
plus-requires c =
    let g = scaled_sum c.args.n c.args.o (fair_as c.args.n c.args.o scaledAdd c.requires.o_value (search rules)) in record {
      y_lt_response_bits = (room c.args.n c.args.o c.requires.o_value).y;
      width_nonzero = (g.some, omega (arith, g.fits, c.requires.n_bound), rw c.scaled.ensures (mod-lt _ (pow_pos c.args.o.p.width)));
    }

pub scaled-requires-in-Ok-Product : goal.scaled-requires-in-Ok-Product
scaled-requires-in-Ok-Product c =
    let g = product_sum c.args.n c.args.o (fair_as c.args.n c.args.o product c.requires.o_value (search rules)) in
    (g.sum, omega (arith, g.fits, c.requires.n_bound))

pub plus-requires-in-Ok-Product : goal.plus-requires-in-Ok-Product
plus-requires-in-Ok-Product c =
    let g = product_sum c.args.n c.args.o (fair_as c.args.n c.args.o product c.requires.o_value (search rules)) in record {
      y_lt_response_bits = (room c.args.n c.args.o c.requires.o_value).y;
      width_nonzero = (g.some, omega (arith, g.fits, c.requires.n_bound), rw c.scaled-in-Ok-Product.ensures (mod-lt _ (pow_pos c.args.o.p.width)));
    }

pub returns-in-Ok-Product : goal.returns-in-Ok-Product
returns-in-Ok-Product c =
    let o = c.args.o in
    let k : kind_of o.kind ≡ product = search rules in
    let s = product_sum c.args.n o (fair_as c.args.n o product c.requires.o_value k) in
    c.plus-in-Ok-Product.ensures
    ∙ ap {B = Command} (λ (v : ℕ). plus o.y o.p v) (c.scaled-in-Ok-Product.ensures ∙ shifts.one_shifted (o.i + o.j) o.p.width s.sum)
    ∙ ap (λ (k : Kind). second k o) (sym k)
