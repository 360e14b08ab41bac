-- 5: two codes stand in a syllable exactly where SC1 and SC2 are mixed in it, two settings where SC3's cared bits and all cared bits are.
use native.Mathlib.Omega.{arith}
use lib.Bits.{bit_or, or_lt, and_le_r}
use Rattle.machine.specs.Refusals.{bad_codes}
use Rattle.masks.proofs.Words.{fit_tops}
use Rattle.wide.proofs.Accepted.{two_codes}
use Rattle.wide.proofs.bad_codes.Goals as goal

pub mixed-codes-requires : goal.mixed-codes-requires
mixed-codes-requires c =
    record {
      topped = fit_tops _ c.args.panel _ c.requires c.tops_of-t.ensures;
      x_bound = (c.requires.sc1, c.requires.sc2);
    }

pub mixed-settings-requires : goal.mixed-settings-requires
mixed-settings-requires c =
    let p = c.args.panel in
    let care = or_lt c.args.width p.sc1 p.sc2 c.requires.sc1 c.requires.sc2 in record {
      topped = fit_tops _ p _ c.requires c.tops_of-t.ensures;
      x_bound = (omega (arith, and_le_r p.sc3 (bit_or p.sc1 p.sc2), care), care);
    }

pub returns-then-lines : goal.returns-then-lines
returns-then-lines c =
    two_codes c.args.width c.args.panel c.args.lines c.tops_of-t.result _ _ c.requires
    c.if-lines.true c.tops_of-t.ensures c.mixed-codes.ensures c.mixed-settings.ensures

pub returns-else-lines : goal.returns-else-lines
unfolding bad_codes
returns-else-lines c = rw c.if-lines.false
