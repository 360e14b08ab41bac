-- The command of a job that 20 to 25 do not turn down is never refused as a pulse, on a machine that 1 to 3 do not.
use Prim.Native.Nat.{ℕ, ◌+◌, ◌-◌, ◌*◌, ◌%◌, ◌^◌, ◌≤◌, ◌<◌}
use mathlib.Core.Path.{◌≡◌, refl}
use mathlib.Core.Bool.{Bool, true, false}
use native.Mathlib.Nat.{mod-lt}
use native.Mathlib.Omega.{arith}
use lib.Dec.{eqb}
use lib.ListN.{length}
use lib.Bits.{bit_or, or_lt}
use lib.Pow.{pow_pos, pow-lt, pow_mono, shl_lt}
use borrow.Author.Tests.{lt-leb}
use Rattle.laws.specs.Bits.{pick}
use Rattle.machine.specs.declared.ResponseBit.{ResponseBit}
use Rattle.std.specs.Prelude.{Ok}
use Rattle.machine.specs.Machine.{Machine, syllables}
use Rattle.machine.specs.Refusals.{too_wide, bad_panel, bad_codes, bad_lines, bad_address, machine_check, pulse_check}
use Rattle.machine.proofs.Search.{all_unmixed}
use Rattle.job_plans.specs.declared.Span.{Span}
use Rattle.job_plans.specs.declared.Job.{Job}
use Rattle.job_plans.specs.declared.Command.{Command}
use Rattle.job_plans.specs.Fields.{Kind, greatest, smallest, scaledAdd, product, unknown, kind_of}
use Rattle.job_plans.specs.Places.{no_bit, held_check}
use Rattle.job_plans.specs.Commands.{look, plus, trial, second, bit_of, command}
use Rattle.job_plans.proofs.Fair.{Fair, fair, room_for, scaled_sum, product_sum}

-- nothing of 4 to 7
pub record Taken (n : ℕ) (k : Command) : Type 0 where
  pub panel : bad_panel n k.panel ≡ false
  pub codes : bad_codes n k.panel k.lines ≡ false
  pub lines : bad_lines k.lines ≡ false
  pub address : (m : ℕ) → bad_address m k.panel k.lines ≡ false

narrow : (n x : ℕ) → x < 2 ^ n → too_wide n x ≡ false
narrow n x h = lt-leb (2 ^ n) x h

-- ---- the two forms

look_taken : (n key care : ℕ) (t : ResponseBit) (mask comp : ℕ) → mask < 2 ^ n → comp < 2 ^ n → Taken n (look key care t mask comp)
unfolding bad_panel bad_codes bad_lines bad_address
look_taken n key care t mask comp h g =
    record {
      panel = rw (narrow n comp g, narrow n mask h, narrow n 0 (pow_pos n));
      codes = rw (all_unmixed (look key care t mask comp).panel refl refl (syllables n 0));
      lines = refl;
      address = λ m. refl;
    }

plus_taken : (n : ℕ) (y : ResponseBit) (s : Span) (v : ℕ) → 0 < s.width → s.low.0 + s.width ≤ n → v < 2 ^ s.width → Taken n (plus y s v)
unfolding bad_panel bad_codes bad_lines bad_address
plus_taken n y s v h g l =
    let e : s.width + s.low.0 ≤ n = omega arith in
    let a : v * 2 ^ s.low.0 < 2 ^ n = omega (arith, shl_lt s.width s.low.0 l, pow_mono e) in
    let b : 2 ^ (s.low.0 + s.width - 1) < 2 ^ n = pow-lt (omega arith) in
    let c : 2 ^ (s.width + s.low.0) - 2 ^ s.low.0 < 2 ^ n = omega (arith, pow_mono e, pow_pos s.low.0) in
    record {
      panel = rw (narrow n (v * 2 ^ s.low.0) a, narrow n (2 ^ (s.low.0 + s.width - 1)) b, narrow n 0 (pow_pos n), narrow n (2 ^ (s.width + s.low.0) - 2 ^ s.low.0) c);
      codes = refl;
      lines = refl;
      address = λ m. refl;
    }

-- ---- a job's command

module _ (n : ℕ) (o : Job) where
  quiet : (key care : ℕ) (t : ResponseBit) → Taken n (look key care t 0 0)
  quiet key care t = look_taken n key care t 0 0 (pow_pos n) (pow_pos n)

  abbrev a_bit : ℕ
  a_bit = bit_of o.a o.i

  abbrev b_bit : ℕ
  b_bit = bit_of o.b o.j

  trial_taken : (k : Kind) → Fair n o k → Taken n (trial k o)
  trial_taken greatest f = let h = pow-lt (room_for n o greatest f).a in look_taken n (2 ^ o.x.0) (2 ^ o.x.0) o.y a_bit a_bit h h
  trial_taken smallest f = look_taken n (2 ^ o.x.0) (2 ^ o.x.0) o.y a_bit 0 (pow-lt (room_for n o smallest f).a) (pow_pos n)
  trial_taken scaledAdd f = let h = pow-lt (room_for n o scaledAdd f).a in look_taken n o.key o.care o.y a_bit a_bit h h
  trial_taken product f =
      let r = room_for n o product f in
      let h = or_lt n a_bit b_bit (pow-lt r.a) (pow-lt r.b) in
      look_taken n o.key o.care o.y (bit_or a_bit b_bit) (bit_or a_bit b_bit) h h
  trial_taken unknown f = quiet 0 0 no_bit

  second_taken : (k : Kind) → Fair n o k → Taken n (second k o)
  second_taken greatest f = quiet (2 ^ o.y.0) (2 ^ o.y.0) o.x
  second_taken smallest f = quiet (2 ^ o.y.0) (2 ^ o.y.0) o.x
  second_taken scaledAdd f =
      let s = scaled_sum n o f in
      plus_taken n o.y o.p (o.c * 2 ^ o.i % 2 ^ o.p.width) s.some s.fits (mod-lt _ (pow_pos o.p.width))
  second_taken product f = let s = product_sum n o f in plus_taken n o.y o.p (2 ^ (o.i + o.j)) s.some s.fits (pow-lt s.sum)
  second_taken unknown f = quiet 0 0 no_bit

  either : (b : Bool) (x y : Command) → Taken n x → Taken n y → Taken n (pick b x y)
  either true x y h g = h
  either false x y h g = g

  pub taken : held_check n o ≡ Ok tt → Taken n (command o)
  unfolding command
  taken h =
      let f = fair n o h in
      either (eqb o.phase 0) _ _ (quiet o.key o.care o.x)
      (either (eqb o.phase 1) _ _ (trial_taken (kind_of o.kind) f) (second_taken (kind_of o.kind) f))

pub passes : (m : Machine) (o : Job) → machine_check m ≡ Ok tt → held_check m.width o ≡ Ok tt → pulse_check m (command o).panel (command o).lines ≡ Ok tt
unfolding pulse_check
passes m o h g =
    let t = taken m.width o g in rw (h, t.panel, t.codes, t.lines, t.address (length m.words))
