-- What an accepted start shows of a job's used fields.
use Prim.Native.Nat.{ℕ, ◌+◌, ◌<◌}
use mathlib.Core.Path.{◌≡◌, refl}
use mathlib.Core.Bool.{Bool, true, false, ◌&&◌}
use mathlib.Core.Logic.{inl, inr}
use native.Mathlib.Omega.{arith}
use lib.Dec.{ltb}
use borrow.Author.Tests.{ltb-false, eqb-false}
use Rattle.std.specs.Prelude.{Ok}
use Rattle.laws.specs.Bits.{bit}
use Rattle.machine.specs.declared.ResponseBit.{ResponseBit}
use Rattle.machine.specs.Machine.{response_bits}
use Rattle.job_plans.specs.declared.Span.{Span}
use Rattle.job_plans.specs.declared.Job.{Job}
use Rattle.job_plans.specs.Fields.{overlaps, extreme_check, scaled_add_check, product_check}
use Rattle.job_plans.proofs.Fair as fair
use Rattle.ends.specs.Ends.{Outside}

-- a syllable of the word
abbrev pub Inside : ℕ → Span → Type 0
Inside n s = fair.Whole n s

-- a response bit that care does not have
pub record Working (care : ℕ) (x : ResponseBit) : Type 0 where
  pub bit_lt : x.0 < response_bits
  pub free : bit care x.0 ≡ 0

-- no bit of A is a bit of P
abbrev pub Apart : Span → Span → Type 0
Apart p a = (i : ℕ) → i < a.width → Outside p (a.low.0 + i)

working : (care : ℕ) (x : ResponseBit) → fair.Working care x → Working care x
working care x w = record { bit_lt = w.below; free = omega (arith, eqb-false (bit care x.0) 1 w.free) }

apart : (p a : Span) → overlaps p a ≡ false → Apart p a
apart p a h i g = go (ltb p.low.0 (a.low.0 + a.width)) refl h
  where
    go : (t : Bool) → ltb p.low.0 (a.low.0 + a.width) ≡ t → (t && ltb a.low.0 (p.low.0 + p.width)) ≡ false → Outside p (a.low.0 + i)
    go true e f = inr (omega (arith, ltb-false a.low.0 (p.low.0 + p.width) f))
    go false e f = inl (omega (arith, ltb-false p.low.0 (a.low.0 + a.width) e))

pub record ExtremeFields (n : ℕ) (o : Job) : Type 0 where
  pub x_works : Working o.care o.x
  pub y_works : Working o.care o.y
  pub differ : o.x.0 ≡ o.y.0 → ⊥
  pub a : Inside n o.a

pub extreme_fields : (n : ℕ) (o : Job) → extreme_check n o ≡ Ok tt → ExtremeFields n o
extreme_fields n o h =
    let f = fair.extreme_fields n o h in
    record { x_works = working o.care o.x f.x_bit; y_works = working o.care o.y f.y_bit; differ = f.apart; a = f.a }

pub record AddFields (n : ℕ) (o : Job) : Type 0 where
  pub y_works : Working o.care o.y
  pub a : Inside n o.a
  pub p : Inside n o.p
  pub a_apart : Apart o.p o.a

adding : (n : ℕ) (o : Job) → fair.ScaledFields n o → AddFields n o
adding n o f = record { y_works = working o.care o.y f.y_bit; a = f.a; p = f.p; a_apart = apart o.p o.a f.apart }

pub add_fields : (n : ℕ) (o : Job) → scaled_add_check n o ≡ Ok tt → AddFields n o
add_fields n o h = adding n o (fair.scaled_fields n o h)

pub record ProductFields (n : ℕ) (o : Job) : Type 0 where
  pub both : AddFields n o
  pub b : Inside n o.b
  pub b_apart : Apart o.p o.b

pub product_fields : (n : ℕ) (o : Job) → product_check n o ≡ Ok tt → ProductFields n o
product_fields n o h =
    let f = fair.product_fields n o h in
    record { both = adding n o f.both; b = f.b; b_apart = apart o.p o.b f.apart }
