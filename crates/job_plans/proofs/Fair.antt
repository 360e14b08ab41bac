-- What it means that none of 20 to 25 is given: kind by kind, and the bounds that hold for every kind, as unused fields are 0.
use Prim.Native.Nat.{ℕ, ◌+◌, ◌≤◌, ◌<◌}
use mathlib.Core.Path.{◌≡◌, refl, subst}
use mathlib.Core.Bool.{Bool, true, false, not, ◌&&◌, ◌||◌}
use native.Mathlib.Omega.{arith}
use lib.Dec.{ltb, leb, eqb}
use borrow.Author.Tests.{ltb-true, ltb-false, leb-false, eqb-true, eqb-false, not-false}
use Rattle.machine.specs.declared.ResponseBit.{ResponseBit}
use Rattle.machine.specs.declared.Syllable.{Syllable}
use Rattle.machine.specs.declared.Syllable.TheVariants.{A, B, P}
use Rattle.std.specs.Prelude.{Ok}
use Rattle.machine.specs.Machine.{response_bits}
use Rattle.machine.specs.Refusals.{bit_check, apart_check, care_check, in_care}
use Rattle.machine.proofs.Refusals.{else_passed, not_refused}
use Rattle.job_plans.specs.declared.Span.{Span}
use Rattle.job_plans.specs.declared.Job.{Job}
use Rattle.job_plans.specs.Fields.{Kind, greatest, smallest, scaledAdd, product, unknown, kind_of, empty_check, beyond_check, overlaps, overlap_check, extreme_check, scaled_add_check, product_check, used_check_for, used_check, is_zero, unused_zero_for, unused_zero, unused_check}
use Rattle.job_plans.specs.Places.{at_place, extreme_place, scaled_place, product_place, in_table_for, in_table, place_check, held_check}

-- ---- tests taken apart

pub and_true : (x y : Bool) → (x && y) ≡ true → (x ≡ true) × (y ≡ true)
and_true true y h = (refl, h)
and_true false y h = let z : ◌≡◌ {A = ℕ} 0 1 = cc in absurd (omega arith)

-- ---- used fields

pub record Whole (n : ℕ) (s : Span) : Type 0 where
  pub some : 0 < s.width
  pub fits : s.low.0 + s.width ≤ n

pub whole : (n : ℕ) (name : Syllable) (s : Span) → empty_check name s ≡ Ok tt → beyond_check n name s ≡ Ok tt → Whole n s
whole n name s h g = record {
  some = omega (arith, eqb-false s.width 0 (not_refused _ (eqb s.width 0) h));
  fits = ltb-false n (s.low.0 + s.width) (not_refused _ (ltb n (s.low.0 + s.width)) g);
}

pub record Working (care : ℕ) (x : ResponseBit) : Type 0 where
  pub below : x.0 < response_bits
  pub free : in_care care x ≡ false

pub working : (care : ℕ) (x : ResponseBit) → bit_check x ≡ Ok tt → care_check care x ≡ Ok tt → Working care x
working care x h g = record { below = leb-false response_bits x.0 (not_refused _ (leb response_bits x.0) h); free = not_refused _ (in_care care x) g }

pub record ExtremeFields (n : ℕ) (o : Job) : Type 0 where
  pub x_bit : Working o.care o.x
  pub y_bit : Working o.care o.y
  pub apart : o.x.0 ≡ o.y.0 → ⊥
  pub a : Whole n o.a

pub extreme_fields : (n : ℕ) (o : Job) → extreme_check n o ≡ Ok tt → ExtremeFields n o
unfolding extreme_check
extreme_fields n o h =
    let a = else_passed (empty_check A o.a) _ h in
    let b = else_passed (beyond_check n A o.a) _ a.1 in
    let x = else_passed (bit_check o.x) _ b.1 in
    let y = else_passed (bit_check o.y) _ x.1 in
    let d = else_passed (apart_check o.x o.y) _ y.1 in
    let c = else_passed (care_check o.care o.x) (care_check o.care o.y) d.1 in
    record {
      x_bit = working o.care o.x x.0 c.0;
      y_bit = working o.care o.y y.0 c.1;
      apart = eqb-false o.x.0 o.y.0 (not_refused _ (eqb o.x.0 o.y.0) d.0);
      a = whole n A o.a a.0 b.0;
    }

pub record ScaledFields (n : ℕ) (o : Job) : Type 0 where
  pub y_bit : Working o.care o.y
  pub a : Whole n o.a
  pub p : Whole n o.p
  pub apart : overlaps o.p o.a ≡ false

pub scaled_fields : (n : ℕ) (o : Job) → scaled_add_check n o ≡ Ok tt → ScaledFields n o
unfolding scaled_add_check
scaled_fields n o h =
    let a = else_passed (empty_check A o.a) _ h in
    let p = else_passed (empty_check P o.p) _ a.1 in
    let b = else_passed (beyond_check n A o.a) _ p.1 in
    let q = else_passed (beyond_check n P o.p) _ b.1 in
    let d = else_passed (overlap_check o.p A o.a) _ q.1 in
    let y = else_passed (bit_check o.y) (care_check o.care o.y) d.1 in
    record {
      y_bit = working o.care o.y y.0 y.1;
      a = whole n A o.a a.0 b.0;
      p = whole n P o.p p.0 q.0;
      apart = not_refused _ (overlaps o.p o.a) d.0;
    }

pub record ProductFields (n : ℕ) (o : Job) : Type 0 where
  pub both : ScaledFields n o
  pub b : Whole n o.b
  pub apart : overlaps o.p o.b ≡ false

pub product_fields : (n : ℕ) (o : Job) → product_check n o ≡ Ok tt → ProductFields n o
unfolding product_check
product_fields n o h =
    let a = else_passed (empty_check A o.a) _ h in
    let b = else_passed (empty_check B o.b) _ a.1 in
    let p = else_passed (empty_check P o.p) _ b.1 in
    let c = else_passed (beyond_check n A o.a) _ p.1 in
    let d = else_passed (beyond_check n B o.b) _ c.1 in
    let q = else_passed (beyond_check n P o.p) _ d.1 in
    let e = else_passed (overlap_check o.p A o.a) _ q.1 in
    let f = else_passed (overlap_check o.p B o.b) _ e.1 in
    let y = else_passed (bit_check o.y) (care_check o.care o.y) f.1 in
    record {
      both = record {
        y_bit = working o.care o.y y.0 y.1;
        a = whole n A o.a a.0 c.0;
        p = whole n P o.p p.0 q.0;
        apart = not_refused _ (overlaps o.p o.a) e.0;
      };
      b = whole n B o.b b.0 d.0;
      apart = not_refused _ (overlaps o.p o.b) f.0;
    }

-- every job that is not turned down at its start has an A
pub has_a : (n : ℕ) (o : Job) → used_check n o ≡ Ok tt → Whole n o.a
unfolding used_check
has_a n o h = go (kind_of o.kind) h
  where
    go : (k : Kind) → used_check_for k n o ≡ Ok tt → Whole n o.a
    go greatest h = (extreme_fields n o h).a
    go smallest h = (extreme_fields n o h).a
    go scaledAdd h = (scaled_fields n o h).a
    go product h = (product_fields n o h).both.a
    go unknown h = let z : ◌≡◌ {A = ℕ} 0 1 = cc in absurd (omega arith)

-- ---- a held job that is not turned down

pub record Fair (n : ℕ) (o : Job) (k : Kind) : Type 0 where
  pub used : used_check_for k n o ≡ Ok tt
  pub zero : unused_zero_for k o ≡ true
  pub place : in_table_for k o ≡ true

pub fair : (n : ℕ) (o : Job) → held_check n o ≡ Ok tt → Fair n o (kind_of o.kind)
unfolding held_check used_check unused_zero in_table
fair n o h =
    let a = else_passed (used_check_for (kind_of o.kind) n o) _ h in
    let b = else_passed (unused_check o) (place_check o) a.1 in
    record {
      used = a.0;
      zero = not-false _ (not_refused _ (not (unused_zero o)) b.0);
      place = not-false _ (not_refused _ (not (in_table o)) b.1);
    }

-- at its kind
pub fair_as : (n : ℕ) (o : Job) (k : Kind) → held_check n o ≡ Ok tt → kind_of o.kind ≡ k → Fair n o k
fair_as n o k h e = subst (λ (k : Kind). Fair n o k) e (fair n o h)

pub used_fields : (n : ℕ) (o : Job) → held_check n o ≡ Ok tt → used_check n o ≡ Ok tt
unfolding held_check
used_fields n o h = (else_passed (used_check n o) _ h).0

-- ---- its place

extreme_place_lem : (o : Job) → extreme_place o ≡ true → o.i < o.a.width
extreme_place_lem o h = go (eqb o.phase 0) (eqb (o.i + 1) o.a.width) refl h
  where
    go : (s t : Bool) → eqb (o.i + 1) o.a.width ≡ t → (s && t || at_place o && ltb o.i o.a.width) ≡ true → o.i < o.a.width
    go true true e g = omega (arith, eqb-true (o.i + 1) o.a.width e)
    go true false e g = ltb-true _ _ (and_true (at_place o) _ g).1
    go false t e g = ltb-true _ _ (and_true (at_place o) _ g).1

scaled_place_lem : (o : Job) → scaled_place o ≡ true → (o.i < o.a.width) × (o.i < o.p.width)
scaled_place_lem o h =
    let b = and_true _ (ltb o.i o.p.width) h in
    let a = and_true (at_place o) (ltb o.i o.a.width) b.0 in
    (ltb-true _ _ a.1, ltb-true _ _ b.1)

record ProductPlace (o : Job) : Type 0 where
  i : o.i < o.a.width
  j : o.j < o.b.width
  sum : o.i + o.j < o.p.width

product_place_lem : (o : Job) → product_place o ≡ true → ProductPlace o
product_place_lem o h =
    let c = and_true _ (ltb (o.i + o.j) o.p.width) h in
    let b = and_true _ (ltb o.j o.b.width) c.0 in
    let a = and_true (at_place o) (ltb o.i o.a.width) b.0 in
    record { i = ltb-true _ _ a.1; j = ltb-true _ _ b.1; sum = ltb-true _ _ c.1 }

-- ---- the bounds

pub record Room (n : ℕ) (o : Job) : Type 0 where
  pub x : o.x.0 < response_bits
  pub y : o.y.0 < response_bits
  pub a : o.a.low.0 + o.i < n
  pub b : o.b.low.0 + o.j < n
  pub i : o.i < n
  pub j : o.j < n

-- for the adding kinds
pub record Sum (n : ℕ) (o : Job) : Type 0 where
  pub some : 0 < o.p.width
  pub fits : o.p.low.0 + o.p.width ≤ n
  pub sum : o.i + o.j < o.p.width

low_zero : (s : Span) → is_zero s ≡ true → s.low.0 ≡ 0
low_zero s h = eqb-true s.low.0 0 (and_true (eqb s.low.0 0) (eqb s.width 0) h).0

extreme_room : (n : ℕ) (o : Job) → extreme_check n o ≡ Ok tt → unused_zero_for greatest o ≡ true → extreme_place o ≡ true → Room n o
extreme_room n o h g l =
    let f = extreme_fields n o h in
    let c = and_true _ (eqb o.c 0) g in
    let j = and_true _ (eqb o.j 0) c.0 in
    let b = and_true (is_zero o.b) (is_zero o.p) j.0 in
    let zj : o.j ≡ 0 = eqb-true o.j 0 j.1 in
    let zb : o.b.low.0 ≡ 0 = low_zero o.b b.0 in
    let i = extreme_place_lem o l in
    let a = f.a.fits in
    record { x = f.x_bit.below; y = f.y_bit.below; a = omega arith; b = omega arith; i = omega arith; j = omega arith }

scaled_zero : (o : Job) → unused_zero_for scaledAdd o ≡ true → (o.x.0 ≡ 0) × ((o.b.low.0 ≡ 0) × (o.j ≡ 0))
scaled_zero o g =
    let j = and_true _ (eqb o.j 0) g in
    let b = and_true (eqb o.x.0 0) (is_zero o.b) j.0 in
    (eqb-true o.x.0 0 b.0, (low_zero o.b b.1, eqb-true o.j 0 j.1))

pub scaled_sum : (n : ℕ) (o : Job) → Fair n o scaledAdd → Sum n o
scaled_sum n o f =
    let g = scaled_fields n o f.used in
    let z = (scaled_zero o f.zero).1.1 in
    let p = (scaled_place_lem o f.place).1 in
    record { some = g.p.some; fits = g.p.fits; sum = omega arith }

pub product_sum : (n : ℕ) (o : Job) → Fair n o product → Sum n o
product_sum n o f =
    let g = (product_fields n o f.used).both in
    record { some = g.p.some; fits = g.p.fits; sum = (product_place_lem o f.place).sum }

pub room_for : (n : ℕ) (o : Job) (k : Kind) → Fair n o k → Room n o
room_for n o greatest f = extreme_room n o f.used f.zero f.place
room_for n o smallest f = extreme_room n o f.used f.zero f.place
room_for n o scaledAdd f =
    let g = scaled_fields n o f.used in
    let z = scaled_zero o f.zero in
    let zx = z.0 in
    let zb = z.1.0 in
    let zj = z.1.1 in
    let p = (scaled_place_lem o f.place).0 in
    let a = g.a.fits in
    record { x = omega arith; y = g.y_bit.below; a = omega arith; b = omega arith; i = omega arith; j = omega arith }
room_for n o product f =
    let g = product_fields n o f.used in
    let zx = eqb-true o.x.0 0 (and_true (eqb o.x.0 0) (eqb o.c 0) f.zero).0 in
    let p = product_place_lem o f.place in
    let pi = p.i in
    let pj = p.j in
    let a = g.both.a.fits in
    let b = g.b.fits in
    record { x = omega arith; y = g.both.y_bit.below; a = omega arith; b = omega arith; i = omega arith; j = omega arith }
room_for n o unknown f = let h = f.used in let z : ◌≡◌ {A = ℕ} 0 1 = cc in absurd (omega arith)

pub room : (n : ℕ) (o : Job) → held_check n o ≡ Ok tt → Room n o
room n o h = room_for n o (kind_of o.kind) (fair n o h)
