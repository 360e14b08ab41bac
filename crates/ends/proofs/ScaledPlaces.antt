-- The places of a scaled add: one for each bit of A below P's width.
use Prim.Native.Nat.{ℕ, zero, suc, ◌+◌, ◌*◌, ◌%◌, ◌^◌, ◌≤◌, ◌<◌, min}
use mathlib.Core.Path.{◌≡◌, refl, ap, ◌∙◌}
use mathlib.Core.Bool.{Bool, true, false, ◌&&◌, ◌||◌}
use mathlib.Core.List.{List, [], ◌∷◌}
use native.Mathlib.Nat.{mod-lt}
use native.Mathlib.Numerals.{add-one}
use native.Mathlib.Omega.{arith}
use lib.Dec.{ltb, eqb}
use lib.ListN.{length}
use lib.Pow.{pow_pos}
use borrow.Author.Tests.{lt-ltb, le-ltb, ltb-true}
use Rattle.std.specs.Prelude.{Ok, Some, None}
use Rattle.laws.specs.Bits.{bit, pick}
use Rattle.job_plans.specs.declared.Job.{Job}
use Rattle.job_plans.specs.Fields.{scaledAdd, kind_of, is_zero, scaled_add_check, used_check, unused_zero}
use Rattle.job_plans.specs.Places.{in_table, held_check, moved, next_above, next}
use Rattle.job_plans.specs.Commands.{command, bit_of}
use Rattle.ends.proofs.Agreeing.{agrees_one, one_here}
use Rattle.ends.proofs.Fields.{AddFields, add_fields}
use Rattle.ends.proofs.Visits.{Stop, start, Good, Route}

-- "search A's bit i exact 1 under the criterion, target Y; multiadd c·2^i mod 2^p into P under Y=1"
abbrev pub stop : Job → ℕ → Stop
stop b i = record {
  i = i;
  j = 0;
  mask = bit_of b.a i;
  opens = λ w. eqb (bit w (b.a.low.0 + i)) 1;
  value = b.c * 2 ^ i % 2 ^ b.p.width;
}

-- k places from i up
unfoldable pub ups : Job → ℕ → ℕ → List Stop
ups b i zero = []
ups b i (suc k) = stop b i ∷ ups b (suc i) k

-- "below the smaller of the widths a and p"
abbrev pub lesser : Job → ℕ
lesser b = min b.a.width b.p.width

pub ups_length : (b : Job) (i k : ℕ) → length (ups b i k) ≡ k
unfolding ups
ups_length b i zero = refl
ups_length b i (suc k) = ap suc (ups_length b (suc i) k)

-- the place after the last of a row
pub above_is : (b : Job) (f i j : ℕ) (t : Bool) → (ltb (suc i) b.a.width && ltb (suc i) b.p.width) ≡ t
    → next_above (moved b f i j) ≡ pick t (Some (moved b 1 (suc i) 0)) None
above_is b f i j t e = rw (add-one i, e)

pub above_more : (b : Job) (f i j : ℕ) → suc i < lesser b → next_above (moved b f i j) ≡ Some (moved b 1 (suc i) 0)
above_more b f i j h =
    above_is b f i j true (rw (lt-ltb (suc i) b.a.width (omega arith), lt-ltb (suc i) b.p.width (omega arith)))

pub above_none : (b : Job) (f i j : ℕ) → lesser b ≤ suc i → next_above (moved b f i j) ≡ None
above_none b f i j h = above_is b f i j false (go (ltb (suc i) b.a.width) refl)
  where
    go : (t : Bool) → ltb (suc i) b.a.width ≡ t → (t && ltb (suc i) b.p.width) ≡ false
    go true e = le-ltb (suc i) b.p.width (omega (arith, ltb-true (suc i) b.a.width e))
    go false e = refl

module _ (n : ℕ) (b : Job) (kind : kind_of b.kind ≡ scaledAdd) (used : scaled_add_check n b ≡ Ok tt) (clear : (eqb b.x.0 0 && is_zero b.b) ≡ true) where
  fields : AddFields n b
  fields = add_fields n b used

  -- the job at a place of its table is in order
  placed : (f i : ℕ) → (eqb f 1 || eqb f 2) ≡ true → i < lesser b → held_check n (moved b f i 0) ≡ Ok tt
  unfolding held_check used_check unused_zero in_table scaled_add_check
  placed f i h l = rw (kind, moved_used, clear, h, lt-ltb i b.a.width (omega arith), lt-ltb i b.p.width (omega arith))
    where
      moved_used : scaled_add_check n (moved b f i 0) ≡ Ok tt
      moved_used = used

  good : (i : ℕ) → i < lesser b → Good n b (stop b i)
  unfolding command next
  good i l = record {
    tried = rw kind refl;
    adds = rw kind refl;
    onward = λ c. rw kind refl;
    first_fits = placed 1 i refl l;
    second_fits = placed 2 i refl l;
    small = mod-lt (b.c * 2 ^ i) (pow_pos b.p.width);
    found = λ w. agrees_one n (b.a.low.0 + i) w (bit_of b.a i) (omega (arith, fields.a.fits)) ∙ rw (one_here (b.a.low.0 + i));
    kept = λ w x h. ap (λ (z : ℕ). eqb z 1) (h (b.a.low.0 + i) (fields.a_apart i (omega arith)));
  }

  after : (k i c : ℕ) → i + suc k ≡ lesser b → next (moved b 2 i 0) c ≡ start b (ups b (suc i) k)
  unfolding next ups
  after zero i c e = rw kind (above_none b 2 i 0 (omega arith))
  after (suc k) i c e = rw kind (above_more b 2 i 0 (omega arith))

  pub scaled_route : (k i : ℕ) → i + k ≡ lesser b → Route n b (ups b i k)
  unfolding ups
  scaled_route zero i e = tt
  scaled_route (suc k) i e = (good i (omega arith), (λ c. after k i c e), scaled_route k (suc i) (omega arith))
