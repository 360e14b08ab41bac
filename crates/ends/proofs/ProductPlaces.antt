-- The places of a product: for each bit i of A a row of bits j of B, as long as i + j lies in P.
use Prim.Native.Nat.{ℕ, zero, suc, ◌+◌, ◌-◌, ◌^◌, ◌≤◌, ◌<◌, min, max}
use mathlib.Core.Path.{◌≡◌, refl, sym, ap₂, ◌∙◌}
use mathlib.Core.Bool.{Bool, true, false, ◌&&◌, ◌||◌}
use mathlib.Core.List.{List, [], ◌∷◌}
use native.Mathlib.Numerals.{add-one}
use native.Mathlib.Omega.{arith}
use lib.Dec.{ltb, eqb}
use lib.Bits.{bit_or}
use lib.Pow.{pow-lt}
use borrow.Author.Tests.{lt-ltb, le-ltb, ltb-true}
use Rattle.std.specs.Prelude.{Ok, Some}
use Rattle.laws.specs.Bits.{bit, pick}
use Rattle.laws.proofs.Digits.{Bit, off, on}
use Rattle.laws.proofs.Bits.{digit_at, or_bit}
use Rattle.job_plans.specs.declared.Job.{Job}
use Rattle.job_plans.specs.Fields.{product, kind_of, product_check, used_check, unused_zero}
use Rattle.job_plans.specs.Places.{in_table, held_check, moved, next_above, next_within, next}
use Rattle.job_plans.specs.Commands.{command, bit_of}
use Rattle.ends.proofs.Agreeing.{agrees, agrees_two, one_here}
use Rattle.ends.proofs.Fields.{ProductFields, product_fields}
use Rattle.ends.proofs.Visits.{Stop, start, Good, Route}
use Rattle.ends.proofs.ScaledPlaces.{lesser, above_more, above_none}

-- "search A's bit i and B's bit j exact 1 under the criterion, target Y; multiadd 2^(i+j) into P under Y=1"
abbrev pub stop : Job → ℕ → ℕ → Stop
stop b i j = record {
  i = i;
  j = j;
  mask = bit_or (bit_of b.a i) (bit_of b.b j);
  opens = λ w. eqb (bit w (b.a.low.0 + i)) 1 && eqb (bit w (b.b.low.0 + j)) 1;
  value = 2 ^ (i + j);
}

-- k places of row i from j on, and then qs
unfoldable pub across : Job → ℕ → ℕ → ℕ → List Stop → List Stop
across b i j zero qs = qs
across b i j (suc k) qs = stop b i j ∷ across b i (suc j) k qs

-- how many places row i has
abbrev pub row_of : Job → ℕ → ℕ
row_of b i = min b.b.width (b.p.width - i)

-- k rows from i on
unfoldable pub rows : Job → ℕ → ℕ → List Stop
rows b i zero = []
rows b i (suc k) = across b i 0 (row_of b i) (rows b (suc i) k)

pub starts_row : (b : Job) (i j k : ℕ) (qs : List Stop) → 0 < k → start b (across b i j k qs) ≡ Some (moved b 1 i j)
unfolding across
starts_row b i j zero qs h = absurd (omega arith)
starts_row b i j (suc k) qs h = refl

-- both bits of the mask are 1
mask_one : (s t : ℕ) → (bit (bit_or (2 ^ s) (2 ^ t)) s ≡ 1) × (bit (bit_or (2 ^ s) (2 ^ t)) t ≡ 1)
mask_one s t =
    (or_bit (2 ^ s) (2 ^ t) s ∙ rw (one_here s) (one_max (digit_at (2 ^ t) s)), or_bit (2 ^ s) (2 ^ t) t ∙ rw (one_here t) (max_one (digit_at (2 ^ s) t)))
  where
    one_max : {b : ℕ} → Bit b → max 1 b ≡ 1
    one_max off = refl
    one_max on = refl

    max_one : {b : ℕ} → Bit b → max b 1 ≡ 1
    max_one off = refl
    max_one on = refl

both_found : (n s t w : ℕ) → s < n → t < n
    → agrees n (bit_or (2 ^ s) (2 ^ t)) w (bit_or (2 ^ s) (2 ^ t)) ≡ (eqb (bit w s) 1 && eqb (bit w t) 1)
both_found n s t w hs ht =
    agrees_two n s t w (bit_or (2 ^ s) (2 ^ t)) hs ht
    ∙ ap₂ (λ (x y : ℕ). eqb (bit w s) x && eqb (bit w t) y) (mask_one s t).0 (mask_one s t).1

module _ (n : ℕ) (b : Job) (kind : kind_of b.kind ≡ product) (used : product_check n b ≡ Ok tt) (clear : (eqb b.x.0 0 && eqb b.c 0) ≡ true) where
  fields : ProductFields n b
  fields = product_fields n b used

  -- the job at a place of its table is in order
  placed : (f i j : ℕ) → (eqb f 1 || eqb f 2) ≡ true → i < lesser b → j < row_of b i → held_check n (moved b f i j) ≡ Ok tt
  unfolding held_check used_check unused_zero in_table product_check
  placed f i j h l r =
      rw (
        kind,
        moved_used,
        clear,
        h,
        lt-ltb i b.a.width (omega arith),
        lt-ltb j b.b.width (omega arith),
        lt-ltb (i + j) b.p.width (omega arith),
      )
    where
      moved_used : product_check n (moved b f i j) ≡ Ok tt
      moved_used = used

  good : (i j : ℕ) → i < lesser b → j < row_of b i → Good n b (stop b i j)
  unfolding command next
  good i j l r = record {
    tried = rw kind refl;
    adds = rw kind refl;
    onward = λ c. rw kind refl;
    first_fits = placed 1 i j refl l r;
    second_fits = placed 2 i j refl l r;
    small = pow-lt (omega arith);
    found = λ w. both_found n (b.a.low.0 + i) (b.b.low.0 + j) w (omega (arith, fields.both.a.fits)) (omega (arith, fields.b.fits));
    kept = λ w x h. ap₂ (λ (y z : ℕ). eqb y 1 && eqb z 1) (h (b.a.low.0 + i) (fields.both.a_apart i (omega arith)))
        (h (b.b.low.0 + j) (fields.b_apart j (omega arith)));
  }

  second_is : (i j c : ℕ) → next (moved b 2 i j) c ≡ next_within (moved b 2 i j)
  unfolding next
  second_is i j c = rw kind refl

  -- "and within it j from 0 below b, with i+j below p"
  within_more : (i j : ℕ) → suc j < row_of b i → next_within (moved b 2 i j) ≡ Some (moved b 1 i (suc j))
  within_more i j h = rw (add-one j, lt-ltb (suc j) b.b.width (omega arith), lt-ltb (i + suc j) b.p.width (omega arith))

  within_none : (i j : ℕ) → row_of b i ≤ suc j → next_within (moved b 2 i j) ≡ next_above (moved b 2 i j)
  within_none i j h = rw (add-one j) (go (ltb (suc j) b.b.width) refl)
    where
      go : (t : Bool) → ltb (suc j) b.b.width ≡ t
          → pick (t && ltb (i + suc j) b.p.width) (Some (moved b 1 i (suc j))) (next_above (moved b 2 i j)) ≡ next_above (moved b 2 i j)
      go true e = rw (le-ltb (i + suc j) b.p.width (omega (arith, ltb-true (suc j) b.b.width e)))
      go false e = refl

  -- the place after a row's last
  turned : (k i j : ℕ) → i + suc k ≡ lesser b → next_above (moved b 2 i j) ≡ start b (rows b (suc i) k)
  unfolding rows
  turned zero i j h = above_none b 2 i j (omega arith)
  turned (suc k) i j h = above_more b 2 i j (omega arith) ∙ sym (starts_row b (suc i) 0 (row_of b (suc i)) _ (omega (arith, fields.b.some)))

  row_route : (k i j : ℕ) (qs : List Stop) → j + k ≡ row_of b i → i < lesser b
      → ((j : ℕ) → next_above (moved b 2 i j) ≡ start b qs) → Route n b qs → Route n b (across b i j k qs)
  unfolding across
  row_route zero i j qs h l e r = r
  row_route (suc k) i j qs h l e r = (good i j l (omega arith), (λ c. after k c h), row_route k i (suc j) qs (omega arith) l e r)
    where
      after : (k c : ℕ) → j + suc k ≡ row_of b i → next (moved b 2 i j) c ≡ start b (across b i (suc j) k qs)
      after zero c h = second_is i j c ∙ within_none i j (omega arith) ∙ e j
      after (suc k) c h = second_is i j c ∙ within_more i j (omega arith)

  pub product_route : (k i : ℕ) → i + k ≡ lesser b → Route n b (rows b i k)
  unfolding rows
  product_route zero i h = tt
  product_route (suc k) i h =
      row_route (row_of b i) i 0 (rows b (suc i) k) (omega arith) (omega arith) (λ j. turned k i j h) (product_route k (suc i) (omega arith))
