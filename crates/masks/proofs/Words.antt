-- What the small word operations compute.
use Rattle.std.proofs.Common.{◌≡◌, ℕ, ◌+◌, ◌-◌, ◌*◌, ◌%◌, ◌^◌, ◌<◌, ◌≤◌, ap, ◌∙◌, ap₂, mod-eq_of_lt, arith, pow_pos, pow_mono}
use lib.Bits.{bit_and, bit_or, bit_xor, and_mask}
use lib.Pow.{pow-lt}
use Rattle.machine.specs.declared.Panel.{Panel}
use Rattle.fields.specs.Fields.{fields, add_in, above_in}
use Rattle.fields.specs.Tops.{tops_of, Topped}
use Rattle.fields.proofs.Shape.{topped}
use Rattle.fields.proofs.Sums.{word_add}
use Rattle.fields.proofs.Above.{wide, word_gt}
use Rattle.masks.specs.Plan.{Fit}

-- one, shifted up to bit n-1
pub top_is : (n : ℕ) → 0 < n → n ≤ 64 → 1 * 2 ^ (n - 1) % 2 ^ 64 ≡ 2 ^ (n - 1)
top_is n h k = ap (λ (x : ℕ). x % 2 ^ 64) (omega arith) ∙ mod-eq_of_lt (pow-lt {j = 64} (omega arith))

pub sum_is : (n s w a low m : ℕ) → n ≤ 64 → s < 2 ^ 64 → w < 2 ^ 64 → a < 2 ^ 64
    → low ≡ (bit_and w (2 ^ 64 - 1 - s) + bit_and a (2 ^ 64 - 1 - s)) % 2 ^ 64 → m ≡ 2 ^ n - 1
    → bit_and (bit_xor low (bit_and (bit_xor w a) s)) m ≡ add_in (fields n s) w a 0
sum_is n s w a low m h hs hw ha e g =
    ap₂ (λ (x y : ℕ). bit_and (bit_xor x (bit_and (bit_xor w a) s)) y) e g ∙ and_mask _ n ∙ word_add n s w a h hs hw ha

pub filled_is : (n t q m low : ℕ) → Topped n t → q < 2 ^ 64 → t < 2 ^ 64 → m ≡ 2 ^ n - 1
    → low ≡ (bit_and q (2 ^ 64 - 1 - t) + bit_and m (2 ^ 64 - 1 - t)) % 2 ^ 64
    → bit_and (bit_or (bit_and q m) (bit_and (bit_or q m) low)) t ≡ above_in (fields n t) q 0 0
unfolding wide
filled_is n t q m low h hq ht e g =
    ap (wide t q m) g
    ∙ word_gt n t q 0 m h.pos h.wide h.within h.top hq ht (omega (arith, pow_mono h.wide, pow_pos n)) (omega (arith, pow_pos n))

-- the tops of a panel that fits
pub fit_tops : (n : ℕ) (p : Panel) (t : ℕ) → Fit n p → t ≡ tops_of n p.sdr → Topped n t
fit_tops n p t f e = rw e (topped n p.sdr f.least f.most f.sdr)
