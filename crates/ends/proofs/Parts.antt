-- A run of bits of a number, and the number with that run replaced.
use Prim.Native.Nat.{ℕ, suc, ◌+◌, ◌-◌, ◌*◌, ◌/◌, ◌%◌, ◌^◌, ◌≤◌, ◌<◌}
use mathlib.Core.Path.{◌≡◌, refl, sym, ap, ◌∙◌}
use mathlib.Core.Logic.{⊎_elim}
use native.Mathlib.Nat.{mod-lt, mod-one, add_comm, add-zero, mod-eq_of_lt}
use native.Mathlib.Omega.{arith}
use lib.Pow.{pow_pos, pow-add, mod-pow-add, mod-mod-pow, high, low, shr-shr}
use Rattle.laws.specs.Bits.{bit}
use Rattle.laws.proofs.Digits.{mod_suc, bit_lt}
use Rattle.laws.proofs.Bits.{shifted, digit_at, number_is, number_bit, same_bits, bits_same}
use Rattle.job_plans.specs.declared.Span.{Span}
use Rattle.job_tally.specs.Totals.{value_of}
use Rattle.ends.specs.Ends.{Outside}

-- ---- the k bits from bit lo up, as a number

unfoldable pub part : ℕ → ℕ → ℕ → ℕ
part lo k x = x / 2 ^ lo % 2 ^ k

pub value_is : (s : Span) (w : ℕ) → value_of s w ≡ part s.low.0 s.width w
unfolding part
value_is s w = number_is s.width (w / 2 ^ s.low.0) _ (λ i g. sym (shifted w s.low.0 i))

pub part_lt : (lo k x : ℕ) → part lo k x < 2 ^ k
unfolding part
part_lt lo k x = mod-lt (x / 2 ^ lo) (pow_pos k)

pub part_none : (lo x : ℕ) → part lo 0 x ≡ 0
unfolding part
part_none lo x = mod-one (x / 2 ^ lo)

-- the lowest bit, and the rest
pub part_low : (lo k x : ℕ) → part lo (suc k) x ≡ part (suc lo) k x * 2 + bit x lo
unfolding part
part_low lo k x =
    let e : lo + 1 ≡ suc lo = omega arith in
    mod_suc (x / 2 ^ lo) k ∙ ap (λ (z : ℕ). z % 2 ^ k * 2 + bit x lo) (shr-shr x lo 1 ∙ ap (λ (z : ℕ). x / 2 ^ z) e)

-- fewer bits
pub part_shorter : (lo p a x : ℕ) → p ≤ a → part lo p x ≡ part lo a x % 2 ^ p
unfolding part
part_shorter lo p a x h = let e : a - p + p ≡ a = omega arith in sym (rw e at (mod-mod-pow (x / 2 ^ lo) (a - p) p))

pub part_like : (lo k x y : ℕ) → ((i : ℕ) → i < k → bit x (lo + i) ≡ bit y (lo + i)) → part lo k x ≡ part lo k y
unfolding part
part_like lo k x y h = same_bits k (x / 2 ^ lo) (y / 2 ^ lo) (λ i g. sym (shifted x lo i) ∙ h i g ∙ shifted y lo i)

-- ---- a gain in a syllable

-- the syllable gains v, modulo 2 to its width, and every bit outside it is as it was
pub record Gains (s : Span) (v w e : ℕ) : Type 0 where
  pub value : value_of s e ≡ (value_of s w + v) % 2 ^ s.width
  pub others : (i : ℕ) → Outside s i → bit e i ≡ bit w i

module _ (s : Span) where
  pub value_lt : (w : ℕ) → value_of s w < 2 ^ s.width
  value_lt w = rw (value_is s w) (part_lt s.low.0 s.width w)

  pub value_bit : (w i : ℕ) → i < s.width → bit (value_of s w) i ≡ bit w (s.low.0 + i)
  value_bit w i h = number_bit s.width _ (λ j g. bit_lt (digit_at w (s.low.0 + j))) i h

  pub gains_none : (w : ℕ) → Gains s 0 w w
  gains_none w = record { value = sym (ap (λ (x : ℕ). x % 2 ^ s.width) (add-zero (value_of s w)) ∙ mod-eq_of_lt (value_lt w)); others = λ i h. refl }

-- ---- an add in a syllable that runs from the run's top bit down to bit 0, of an addend with the run's bits alone, is an add in the run

-- x with the k bits from lo up replaced by v's low ones
unfoldable put : ℕ → ℕ → ℕ → ℕ → ℕ
put lo k v x = (x / 2 ^ (lo + k) * 2 ^ k + v % 2 ^ k) * 2 ^ lo + x % 2 ^ lo

put_low : (lo k v x : ℕ) → put lo k v x % 2 ^ lo ≡ x % 2 ^ lo
unfolding put
put_low lo k v x = low (x / 2 ^ (lo + k) * 2 ^ k + v % 2 ^ k) lo (mod-lt x (pow_pos lo))

put_mid : (lo k v x : ℕ) → put lo k v x / 2 ^ lo ≡ x / 2 ^ (lo + k) * 2 ^ k + v % 2 ^ k
unfolding put
put_mid lo k v x = high (x / 2 ^ (lo + k) * 2 ^ k + v % 2 ^ k) lo (mod-lt x (pow_pos lo))

put_high : (lo k v x : ℕ) → put lo k v x / 2 ^ (lo + k) ≡ x / 2 ^ (lo + k)
put_high lo k v x = sym (shr-shr (put lo k v x) lo k) ∙ rw put_mid (high (x / 2 ^ (lo + k)) k (mod-lt v (pow_pos k)))

part_put : (lo k v x : ℕ) → part lo k (put lo k v x) ≡ v % 2 ^ k
unfolding part
part_put lo k v x = rw put_mid (low (x / 2 ^ (lo + k)) k (mod-lt v (pow_pos k)))

put_others : (s : Span) (v x i : ℕ) → Outside s i → bit (put s.low.0 s.width v x) i ≡ bit x i
put_others s v x i o =
    let lo : ℕ = s.low.0 in
    let k : ℕ = s.width in
    ⊎_elim (λ h. bits_same lo (put lo k v x) x (put_low lo k v x) i h)
    (λ h. let e : i ≡ lo + k + (i - (lo + k)) = omega arith in
    rw e (shifted (put lo k v x) (lo + k) (i - (lo + k)) ∙ ap (λ (z : ℕ). bit z (i - (lo + k))) (put_high lo k v x) ∙ sym (shifted x (lo + k) (i - (lo + k)))))
    o

-- the word after an add whose syllable ends at the run's top
abbrev pub added_to : ℕ → ℕ → ℕ → ℕ → ℕ
added_to lo k v x = x / 2 ^ (lo + k) * 2 ^ (lo + k) + (x % 2 ^ (lo + k) + v * 2 ^ lo) % 2 ^ (lo + k)

added_put : (lo k v x : ℕ) → added_to lo k v x ≡ put lo k (part lo k x + v) x
unfolding put part
added_put lo k v x =
    let g : ℕ = x / 2 ^ lo % 2 ^ k in
    let l : ℕ = x % 2 ^ lo in
    let e : x % 2 ^ (k + lo) ≡ g * 2 ^ lo + l = mod-pow-add x k lo in
    let n : g * 2 ^ lo + l + v * 2 ^ lo ≡ (g + v) * 2 ^ lo + l = omega arith in
    let m : ((g + v) * 2 ^ lo + l) % 2 ^ (k + lo) ≡ (g + v) % 2 ^ k * 2 ^ lo + l =
    mod-pow-add ((g + v) * 2 ^ lo + l) k lo ∙ rw (high (g + v) lo {lo = l} (mod-lt x (pow_pos lo)), low (g + v) lo {lo = l} (mod-lt x (pow_pos lo))) in
    rw (add_comm lo k, e, n, m, pow-add 2 k lo) (omega arith)

pub gains_add : (s : Span) (v x : ℕ) → Gains s v x (added_to s.low.0 s.width v x)
gains_add s v x =
    let e = added_put s.low.0 s.width v x in
    record {
      value = value_is s _ ∙ ap (part s.low.0 s.width) e ∙ part_put s.low.0 s.width _ x ∙ ap (λ (z : ℕ). (z + v) % 2 ^ s.width) (sym (value_is s x));
      others = λ i o. ap (λ (z : ℕ). bit z i) e ∙ put_others s _ x i o;
    }
