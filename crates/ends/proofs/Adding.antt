-- A job's multiadd on one word: P gains the addend in words with Y, and nothing else changes.
use Prim.Native.Nat.{ℕ, zero, suc, ◌+◌, ◌-◌, ◌*◌, ◌/◌, ◌%◌, ◌^◌, ◌≤◌, ◌<◌}
use mathlib.Core.Path.{◌≡◌, refl, sym, ap, ◌∙◌}
use mathlib.Core.Bool.{Bool, true, false}
use native.Mathlib.Nat.{mod-lt, mod-eq_of_lt, div-one, div-eq_of_lt, add_comm, add-zero, zero-mod, add-mod-mod, mul-le-mul_right}
use native.Mathlib.Omega.{arith}
use lib.Pow.{pow_pos, pow-add, shl_lt, shl-shr, shr_lt}
use lib.Bits.{bit_and, and_high}
use Rattle.laws.specs.Bits.{bit, pick}
use Rattle.laws.proofs.Bits.{shifted, number_is}
use Rattle.machine.specs.Machine.{over, tops, selected}
use Rattle.machine.specs.Pulse.{addend, sums, added, change, word_after, response_after}
use Rattle.machine.proofs.Masks.{addend_is}
use Rattle.machine.specs.declared.ResponseBit.{ResponseBit}
use Rattle.job_plans.specs.declared.Span.{Span}
use Rattle.job_plans.specs.Commands.{plus}
use Rattle.ends.proofs.Shapes.{from, above, rest, rest_none}
use Rattle.ends.proofs.Parts.{added_to, Gains, gains_add}

-- bits read over a syllable
over_is : (x lo k : ℕ) (f : ℕ → ℕ) → ((i : ℕ) → bit x i ≡ f i) → over (from lo k) f ≡ x / 2 ^ lo % 2 ^ k
over_is x lo k f h = number_is k (x / 2 ^ lo) _ (λ j g. sym (shifted x lo j) ∙ h (lo + j))

module _ (n : ℕ) (y : ResponseBit) (s : Span) (v x : ℕ) (some : 0 < s.width) (fits : s.low.0 + s.width ≤ n) (small : v < 2 ^ s.width) (w_lt : x < 2 ^ n) where
  abbrev lo : ℕ
  lo = s.low.0

  -- P's top bit
  abbrev t : ℕ
  t = s.low.0 + s.width - 1

  -- MOR has all of the addend
  addend_whole : bit_and (v * 2 ^ lo) (2 ^ (s.width + lo) - 2 ^ lo) ≡ v * 2 ^ lo
  addend_whole = rw (and_high (v * 2 ^ lo) s.width lo, shl-shr v lo, mod-eq_of_lt small)

  adds : (i : ℕ) → bit (v * 2 ^ lo) i ≡ addend (plus y s v).panel i
  adds i = ap (λ (z : ℕ). bit z i) (sym addend_whole) ∙ addend_is (plus y s v).panel i

  first_sum : (over (from 0 (suc t)) (bit x) + over (from 0 (suc t)) (addend (plus y s v).panel)) % 2 ^ suc t * 2 ^ 0
      ≡ (x % 2 ^ (lo + s.width) + v * 2 ^ lo) % 2 ^ (lo + s.width)
  first_sum =
      let e : suc t ≡ lo + s.width = omega arith in
      rw (
        over_is x 0 (suc t) (bit x) (λ i. refl),
        over_is (v * 2 ^ lo) 0 (suc t) (addend (plus y s v).panel) adds,
        e,
        div-one x,
        div-one (v * 2 ^ lo),
        add-mod-mod,
      ) (omega arith)

  -- above P nothing is added
  above_sum : (m : ℕ) → suc t + m ≡ n → sums (plus y s v).panel x (tops n (2 ^ t) (suc t) m) ≡ x / 2 ^ (lo + s.width) * 2 ^ (lo + s.width)
  unfolding sums
  above_sum zero e =
      let d : n ≡ lo + s.width = omega arith in
      let z : x / 2 ^ (lo + s.width) ≡ 0 = div-eq_of_lt (rw d at w_lt) in
      rw (rest_none n (2 ^ t) (suc t), z) (omega arith)
  above_sum (suc m) e =
      let d : suc t ≡ lo + s.width = omega arith in
      let f : n ≡ suc m + (lo + s.width) = omega arith in
      let z : v * 2 ^ lo / 2 ^ (lo + s.width) ≡ 0 = div-eq_of_lt (rw (add_comm lo s.width) (shl_lt s.width lo small)) in
      let u : x / 2 ^ (lo + s.width) < 2 ^ suc m = shr_lt (suc m) (lo + s.width) (rw f at w_lt) in
      rw (
        rest n t m e,
        over_is x (suc t) (suc m) (bit x) (λ i. refl),
        over_is (v * 2 ^ lo) (suc t) (suc m) (addend (plus y s v).panel) adds,
        d,
        z,
        zero-mod (2 ^ suc m),
        mod-eq_of_lt u,
        add-zero,
        add-zero,
        mod-eq_of_lt u,
      )

  pub plus_added : added n (plus y s v).panel x ≡ added_to lo s.width v x
  unfolding added sums
  plus_added =
      let h : t < n = omega arith in
      rw (above n t h, first_sum, above_sum (n - suc t) (omega arith)) (omega arith)

-- ---- the command's pulse on one word and its response

pub plus_word : (n : ℕ) (y : ResponseBit) (s : Span) (v k w r : ℕ)
    → word_after n (plus y s v).panel (plus y s v).lines k w r ≡ pick (selected (2 ^ y.0) (2 ^ y.0) r) (added n (plus y s v).panel w) w
unfolding word_after
plus_word n y s v k w r = go (selected (2 ^ y.0) (2 ^ y.0) r) _ _
  where
    go : (b : Bool) (x z : ℕ) → change n false b w x z ≡ pick b z w
    go true x z = refl
    go false x z = refl

pub plus_response : (n : ℕ) (y : ResponseBit) (s : Span) (v k w r : ℕ) → response_after n (plus y s v).panel (plus y s v).lines k w r ≡ r
unfolding response_after
plus_response n y s v k w r = refl

-- where Y is set P gains v
pub plus_gains : (n : ℕ) (y : ResponseBit) (s : Span) (v w : ℕ) → 0 < s.width → s.low.0 + s.width ≤ n → v < 2 ^ s.width → w < 2 ^ n
    → Gains s v w (added n (plus y s v).panel w)
plus_gains n y s v w some fits small h = rw (plus_added n y s v w some fits small h) (gains_add s v w)

-- and the word still fits the machine
pub plus_fits : (n : ℕ) (y : ResponseBit) (s : Span) (v w : ℕ) → 0 < s.width → s.low.0 + s.width ≤ n → v < 2 ^ s.width → w < 2 ^ n
    → added n (plus y s v).panel w < 2 ^ n
plus_fits n y s v w some fits small h =
    let hi : ℕ = s.low.0 + s.width in
    let e : (n - hi) + hi ≡ n = omega arith in
    let l : w / 2 ^ hi < 2 ^ (n - hi) = shr_lt (n - hi) hi (rw e h) in
    let k : w / 2 ^ hi + 1 ≤ 2 ^ (n - hi) = omega arith in
    rw (plus_added n y s v w some fits small h, ← e, pow-add 2 (n - hi) hi)
    (omega (arith, mod-lt (w % 2 ^ hi + v * 2 ^ s.low.0) (pow_pos hi), mul-le-mul_right (2 ^ hi) k))
