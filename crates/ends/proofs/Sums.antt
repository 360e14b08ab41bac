-- What the places of an adding job add up to, modulo 2 to P's width.
use Prim.Native.Nat.{ℕ, zero, suc, ◌+◌, ◌*◌, ◌/◌, ◌%◌, ◌^◌, ◌<◌}
use mathlib.Core.Path.{◌≡◌, refl, sym, ap, ◌∙◌}
use mathlib.Core.Bool.{Bool, true, false}
use native.Mathlib.Nat.{mod-mod, mod-add-mod, mod-add-div, add-mul-mod_self_right, mul-zero, pow-suc}
use native.Mathlib.Omega.{arith}
use lib.Dec.{eqb, leb}
use borrow.Author.Tests.{leb-true, leb-false}
use Rattle.laws.specs.Bits.{bit, digit}
use Rattle.laws.proofs.Digits.{Bit, off, on}
use Rattle.laws.proofs.Bits.{digit_at}
use Rattle.job_plans.specs.declared.Job.{Job}
use Rattle.job_tally.specs.Totals.{value_of}
use Rattle.ends.proofs.Parts.{part, part_none, part_low, part_shorter, value_is}
use Rattle.ends.proofs.Visits.{total}
use Rattle.ends.proofs.ScaledPlaces.{ups, lesser}

pub mod_eq : (M : ℕ) {x y : ℕ} → x ≡ y → x % M ≡ y % M
mod_eq M e = ap (λ (z : ℕ). z % M) e

pub one_digit : {b : ℕ} → Bit b → digit (eqb b 1) ≡ b
one_digit off = refl
one_digit on = refl

-- one gate more: it adds v, which is r modulo M
pub gate_sum : (M v r s T R b : ℕ) → Bit b → ((s : ℕ) → (s + T) % M ≡ (s + R) % M) → r % M ≡ v % M → (s + (b * v + T)) % M ≡ (s + (b * r + R)) % M
gate_sum M v r s T R b off h e =
    let p : s + (0 * v + T) ≡ s + T = omega arith in
    let q : s + R ≡ s + (0 * r + R) = omega arith in
    mod_eq M p ∙ h s ∙ mod_eq M q
gate_sum M v r s T R b on h e =
    let p : s + (1 * v + T) ≡ v + (s + T) = omega arith in
    let q : r + (s + T) ≡ (s + r) + T = omega arith in
    let t : s + r + R ≡ s + (1 * r + R) = omega arith in
    mod_eq M p ∙ sym (mod-add-mod v M (s + T)) ∙ ap (λ (z : ℕ). (z + (s + T)) % M) (sym e) ∙ mod-add-mod r M (s + T) ∙ mod_eq M q ∙ h (s + r) ∙ mod_eq M t

pub scaled_sum : (b : Job) (x k i s : ℕ)
    → (s + total (ups b i k) x) % 2 ^ b.p.width ≡ (s + b.c * (2 ^ i * part (b.a.low.0 + i) k x)) % 2 ^ b.p.width
unfolding ups total
scaled_sum b x zero i s = rw (part_none (b.a.low.0 + i) x, mul-zero, mul-zero)
scaled_sum b x (suc k) i s =
    let e : b.a.low.0 + suc i ≡ suc (b.a.low.0 + i) = omega arith in
    let d : ℕ = bit x (b.a.low.0 + i) in
    let G : ℕ = part (suc (b.a.low.0 + i)) k x in
    let r : s + (d * (b.c * 2 ^ i) + b.c * (2 ^ i * 2 * G)) ≡ s + b.c * (2 ^ i * (G * 2 + d)) = omega arith in
    rw (one_digit (digit_at x (b.a.low.0 + i)), part_low (b.a.low.0 + i) k x)
    (gate_sum (2 ^ b.p.width) (b.c * 2 ^ i % 2 ^ b.p.width) (b.c * 2 ^ i) s _ (b.c * (2 ^ i * 2 * G)) d (digit_at x (b.a.low.0 + i))
    (λ s. rw (e, pow-suc 2 i) at (scaled_sum b x k (suc i) s)) (sym (mod-mod (b.c * 2 ^ i) (2 ^ b.p.width)))
    ∙ mod_eq (2 ^ b.p.width) r)

mod_mul_add : (p c a m : ℕ) → (p + c * (a % m)) % m ≡ (p + c * a) % m
mod_mul_add p c a m =
    let e : p + c * a ≡ (p + c * (a % m)) + (c * (a / m)) * m = omega (arith, ap (λ (z : ℕ). c * z) (mod-add-div a m)) in
    rw e (sym (add-mul-mod_self_right (p + c * (a % m)) (c * (a / m)) m))

-- A cut off at P's width is A, modulo 2 to P's width
pub cut_a : (b : Job) (c x s : ℕ)
    → (s + c * part b.a.low.0 (lesser b) x) % 2 ^ b.p.width ≡ (s + c * value_of b.a x) % 2 ^ b.p.width
cut_a b c x s = rw (value_is b.a x) (go (leb b.a.width b.p.width) refl)
  where
    go : (t : Bool) → leb b.a.width b.p.width ≡ t
        → (s + c * part b.a.low.0 (lesser b) x) % 2 ^ b.p.width ≡ (s + c * part b.a.low.0 b.a.width x) % 2 ^ b.p.width
    go true f = let e : lesser b ≡ b.a.width = omega (arith, leb-true b.a.width b.p.width f) in rw e
    go false f =
        let k : b.p.width < b.a.width = leb-false b.a.width b.p.width f in
        let e : lesser b ≡ b.p.width = omega arith in
        rw (e, part_shorter b.a.low.0 b.p.width b.a.width x (omega arith)) (mod_mul_add s c (part b.a.low.0 b.a.width x) (2 ^ b.p.width))
