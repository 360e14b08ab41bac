-- What the places of a product add up to: A times B, modulo 2 to P's width.
use Prim.Native.Nat.{ℕ, zero, suc, ◌+◌, ◌-◌, ◌*◌, ◌/◌, ◌%◌, ◌^◌, ◌≤◌, ◌<◌}
use mathlib.Core.Path.{◌≡◌, refl, ap, ◌∙◌}
use mathlib.Core.Bool.{Bool, true, false, ◌&&◌}
use mathlib.Core.List.{List}
use native.Mathlib.Nat.{mod-add-div, add-mul-mod_self_right, mul-zero, zero-mul, pow-suc}
use native.Mathlib.Omega.{arith}
use lib.Dec.{eqb, leb}
use lib.Pow.{pow-add}
use borrow.Author.Tests.{leb-true, leb-false}
use Rattle.laws.specs.Bits.{bit, digit}
use Rattle.laws.proofs.Digits.{Bit, off, on}
use Rattle.laws.proofs.Bits.{digit_at}
use Rattle.job_plans.specs.declared.Job.{Job}
use Rattle.job_tally.specs.Totals.{value_of}
use Rattle.ends.proofs.Parts.{part, part_none, part_low, part_shorter, value_is}
use Rattle.ends.proofs.Visits.{Stop, total}
use Rattle.ends.proofs.ScaledPlaces.{lesser}
use Rattle.ends.proofs.ProductPlaces.{across, row_of, rows}
use Rattle.ends.proofs.Sums.{mod_eq, gate_sum, cut_a}

and_digit : {a b : ℕ} → Bit a → Bit b → digit (eqb a 1 && eqb b 1) ≡ a * b
and_digit off off = refl
and_digit off on = refl
and_digit on off = refl
and_digit on on = refl

-- one row: A's bit times so many bits of B
row_sum : (b : Job) (x k i j : ℕ) (qs : List Stop)
    → total (across b i j k qs) x ≡ bit x (b.a.low.0 + i) * (2 ^ (i + j) * part (b.b.low.0 + j) k x) + total qs x
unfolding across total
row_sum b x zero i j qs = rw (part_none (b.b.low.0 + j) x, mul-zero, mul-zero) (omega arith)
row_sum b x (suc k) i j qs =
    let e : b.b.low.0 + suc j ≡ suc (b.b.low.0 + j) = omega arith in
    let d : i + suc j ≡ suc (i + j) = omega arith in
    let ih : total (across b i (suc j) k qs) x ≡ bit x (b.a.low.0 + i) * (2 ^ (i + j) * 2 * part (suc (b.b.low.0 + j)) k x) + total qs x
    = rw (e, d, pow-suc 2 (i + j)) at (row_sum b x k i (suc j) qs) in
    rw (and_digit (digit_at x (b.a.low.0 + i)) (digit_at x (b.b.low.0 + j)), part_low (b.b.low.0 + j) k x, ih) (omega arith)

-- a row cut off at P's top is a whole row, modulo 2 to P's width
cut_row : (b : Job) (x i : ℕ) → i ≤ b.p.width
    → (2 ^ i * part b.b.low.0 b.b.width x) % 2 ^ b.p.width ≡ (2 ^ i * part b.b.low.0 (row_of b i) x) % 2 ^ b.p.width
cut_row b x i h = go (leb b.b.width (b.p.width - i)) refl
  where
    B : ℕ
    B = part b.b.low.0 b.b.width x

    m : ℕ
    m = b.p.width - i

    go : (t : Bool) → leb b.b.width (b.p.width - i) ≡ t → (2 ^ i * B) % 2 ^ b.p.width ≡ (2 ^ i * part b.b.low.0 (row_of b i) x) % 2 ^ b.p.width
    go true f = let e : row_of b i ≡ b.b.width = omega (arith, leb-true b.b.width (b.p.width - i) f) in rw e
    go false f =
        let n : b.p.width - i < b.b.width = leb-false b.b.width (b.p.width - i) f in
        let e : row_of b i ≡ b.p.width - i = omega arith in
        let g : part b.b.low.0 (b.p.width - i) x ≡ B % 2 ^ (b.p.width - i) = part_shorter b.b.low.0 (b.p.width - i) b.b.width x (omega arith) in
        let v : 2 ^ b.p.width ≡ 2 ^ i * 2 ^ m = let z : b.p.width ≡ i + m = omega arith in ap (λ (y : ℕ). 2 ^ y) z ∙ pow-add 2 i m in
        let s : 2 ^ i * B ≡ 2 ^ i * (B % 2 ^ m) + B / 2 ^ m * 2 ^ b.p.width = rw v (omega (arith, ap (λ (z : ℕ). 2 ^ i * z) (mod-add-div B (2 ^ m)))) in
        rw (e, g) (mod_eq (2 ^ b.p.width) s ∙ add-mul-mod_self_right (2 ^ i * (B % 2 ^ m)) (B / 2 ^ m) (2 ^ b.p.width))

rows_sum : (b : Job) (x k i s : ℕ) → i + k ≤ b.p.width
    → (s + total (rows b i k) x) % 2 ^ b.p.width ≡ (s + 2 ^ i * part (b.a.low.0 + i) k x * part b.b.low.0 b.b.width x) % 2 ^ b.p.width
unfolding rows total
rows_sum b x zero i s h = rw (part_none (b.a.low.0 + i) x, mul-zero, zero-mul)
rows_sum b x (suc k) i s h =
    let e : b.a.low.0 + suc i ≡ suc (b.a.low.0 + i) = omega arith in
    let d : i + 0 ≡ i = omega arith in
    let f : b.b.low.0 + 0 ≡ b.b.low.0 = omega arith in
    let c : ℕ = bit x (b.a.low.0 + i) in
    let G : ℕ = part (suc (b.a.low.0 + i)) k x in
    let B : ℕ = part b.b.low.0 b.b.width x in
    let r : s + (c * (2 ^ i * B) + 2 ^ i * 2 * G * B) ≡ s + 2 ^ i * (G * 2 + c) * B = omega arith in
    rw (row_sum b x (row_of b i) i 0 (rows b (suc i) k), d, f, part_low (b.a.low.0 + i) k x)
    (gate_sum (2 ^ b.p.width) (2 ^ i * part b.b.low.0 (row_of b i) x) (2 ^ i * B) s _ (2 ^ i * 2 * G * B) c (digit_at x (b.a.low.0 + i))
    (λ s. rw (e, pow-suc 2 i) at (rows_sum b x k (suc i) s (omega arith))) (cut_row b x i (omega arith))
    ∙ mod_eq (2 ^ b.p.width) r)

-- what the places add is A times B
pub product_sum : (b : Job) (x s : ℕ)
    → (s + total (rows b 0 (lesser b)) x) % 2 ^ b.p.width ≡ (s + value_of b.a x * value_of b.b x) % 2 ^ b.p.width
product_sum b x s =
    let B : ℕ = part b.b.low.0 b.b.width x in
    let e : b.a.low.0 + 0 ≡ b.a.low.0 = omega arith in
    let d : 2 ^ 0 * part b.a.low.0 (lesser b) x * B ≡ B * part b.a.low.0 (lesser b) x = omega arith in
    let c : s + B * value_of b.a x ≡ s + value_of b.a x * B = omega arith in
    rw (value_is b.b x)
    (rw (e, d) at (rows_sum b x (lesser b) 0 s (omega arith)) ∙ cut_a b B x s ∙ mod_eq (2 ^ b.p.width) c)
