-- Responder i, counted from 0, is the one with i lower ones.
use Prim.Native.Nat.{ℕ, zero, suc, ◌+◌, ◌≤◌, ◌<◌}
use mathlib.Core.Path.{◌≡◌, refl, ◌∙◌}
use mathlib.Core.Bool.{Bool, true, false}
use mathlib.Core.List.{List, [], ◌∷◌}
use native.Mathlib.Omega.{arith}
use lib.ListN.{length, get_or, take, drop}
use borrow.Author.Tests.{eqb-true, eq-eqb}
use Rattle.std.specs.Prelude.{Some, None}
use Rattle.laws.specs.Bits.{bit, pick, digit}
use Rattle.machine.specs.declared.ResponseBit.{ResponseBit}
use Rattle.machine.specs.Machine.{Machine}
use Rattle.rounds.specs.Round.{has}
use Rattle.rounds.specs.Handout.{numbers_with, responders, responder, response, first_of}
use Rattle.hosts.specs.Rounds.{Responder, lower}

-- ---- the number at place i has i lower ones

record Place (x : ResponseBit) (j : ℕ) (rs : List ℕ) (i k : ℕ) : Type 0 where
  pub offset : ℕ
  pub is : k ≡ j + offset
  pub within : offset < length rs
  pub mark : has x (get_or rs offset 0) ≡ true
  pub lower_ones : length (numbers_with x j (take offset rs)) ≡ i

-- one word more below
further : (x : ResponseBit) (j r : ℕ) (rs : List ℕ) (d i k : ℕ) (t : Bool) → has x r ≡ t → digit t + d ≡ i → Place x (suc j) rs d k → Place x j (r ∷ rs) i k
unfolding numbers_with
further x j r rs d i k t e q p = record {
  offset = suc p.offset;
  is = p.is ∙ omega arith;
  within = omega (arith, p.within);
  mark = p.mark;
  lower_ones = longer (has x r) t e _ p.lower_ones ∙ q;
}
  where
    longer : (b t : Bool) → b ≡ t → (ks : List ℕ) → length ks ≡ d → length (pick b (j ∷ ks) ks) ≡ digit t + d
    longer true true e ks h = omega arith
    longer false false e ks h = omega arith
    longer true false e ks h = let z : ◌≡◌ {A = ℕ} 0 1 = cc in absurd (omega arith)
    longer false true e ks h = let z : ◌≡◌ {A = ℕ} 0 1 = cc in absurd (omega arith)

place : (x : ResponseBit) (j : ℕ) (rs : List ℕ) (i : ℕ) → i < length (numbers_with x j rs) → Place x j rs i (get_or (numbers_with x j rs) i 0)
unfolding numbers_with
place x j [] i h = absurd (omega arith)
place x j (r ∷ rs) i h = go (has x r) refl i h (λ d g. place x (suc j) rs d g)
  where
    go : (t : Bool) → has x r ≡ t → (i : ℕ) → i < length (pick t (j ∷ numbers_with x (suc j) rs) (numbers_with x (suc j) rs))
        → ((d : ℕ) → d < length (numbers_with x (suc j) rs) → Place x (suc j) rs d (get_or (numbers_with x (suc j) rs) d 0))
        → Place x j (r ∷ rs) i (get_or (pick t (j ∷ numbers_with x (suc j) rs) (numbers_with x (suc j) rs)) i 0)
    go true e zero h later = record { offset = 0; is = omega arith; within = omega arith; mark = e; lower_ones = refl }
    go true e (suc d) h later =
        further x j r rs d (suc d) (get_or (numbers_with x (suc j) rs) d 0) true e (omega arith) (later d (omega arith))
    go false e i h later = further x j r rs i i (get_or (numbers_with x (suc j) rs) i 0) false e (omega arith) (later i h)

-- ---- and a number with i lower ones is at place i

back : (x : ResponseBit) (j : ℕ) (rs : List ℕ) (k : ℕ) → k < length rs → has x (get_or rs k 0) ≡ true
    → (length (numbers_with x j (take k rs)) < length (numbers_with x j rs))
    × (get_or (numbers_with x j rs) (length (numbers_with x j (take k rs))) 0 ≡ j + k)
unfolding numbers_with
back x j [] k h m = absurd (omega arith)
back x j (r ∷ rs) zero h m = rw m (omega arith, omega arith)
back x j (r ∷ rs) (suc k) h m = go (has x r) (numbers_with x (suc j) rs) (numbers_with x (suc j) (take k rs)) (back x (suc j) rs k (omega arith) m)
  where
    go : (t : Bool) (ks low : List ℕ) → (length low < length ks) × (get_or ks (length low) 0 ≡ suc j + k)
        → (length (pick t (j ∷ low) low) < length (pick t (j ∷ ks) ks)) × (get_or (pick t (j ∷ ks) ks) (length (pick t (j ∷ low) low)) 0 ≡ j + suc k)
    go true ks low p = (omega (arith, p.0), p.1 ∙ omega arith)
    go false ks low p = (p.0, p.1 ∙ omega arith)

-- ---- said of a machine

pub responder_at : (x : ResponseBit) (m : Machine) (i : ℕ) → i < length (responders x m) → Responder x m (responder x m i) × (lower x m (responder x m i) ≡ i)
responder_at x m i h =
    let p = place x 0 m.responses i h in
    let e : p.offset ≡ responder x m i = omega (arith, p.is) in (
      record { within = rw e at p.within; mark = rw e at (eqb-true (bit (response m p.offset) x.0) 1 p.mark) },
      rw e at p.lower_ones,
    )

pub responder_is : (x : ResponseBit) (m : Machine) (k : ℕ) → Responder x m k → (lower x m k < length (responders x m)) × (responder x m (lower x m k) ≡ k)
responder_is x m k r =
    let p = back x 0 m.responses k r.within (eq-eqb (bit (response m k) x.0) 1 r.mark) in (p.0, p.1 ∙ omega arith)

-- ---- the first of what is left

pub first_left : (ks : List ℕ) (i : ℕ) → i < length ks → first_of (drop i ks) ≡ Some (record { 0 = get_or ks i 0 })
first_left [] i h = absurd (omega arith)
first_left (k ∷ ks) zero h = refl
first_left (k ∷ ks) (suc i) h = first_left ks i (omega arith)

pub none_left : (ks : List ℕ) (i : ℕ) → first_of (drop i ks) ≡ None → length ks ≤ i
none_left [] i h = omega arith
none_left (k ∷ ks) zero h = let z : ◌≡◌ {A = ℕ} 0 1 = cc in absurd (omega arith)
none_left (k ∷ ks) (suc i) h = let p = none_left ks i h in omega (arith, p)

pub left_none : (ks : List ℕ) (i : ℕ) → length ks ≤ i → first_of (drop i ks) ≡ None
left_none [] zero h = refl
left_none [] (suc i) h = refl
left_none (k ∷ ks) zero h = absurd (omega arith)
left_none (k ∷ ks) (suc i) h = left_none ks i (omega arith)
