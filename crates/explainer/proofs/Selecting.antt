-- "not selected, with the lowest response bit that differs" is true of a word that is not selected.
use Prim.Native.Nat.{ℕ, zero, suc, ◌+◌, ◌≤◌, ◌<◌}
use mathlib.Core.Path.{◌≡◌, refl, sym, ap, ◌∙◌}
use mathlib.Core.Bool.{Bool, true, false, not, ◌&&◌, ◌||◌}
use mathlib.Core.Logic.{⊎_elim}
use native.Mathlib.Omega.{arith}
use lib.Dec.{eqb}
use borrow.Author.Tests.{eqb-true, eq-eqb}
use Rattle.laws.specs.Bits.{bit, every, pick}
use Rattle.laws.proofs.Digits.{Bit, off, on, tri}
use Rattle.laws.proofs.Bits.{digit_at}
use Rattle.machine.specs.declared.Panel.{Panel}
use Rattle.machine.specs.Machine.{response_bits, selected}
use Rattle.explainer.specs.Reasons.{differs, lowest_of}
use Rattle.explainer.specs.Truth.{Unselected}

-- a clash of what is known
pub never : {A : Type 0} → zero ≡ suc zero → A
never e = absurd (omega arith)

-- a test that does not hold everywhere fails somewhere
pub every_not : (k : ℕ) (f : ℕ → Bool) → every k f ≡ false → (j : ℕ) × (j < k) × (f j ≡ false)
unfolding every
every_not zero f h = never (cc)
every_not (suc k) f h = go (f k) refl h (every_not k f)
  where
    go : (b : Bool) → f k ≡ b → (b && every k f) ≡ false → (every k f ≡ false → (j : ℕ) × (j < k) × (f j ≡ false)) → (j : ℕ) × (j < suc k) × (f j ≡ false)
    go true e h rest = let r = rest h in (r.0, omega (arith, r.1), r.2)
    go false e h rest = (k, omega arith, e)

-- ---- the lowest

pub record Lowest (test : ℕ → Bool) (i m k : ℕ) : Type 0 where
  pub from : i ≤ k
  pub within : k < i + m
  pub passes : test k ≡ true
  pub none_lower : (j : ℕ) → i ≤ j → j < k → test j ≡ false

pub lowest_of_lem : (test : ℕ → Bool) (i m j : ℕ) → i ≤ j → j < i + m → test j ≡ true → Lowest test i m (lowest_of test i m)
unfolding lowest_of
lowest_of_lem test i zero j l h t = absurd (omega arith)
lowest_of_lem test i (suc m) j l h t = go (test i) refl (λ g. lowest_of_lem test (suc i) m j (omega arith) (omega arith) t)
  where
    further : test i ≡ false → i < j
    further e = ⊎_elim (λ g. g) (⊎_elim (λ g. let z : test i ≡ true = ap test g ∙ t in never (cc)) (λ g. absurd (omega arith))) (tri i j)

    go : (b : Bool) → test i ≡ b → (i < j → Lowest test (suc i) m (lowest_of test (suc i) m)) → Lowest test i (suc m) (pick b i (lowest_of test (suc i) m))
    go true e rest = record { from = omega arith; within = omega arith; passes = e; none_lower = λ k a b. absurd (omega arith) }
    go false e rest =
        let r = rest (further e) in
        record {
          from = omega (arith, r.from);
          within = omega (arith, r.within);
          passes = r.passes;
          none_lower = λ k a b. ⊎_elim (λ q. r.none_lower k (omega arith) b) (⊎_elim (λ q. ap test (sym q) ∙ e) (λ q. absurd (omega arith))) (tri i k);
        }

-- ---- one response bit

module _ (p : Panel) (r i : ℕ) where
  abbrev equals : Bool
  equals = eqb (bit p.care i) 0 || eqb (bit r i) (bit p.key i)

  pub does_differ : equals ≡ false → differs p r i ≡ true
  does_differ = go (bit p.care i) (digit_at p.care i) (eqb (bit r i) (bit p.key i))
    where
      go : (c : ℕ) → Bit c → (e : Bool) → (eqb c 0 || e) ≡ false → (eqb c 1 && not e) ≡ true
      go c off e h = never (cc)
      go c on true h = never (cc)
      go c on false h = refl

  pub same_there : equals ≡ true → differs p r i ≡ false
  same_there = go (bit p.care i) (digit_at p.care i) (eqb (bit r i) (bit p.key i))
    where
      go : (c : ℕ) → Bit c → (e : Bool) → (eqb c 0 || e) ≡ true → (eqb c 1 && not e) ≡ false
      go c off e h = refl
      go c on true h = refl
      go c on false h = cc

  pub it_differs : differs p r i ≡ true → (bit p.care i ≡ 1) × (bit r i ≡ bit p.key i → ⊥)
  it_differs h = (go (bit p.care i) (digit_at p.care i) (eqb (bit r i) (bit p.key i)) h, λ e. clash (eqb (bit p.care i) 1) (rw (eq-eqb (bit r i) (bit p.key i) e) at h))
    where
      go : (c : ℕ) → Bit c → (e : Bool) → (eqb c 1 && not e) ≡ true → c ≡ 1
      go c off e h = never (cc)
      go c on e h = refl

      clash : (b : Bool) → (b && false) ≡ true → ⊥
      clash true h = never (cc)
      clash false h = never (cc)

  pub no_difference : differs p r i ≡ false → bit p.care i ≡ 1 → bit r i ≡ bit p.key i
  no_difference h c = eqb-true (bit r i) (bit p.key i) (go (eqb (bit r i) (bit p.key i)) (rw c at h))
    where
      go : (e : Bool) → not e ≡ false → e ≡ true
      go true h = refl
      go false h = never (cc)

pub unselected : (p : Panel) (r : ℕ) → selected p.key p.care r ≡ false → Unselected p r (lowest_of (differs p r) 0 response_bits)
unfolding selected
unselected p r h =
    let s = every_not response_bits _ h in
    let k = lowest_of_lem (differs p r) 0 response_bits s.0 (omega arith) s.1 (does_differ p r s.0 s.2) in
    let d = it_differs p r (lowest_of (differs p r) 0 response_bits) k.passes in
    record {
      unselected = h;
      within = k.within;
      cared = d.0;
      differs = d.1;
      none_lower = λ j l c. no_difference p r j (k.none_lower j (omega arith) l) c;
    }
