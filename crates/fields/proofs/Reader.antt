-- The machine's definitions of search and of add are those over fields.
-- Document 01, 'One pulse', Search and Add; document 02, request c. For every width.
use Prim.Native.Nat.{ℕ, zero, suc, ◌+◌, ◌*◌, ◌/◌, ◌%◌, ◌^◌, ◌<◌, min, max}
use mathlib.Core.Path.{◌≡◌, refl, sym, ap, ap₂, ◌∙◌}
use mathlib.Core.Bool.{Bool, true, false, ◌&&◌, ◌||◌}
use mathlib.Core.List.{List, [], ◌∷◌}
use mathlib.Core.Logic.{⊎_elim, ◌⊎◌}
use native.Mathlib.Nat.{mod-one, div-one, zero-mod, mod-add-mod, add-mod-mod, add-zero}
use native.Mathlib.Omega.{arith}
use lib.Dec.{eqb}
use lib.Pow.{pow_pos, pow-add, shr-shr}
use lib.Bits.{bit_and, bit_or}
use borrow.Author.Tests.{eqb-true}
use Rattle.laws.specs.Bits.{bit, every}
use Rattle.laws.specs.Lists.{all}
use Rattle.laws.proofs.Digits.{Bit, off, on}
use Rattle.laws.proofs.Bits.{or_cases, digit_at, shifted, top_bit, number_is, every_like, and_left, and_bit, or_bit, bit_none, bits_same}
use Rattle.machine.specs.declared.Panel.{Panel}
use Rattle.machine.specs.declared.Code.{Code}
use Rattle.machine.specs.declared.Code.TheVariants.{DontCare, Exact, Larger, Smaller}
use Rattle.machine.specs.Machine.{syllables, over}
use Rattle.machine.specs.Search.{code, cared, read_over, satisfied}
use Rattle.machine.specs.Search as reader
use Rattle.machine.specs.Pulse.{addend, sums, added}
use Rattle.machine.proofs.Masks.{addend_is}
use Rattle.fields.specs.Fields.{fields, add_in}
use Rattle.fields.specs.Codes.{asks, one, one_in, satisfied_in}
use Rattle.fields.proofs.Syllables.{place, syllables_are}
use Rattle.fields.proofs.Mixing.{from, at, codes}
use Rattle.fields.proofs.Settings.{Setting, none, least, most, Unmixed, first, rest}

-- ---- a test of every bit's code, in a syllable of one code

-- t is asked by a number that is not 0
abbrev gate : ℕ → Bool → Bool
gate zero t = true
gate (suc x) t = t

gate_step : (k b r : ℕ) (t : Bool) → Bit b → (gate b t && gate r t) ≡ gate (b * 2 ^ k + r) t
gate_step k b r t off = let e : r ≡ 0 * 2 ^ k + r = omega arith in ap (λ (x : ℕ). gate x t) e
gate_step k b r t on = go r t (1 * 2 ^ k + r) (omega (arith, pow_pos k))
  where
    go : (r : ℕ) (t : Bool) (x : ℕ) → 0 < x → (t && gate r t) ≡ gate x t
    go r t zero h = absurd (omega arith)
    go zero true (suc x) h = refl
    go (suc r) true (suc x) h = refl
    go r false (suc x) h = refl

every_gate : (k x : ℕ) (t : Bool) → every k (λ j. gate (bit x j) t) ≡ gate (x % 2 ^ k) t
unfolding every
every_gate zero x t = rw (mod-one x)
every_gate (suc k) x t =
    ap (λ (u : Bool). gate (bit x k) t && u) (every_gate k x t)
    ∙ gate_step k (bit x k) (x % 2 ^ k) t (digit_at x k)
    ∙ sym (ap (λ (z : ℕ). gate z t) (top_bit k x))

-- the test of the code that a syllable's registers carry as numbers
abbrev by_code : (Code → Bool) → ℕ → ℕ → Bool
by_code test zero zero = true
by_code test zero (suc b) = test Exact
by_code test (suc a) zero = test Larger
by_code test (suc a) (suc b) = test Smaller

module _ (test : Code → Bool) (none : test DontCare ≡ true) where
  at_exact : {y : ℕ} → Bit y → test (code 0 y) ≡ gate y (test Exact)
  at_exact off = none
  at_exact on = refl

  at_larger : {x : ℕ} → Bit x → test (code x 0) ≡ gate x (test Larger)
  at_larger off = none
  at_larger on = refl

  at_smaller : {x : ℕ} → Bit x → test (code x x) ≡ gate x (test Smaller)
  at_smaller off = none
  at_smaller on = refl

  by_exact : (b : ℕ) → gate b (test Exact) ≡ by_code test 0 b
  by_exact zero = refl
  by_exact (suc b) = refl

  by_larger : (a : ℕ) → gate a (test Larger) ≡ by_code test a 0
  by_larger zero = refl
  by_larger (suc a) = refl

  by_smaller : (a : ℕ) → gate a (test Smaller) ≡ by_code test a a
  by_smaller zero = refl
  by_smaller (suc a) = refl

  every_code : (k a b : ℕ) → one (a % 2 ^ k) (b % 2 ^ k) ≡ true → every k (λ j. test (code (bit a j) (bit b j))) ≡ by_code test (a % 2 ^ k) (b % 2 ^ k)
  every_code k a b h =
      ⊎_elim
      (λ e. let z = eqb-true (a % 2 ^ k) 0 e in
      every_like k _ _ (λ j g. rw (bits_same k a 0 (z ∙ sym (zero-mod (2 ^ k))) j g ∙ bit_none j) (at_exact (digit_at b j)))
      ∙ every_gate k b (test Exact) ∙ by_exact (b % 2 ^ k) ∙ ap (λ (x : ℕ). by_code test x (b % 2 ^ k)) (sym z))
      (λ r. ⊎_elim
      (λ e. let z = eqb-true (b % 2 ^ k) 0 e in
      every_like k _ _ (λ j g. rw (bits_same k b 0 (z ∙ sym (zero-mod (2 ^ k))) j g ∙ bit_none j) (at_larger (digit_at a j)))
      ∙ every_gate k a (test Larger) ∙ by_larger (a % 2 ^ k) ∙ ap (by_code test (a % 2 ^ k)) (sym z))
      (λ e. let z = eqb-true (a % 2 ^ k) (b % 2 ^ k) e in
      every_like k _ _ (λ j g. rw (← (bits_same k a b z j g)) (at_smaller (digit_at a j)))
      ∙ every_gate k a (test Smaller) ∙ by_smaller (a % 2 ^ k) ∙ ap (by_code test (a % 2 ^ k)) z)
      (or_cases (eqb (b % 2 ^ k) 0) (eqb (a % 2 ^ k) (b % 2 ^ k)) r))
      (or_cases (eqb (a % 2 ^ k) 0) (eqb (b % 2 ^ k) 0 || eqb (a % 2 ^ k) (b % 2 ^ k)) h)

-- ---- the two numbers, and what is asked of them

care : {a b x : ℕ} → Bit a → Bit b → Bit x → min x (max a b) ≡ cared (code a b) x
care off off off = refl
care off off on = refl
care off on off = refl
care off on on = refl
care on off off = refl
care on off on = refl
care on on off = refl
care on on on = refl

asks_is : (a b u v : ℕ) → by_code (λ d. reader.asks d false u v) a b ≡ asks a b 0 u v
asks_is zero zero u v = refl
asks_is zero (suc b) u v = refl
asks_is (suc a) zero u v = refl
asks_is (suc a) (suc b) u v = refl

-- over an exact or don't-care bit it is all one what SC3 has, and elsewhere it has what SC1 has
equal_is : {x y : ℕ} (u v : ℕ) → Bit x → Bit y → reader.asks (code x y) (eqb x 1) u v ≡ reader.asks (code x y) true u v
equal_is u v off off = refl
equal_is u v off on = refl
equal_is u v on off = refl
equal_is u v on on = refl

all_equal : (k a b e u v : ℕ) {x : ℕ} → a % 2 ^ k ≡ x → e % 2 ^ k ≡ x → one (a % 2 ^ k) (b % 2 ^ k) ≡ true
    → every k (λ j. reader.asks (code (bit a j) (bit b j)) (eqb (bit e j) 1) u v) ≡ by_code (λ d. reader.asks d true u v) (a % 2 ^ k) (b % 2 ^ k)
all_equal k a b e u v p r h =
    every_like k _ _ (λ j g. rw (bits_same k e a (r ∙ sym p) j g) (equal_is u v (digit_at a j) (digit_at b j)))
    ∙ every_code (λ d. reader.asks d true u v) refl k a b h

-- every bit's code with what SC3 has there, by the setting of the syllable
by_setting : (k a b e u v : ℕ) {x y z : ℕ} → a % 2 ^ k ≡ x → b % 2 ^ k ≡ y → e % 2 ^ k ≡ z → Setting x y z → one x y ≡ true
    → every k (λ j. reader.asks (code (bit a j) (bit b j)) (eqb (bit e j) 1) u v) ≡ asks x y z u v
by_setting k a b e u v p q r (none x y) h =
    every_like k _ _ (λ j g. rw (bits_same k e 0 (r ∙ sym (zero-mod (2 ^ k))) j g ∙ bit_none j) refl)
    ∙ every_code (λ d. reader.asks d false u v) refl k a b (rw (p, q) h)
    ∙ rw (p, q) (asks_is x y u v)
by_setting k a b e u v p q r (least x) h = all_equal k a b e u v p r (rw (p, q) h) ∙ rw (p, q) refl
by_setting k a b e u v p q r (most x) h = all_equal k a b e u v p r (rw (p, q) h) ∙ rw (p, q) refl

read_is : (p : Panel) (lo k x : ℕ) → read_over p (at lo k) x ≡ bit_and (from lo x) (bit_or (from lo p.sc1) (from lo p.sc2)) % 2 ^ k
read_is p lo k x =
    number_is k _ _ (λ j g.
    rw (codes p lo j, shifted x lo j, and_bit, or_bit)
    (care (digit_at (from lo p.sc1) j) (digit_at (from lo p.sc2) j) (digit_at (from lo x) j)))

satisfied_is : (p : Panel) (lo k w : ℕ)
    → let a = from lo p.sc1 in
    let b = from lo p.sc2 in
    let e = from lo p.sc3 in
    one (a % 2 ^ k) (b % 2 ^ k) ≡ true → Setting (a % 2 ^ k) (b % 2 ^ k) (e % 2 ^ k)
    → satisfied p w (at lo k)
    ≡ asks (a % 2 ^ k) (b % 2 ^ k) (e % 2 ^ k) (bit_and (from lo w) (bit_or a b) % 2 ^ k) (bit_and (from lo p.comp) (bit_or a b) % 2 ^ k)
unfolding satisfied
satisfied_is p lo k w h s =
    let a = from lo p.sc1 in
    let b = from lo p.sc2 in
    let e = from lo p.sc3 in
    every_like k _ _ (λ j g. rw (codes p lo j, shifted p.sc3 lo j) refl)
    ∙ by_setting k a b e (read_over p (at lo k) w) (read_over p (at lo k) p.comp) refl refl refl s h
    ∙ ap₂ (asks (a % 2 ^ k) (b % 2 ^ k) (e % 2 ^ k)) (read_is p lo k w) (read_is p lo k p.comp)

-- ---- all syllables of a search that 5 lets pass

all_are : (p : Panel) (w lo : ℕ) (ks : List ℕ) → Unmixed ks (p.sc1 / 2 ^ lo) (p.sc2 / 2 ^ lo) (p.sc3 / 2 ^ lo)
    → all (satisfied p w) (place lo ks) ≡ satisfied_in ks (p.sc1 / 2 ^ lo) (p.sc2 / 2 ^ lo) (p.sc3 / 2 ^ lo) (w / 2 ^ lo) (p.comp / 2 ^ lo)
unfolding all place one_in satisfied_in
all_are p w lo [] u = refl
all_are p w lo (k ∷ ks) u =
    rw (shr-shr p.sc1 lo (suc k), shr-shr p.sc2 lo (suc k), shr-shr p.sc3 lo (suc k), shr-shr w lo (suc k), shr-shr p.comp lo (suc k))
    (ap₂ (λ (x y : Bool). x && y) (satisfied_is p lo (suc k) w (and_left _ _ u.codes) (first k ks _ _ _ u))
    (all_are p w (lo + suc k) ks
    (rw (shr-shr p.sc1 lo (suc k), shr-shr p.sc2 lo (suc k), shr-shr p.sc3 lo (suc k)) at (rest k ks _ _ _ u))))

pub all_satisfied_is : (n : ℕ) (p : Panel) (w : ℕ) → Unmixed (fields n p.sdr) p.sc1 p.sc2 p.sc3
    → all (satisfied p w) (syllables n p.sdr) ≡ satisfied_in (fields n p.sdr) p.sc1 p.sc2 p.sc3 w p.comp
all_satisfied_is n p w u =
    ap (all (satisfied p w)) (syllables_are n p.sdr)
    ∙ rw (div-one p.sc1, div-one p.sc2, div-one p.sc3, div-one w, div-one p.comp) at (all_are p w 0 (fields n p.sdr) (rw (div-one p.sc1, div-one p.sc2, div-one p.sc3) u))

-- ---- add

over_is : (x lo k : ℕ) (f : ℕ → ℕ) → ((i : ℕ) → bit x i ≡ f i) → over (at lo k) f ≡ x / 2 ^ lo % 2 ^ k
over_is x lo k f h = number_is k (x / 2 ^ lo) _ (λ j g. sym (shifted x lo j) ∙ h (lo + j))

sums_are : (p : Panel) (w lo : ℕ) (ks : List ℕ)
    → sums p w (place lo ks) ≡ add_in ks (w / 2 ^ lo) (bit_and p.comp p.mor / 2 ^ lo) 0 * 2 ^ lo
unfolding sums place add_in
sums_are p w lo [] = omega arith
sums_are p w lo (k ∷ ks) =
    let a : ℕ = bit_and p.comp p.mor in
    rw (
      over_is w lo (suc k) (bit w) (λ i. refl),
      over_is a lo (suc k) (addend p) (addend_is p),
      sums_are p w (lo + suc k) ks,
      mod-add-mod,
      add-mod-mod,
      shr-shr w lo (suc k),
      shr-shr a lo (suc k),
      add-zero,
      pow-add 2 lo (suc k),
    ) (omega arith)

pub added_is : (n : ℕ) (p : Panel) (w : ℕ) → added n p w ≡ add_in (fields n p.sdr) w (bit_and p.comp p.mor) 0
unfolding added
added_is n p w =
    ap (sums p w) (syllables_are n p.sdr)
    ∙ sums_are p w 0 (fields n p.sdr)
    ∙ rw (div-one w, div-one (bit_and p.comp p.mor)) (omega arith)
