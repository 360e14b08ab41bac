-- One step of each of the plain machine's loops, over plain numbers: a record of what holds, its start, its step and its end.
use Prim.Native.Nat.{ℕ, suc, ◌+◌, ◌*◌, ◌^◌, ◌≤◌, ◌<◌}
use mathlib.Core.Path.{◌≡◌, refl, sym, ap, ◌∙◌}
use mathlib.Core.Bool.{Bool, true, false, not}
use native.Mathlib.Nat.{pow-suc, mul-le-mul_right, le_antisymm}
use native.Mathlib.Numerals.{add-one}
use native.Mathlib.Omega.{arith}
use lib.Dec.{eqb}
use lib.ListN.{length}
use lib.Pow.{pow_mono}
use borrow.Author.Tests.{ne_eqb}
use Rattle.std.specs.Bool.{MatchBool}
use Rattle.std.specs.List.{range_with_len, AllWithin, HoldsAt}
use Rattle.std.proofs.lemmas.List.FromFn.{length-range_with_len, get_or-range_with_len}
use Rattle.laws.specs.Bits.{number, every, pick}
use Rattle.laws.proofs.Bits.{every_like, every_at, every_all}
use Rattle.laws.specs.Lists.{all}
use Rattle.machine.specs.Machine.{Syllable, is_top, down_from, syllables}
use Rattle.machine.proofs.Machine.{all_up, all_down}
use Rattle.chains.specs.Walks.{here}

-- ---- bits

pub taken_one : {A : Type 0} (b : ℕ) (x y : A) → b ≡ 1 → x ≡ pick (eqb b 1) x y
taken_one b x y h = rw h

pub left_one : {A : Type 0} (b : ℕ) (x y : A) → (b ≡ 1 → ⊥) → y ≡ pick (eqb b 1) x y
left_one b x y h = rw (ne_eqb b 1 h)

-- ---- a number built from its lowest bit up

pub record Built (n : ℕ) (f : ℕ → ℕ) (x i : ℕ) : Type 0 where
  pub within : i ≤ n
  pub is : x ≡ number i f
  pub small : x < 2 ^ i

module _ (n : ℕ) (f : ℕ → ℕ) where
  pub built_start : Built n f 0 0
  unfolding number
  built_start = record { within = omega arith; is = refl; small = omega arith }

  module _ (x i b y : ℕ) (h : Built n f x i) (l : i < n) (one : b ≤ 1) (e : y ≡ b * 2 ^ i) where
    next_lt : x + y < 2 ^ suc i
    next_lt = rw (pow-suc 2 i) (omega (arith, mul-le-mul_right (2 ^ i) one, h.small))

    pub built_room : n ≤ 64 → x + y < 2 ^ 64
    built_room g = let k : suc i ≤ 64 = omega arith in omega (arith, next_lt, pow_mono k)

    pub built_step : b ≡ f i → Built n f (x + y) (i + 1)
    unfolding number
    built_step g =
        rw (add-one i) (record {
          within = omega arith;
          is = omega (arith, h.is, ap (λ (z : ℕ). z * 2 ^ i) g);
          small = next_lt;
        })

  pub built_done : (x i : ℕ) → Built n f x i → n ≤ i → (x ≡ number n f) × (x < 2 ^ n)
  built_done x i h g = let e : i ≡ n = le_antisymm h.within g in (rw e at h.is, rw e at h.small)

-- ---- what `all` answers over the n bits from bit `low` up

abbrev pub AllOver : (ℕ → Bool) → ℕ → ℕ → Bool → Type 0
AllOver f low n r =
    MatchBool r (AllWithin (λ i. f i ≡ true) (range_with_len low n) 0 (length (range_with_len low n))) ((k : ℕ) × (k < length (range_with_len low n)) × HoldsAt (λ i. f i ≡ false) (range_with_len low n) k)

pub every_over : (f : ℕ → Bool) (low n : ℕ) (r : Bool) → AllOver f low n r → r ≡ every n (λ j. f (low + j))
every_over f low n true h =
    sym (every_all n _ (λ j l. ap f (sym (get_or-range_with_len low n j 0 l)) ∙ h j 0 (omega arith) (omega (arith, length-range_with_len low n))))
every_over f low n false h = go (every n (λ j. f (low + j))) refl
  where
    go : (b : Bool) → every n (λ j. f (low + j)) ≡ b → false ≡ b
    go true e =
        let l : h.0 < n = omega (arith, h.1, length-range_with_len low n) in
        sym (h.2 0) ∙ ap f (get_or-range_with_len low n h.0 0 l) ∙ every_at n _ e h.0 l
    go false e = refl

-- of every syllable, by the test at each bit
pub all_here : (f : Syllable → Bool) (n s : ℕ) (r : Bool) → AllOver (here f n s) 0 n r → r ≡ all f (syllables n s)
unfolding here
all_here f n s r h = every_over (here f n s) 0 n r h ∙ every_like n _ _ (λ i l. ap (here f n s) (omega arith)) ∙ same (every n (here f n s)) (all f (syllables n s)) refl refl
  where
    on : (i : ℕ) → (t : Bool) → t ≡ true → pick t (f (down_from s i)) true ≡ true → f (down_from s i) ≡ true
    on i true e h = h
    on i false e h = cc

    up : (i : ℕ) → (t : Bool) → (t ≡ true → f (down_from s i) ≡ true) → pick t (f (down_from s i)) true ≡ true
    up i true h = h refl
    up i false h = refl

    same : (a b : Bool) → every n (here f n s) ≡ a → all f (syllables n s) ≡ b → a ≡ b
    same true b e g = sym (all_up f n s (λ i l t. on i (is_top n s i) t (every_at n _ e i l))) ∙ g
    same false true e g = sym e ∙ every_all n _ (λ i l. up i (is_top n s i) (λ t. all_down f n s i l t g))
    same false false e g = refl

-- ---- the test at one bit

pub here_on : (f : Syllable → Bool) (n s i : ℕ) (y : Syllable) (t u : Bool) → u ≡ is_top n s i → u ≡ true → y ≡ down_from s i → t ≡ f y → t ≡ here f n s i
unfolding here
here_on f n s i y t u e h d g = rw (sym e ∙ h) (g ∙ ap f d)

pub here_off : (f : Syllable → Bool) (n s i : ℕ) (u : Bool) → u ≡ is_top n s i → u ≡ false → not u ≡ here f n s i
unfolding here
here_off f n s i u e h = rw (sym e ∙ h, h)
