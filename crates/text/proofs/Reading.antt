-- A number read digit by digit: what one digit more does, by the definitions of specs/Numbers.
use Prim.Native.Nat.{ℕ, suc, ◌+◌, ◌-◌, ◌*◌, ◌/◌, ◌^◌, ◌≤◌, ◌<◌}
use mathlib.Core.Bool.{Bool, true, false}
use mathlib.Core.Path.{◌≡◌, ap, sym, ◌∙◌}
use mathlib.Core.List.{List, ◌∷◌}
use native.Mathlib.Numerals.{add-one}
use native.Mathlib.Omega.{arith}
use native.Mathlib.Nat.{le-div_iff_mul-le, div-lt_iff_lt-mul}
use borrow.Author.Tests.{le-leb, lt-leb}
use lib.Dec.{eqb}
use lib.ListN.{length, drop, get_or}
use lib.Seq.{drop-cons, drop-length}
use Rattle.std.specs.Prelude.{Option, Some, None}
use Rattle.text.specs.Numbers.{digit_of, number_from, number_of}

-- ---- the next byte, by its digit

cons_on : (base x b : ℕ) (t : List ℕ) → digit_of b < base → x * base + digit_of b < 2 ^ 64 →
    number_from base x (b ∷ t) ≡ number_from base (x * base + digit_of b) t
unfolding number_from
cons_on base x b t h k = rw (lt-leb base (digit_of b) h, lt-leb (2 ^ 64) (x * base + digit_of b) k)

cons_none : (base x b : ℕ) (t : List ℕ) → base ≤ digit_of b → number_from base x (b ∷ t) ≡ None
unfolding number_from
cons_none base x b t h = rw (le-leb base (digit_of b) h)

cons_large : (base x b : ℕ) (t : List ℕ) → digit_of b < base → 2 ^ 64 ≤ x * base + digit_of b → number_from base x (b ∷ t) ≡ None
unfolding number_from
cons_large base x b t h k = rw (lt-leb base (digit_of b) h, le-leb (2 ^ 64) (x * base + digit_of b) k)

-- ---- the same at place i of the digits, where n is what all of them say

module _ (base x i : ℕ) (s : List ℕ) (n : Option ℕ) (told : number_from base x (drop i s) ≡ n) where
  pub ended : length s ≡ i → Some x ≡ n
  unfolding number_from
  ended e = rw (← e, drop-length) at told

  module _ (d : ℕ) (inside : i < length s) (is : d ≡ digit_of (get_or s i 0)) where
    next : number_from base x (get_or s i 0 ∷ drop (suc i) s) ≡ n
    next = ap (number_from base x) (sym (drop-cons s i 0 inside)) ∙ told

    pub on : d < base → x * base + d < 2 ^ 64 → number_from base (x * base + d) (drop (i + 1) s) ≡ n
    on h k =
        rw (is, add-one)
        (sym (cons_on base x (get_or s i 0) (drop (suc i) s) (rw is at h) (rw is at k)) ∙ next)

    pub none : base ≤ d → None ≡ n
    none h = sym (cons_none base x (get_or s i 0) (drop (suc i) s) (rw is at h)) ∙ next

    pub large : d < base → 2 ^ 64 ≤ x * base + d → None ≡ n
    large h k = sym (cons_large base x (get_or s i 0) (drop (suc i) s) (rw is at h) (rw is at k)) ∙ next

-- ---- the first and the last

pub empty : (base : ℕ) (s : List ℕ) (e : Bool) → e ≡ eqb (length s) 0 → e ≡ true → None ≡ number_of base s
unfolding number_of
empty base s e f h = rw (← f, h)

pub begins : (base : ℕ) (s : List ℕ) (e : Bool) → e ≡ eqb (length s) 0 → e ≡ false → number_from base 0 s ≡ number_of base s
unfolding number_of
begins base s e f h = rw (← f, h)

-- ---- the test that one digit more fits in 64 bits

pub fits : (base x d : ℕ) → 0 < base → d ≤ 16 → x ≤ (18446744073709551615 - d) / base → x * base + d < 18446744073709551616
fits base x d h k e = omega (arith, (le-div_iff_mul-le h).0 e)

pub too_large : (base x d : ℕ) → 0 < base → d ≤ 16 → (18446744073709551615 - d) / base < x → 18446744073709551616 ≤ x * base + d
too_large base x d h k e = omega (arith, (div-lt_iff_lt-mul h).0 e)
