-- A number's digits, one after the other.
use Prim.Native.Nat.{ℕ, zero, suc, ◌+◌, ◌*◌, ◌/◌, ◌%◌, ◌^◌, ◌<◌, ◌≤◌}
use mathlib.Core.Path.{◌≡◌, refl, ap, sym, ◌∙◌}
use mathlib.Core.List.{List, [], ◌∷◌, ◌++◌}
use borrow.Author.Tests.{lt-ltb, le-ltb}
use Rattle.output.specs.Digits.{capital, hex_digits, decimal_digits, pair}
use native.Mathlib.Omega.{arith}
use lib.Pow.{pow-add}
use mathlib.Core.Logic.{◌⊎◌, inl, inr, ⊎_elim}
use Rattle.laws.proofs.Digits.{tri}
use native.Mathlib.Nat.{pow-suc, div-lt_iff_lt-mul}

-- ---- a hex digit, after which k are still to be put

same_power : (k : ℕ) → 2 ^ (4 * k) ≡ 16 ^ k
same_power zero = refl
same_power (suc k) =
    let e : 4 * suc k ≡ 4 * k + 4 = omega arith in
    rw (e, pow-add 2 (4 * k) 4, pow-suc 16 k, same_power k)

pub next_digit : (left k x d : ℕ) → left ≡ suc k → d ≡ capital (x / 2 ^ (4 * k)) → hex_digits left x ≡ (d ∷ []) ++ hex_digits k x
unfolding hex_digits
next_digit left k x d e f = rw (e, f, same_power k)

pub no_digit : (x : ℕ) → hex_digits 0 x ≡ []
unfolding hex_digits
no_digit x = refl

pub two_digits : (x : ℕ) → hex_digits 2 x ≡ pair x
unfolding hex_digits
two_digits x = let e : x / 1 ≡ x = omega arith in rw e

-- ---- the digits of a number are those of its tenth, and its last one

pub one_digit : (k x : ℕ) → x < 10 → decimal_digits (suc k) x ≡ (48 + x) ∷ []
unfolding decimal_digits
one_digit k x h = rw (lt-ltb x 10 h) refl

more_digits : (k x : ℕ) → 10 ≤ x → decimal_digits (suc k) x ≡ decimal_digits k (x / 10) ++ ((48 + x % 10) ∷ [])
unfolding decimal_digits
more_digits k x h = rw (le-ltb x 10 h) refl

either_way : (x : ℕ) → (x < 10) ⊎ (10 ≤ x)
either_way x = ⊎_elim (λ h. inl h) (λ over. inr (⊎_elim (λ e. omega arith) (λ h. omega arith) over)) (tri x 10)

-- with room for so many, one place more changes nothing
enough : (k x : ℕ) → x < 10 ^ suc k → decimal_digits (suc (suc k)) x ≡ decimal_digits (suc k) x
enough zero x h = one_digit 1 x (omega (arith, h)) ∙ sym (one_digit 0 x (omega (arith, h)))
enough (suc k) x h =
    let less : x / 10 < 10 ^ suc k = (div-lt_iff_lt-mul {k = 10} (omega arith)).1 (rw (pow-suc 10 (suc k)) at h) in
    ⊎_elim (λ (below : x < 10). one_digit (suc (suc k)) x below ∙ sym (one_digit (suc k) x below))
    (λ (above : 10 ≤ x). rw (more_digits (suc (suc k)) x above, more_digits (suc k) x above) (ap (λ (s : List ℕ). s ++ ((48 + x % 10) ∷ [])) (enough k (x / 10) less)))
    (either_way x)

pub one_more_digit : (x : ℕ) → x < 18446744073709551616 → 10 ≤ x → decimal_digits 20 x ≡ decimal_digits 20 (x / 10) ++ ((48 + x % 10) ∷ [])
one_more_digit x h above =
    let few : x / 10 < 10 ^ 19 = omega arith in
    more_digits 19 x above ∙ ap (λ (s : List ℕ). s ++ ((48 + x % 10) ∷ [])) (sym (enough 18 (x / 10) few))
