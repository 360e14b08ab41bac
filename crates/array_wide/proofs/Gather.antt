-- The OR of the chosen words' ones, gathered one word at a time: what is gathered and what is left give the whole; how many were chosen.
use Prim.Native.Nat.{ℕ, zero, suc, ◌+◌, ◌^◌, ◌≤◌, ◌<◌}
use mathlib.Core.Path.{◌≡◌, sym, ap, ◌∙◌}
use mathlib.Core.Bool.{Bool, true, false}
use mathlib.Core.List.{List}
use native.Mathlib.Nat.{mod-eq_of_lt, pow-suc}
use native.Mathlib.Numerals.{add-one}
use native.Mathlib.Omega.{arith}
use lib.ListN.{length, get_or}
use lib.Pow.{pow_mono}
use lib.Bits.{bit_or, or_zero_l, or_zero_r}
use Rattle.laws.specs.Bits.{bit, pick, digit}
use Rattle.laws.proofs.Bits.{same_bits, or_bit}
use Rattle.array.proofs.Walks.{words_from, words_cons, words_end}
use Rattle.array_wide.specs.Rules.{union}

-- ---- numbers with the same bits are the same

below_pow : (x : ℕ) → x < 2 ^ x
below_pow zero = omega arith
below_pow (suc x) = rw (pow-suc 2 x) (omega (arith, below_pow x))

by_bits : (x y : ℕ) → ((i : ℕ) → bit x i ≡ bit y i) → x ≡ y
by_bits x y h =
    let j : x ≤ x + y = omega arith in
    let k : y ≤ x + y = omega arith in
    let a : x < 2 ^ (x + y) = omega (arith, below_pow x, pow_mono j) in
    let b : y < 2 ^ (x + y) = omega (arith, below_pow y, pow_mono k) in
    sym (mod-eq_of_lt a) ∙ same_bits (x + y) x y (λ i g. h i) ∙ mod-eq_of_lt b

or_assoc : (x y z : ℕ) → bit_or (bit_or x y) z ≡ bit_or x (bit_or y z)
or_assoc x y z = by_bits (bit_or (bit_or x y) z) (bit_or x (bit_or y z)) (λ i. simp or_bit (omega arith))

-- ---- the walk

-- one more is counted exactly if the test holds
pub counted : (n : ℕ) {k : ℕ} {t : Bool} → t ≡ true → k ≡ n + 1 → k ≡ n + digit t
counted n h e = rw h e

pub passed_over : (n : ℕ) {k : ℕ} {t : Bool} → t ≡ false → k ≡ n → k ≡ n + digit t
passed_over n h e = rw (h, e) (omega arith)

module _ (chosen : ℕ → Bool) (os xs ss : List ℕ) where
  pub gather : (v i : ℕ) (t : Bool) → i < length os → i < length xs → i < length ss → t ≡ chosen (get_or ss i 0)
      → bit_or (pick t (bit_or v (get_or os i 0)) v) (union chosen (words_from os xs ss (i + 1))) ≡ bit_or v (union chosen (words_from os xs ss i))
  unfolding union
  gather v i t ho hx hs e = rw (add-one i, words_cons os xs ss i ho hx hs, ← e) (by t)
    where
      by : (t : Bool) → bit_or (pick t (bit_or v (get_or os i 0)) v) (union chosen (words_from os xs ss (suc i)))
          ≡ bit_or v (bit_or (pick t (get_or os i 0) 0) (union chosen (words_from os xs ss (suc i))))
      by true = or_assoc v (get_or os i 0) (union chosen (words_from os xs ss (suc i)))
      by false = sym (ap (bit_or v) (or_zero_l (union chosen (words_from os xs ss (suc i)))))

  pub gathered : (v i : ℕ) → length os ≤ i → bit_or v (union chosen (words_from os xs ss i)) ≡ v
  unfolding union
  gathered v i h = rw (words_end os xs ss i h) (or_zero_r v)
