-- The word-wide search: ten operations on a word of 64 bits say whether all its syllables are satisfied, however many there are.
-- Document 01, 'One pulse', Search. A law for every width.
use Prim.Native.Nat.{ℕ, ◌+◌, ◌-◌, ◌/◌, ◌%◌, ◌^◌, ◌≤◌, ◌<◌, min}
use mathlib.Core.Path.{◌≡◌, refl, sym, ap, ◌∙◌}
use mathlib.Core.Bool.{true}
use native.Mathlib.Nat.{mod-eq_of_lt, mod-lt}
use native.Mathlib.Omega.{arith}
use lib.Dec.{eqb}
use lib.Arith.{bin_ind}
use lib.Pow.{pow_pos, pow_mono}
use lib.Bits.{bit_and, bit_or, bit_xor, differ, and_le_l, and_le_r, xor_add_and, and_zero_r, xor_lt, or_lt, and_lt, and_comm, and_mask}
use Rattle.laws.proofs.Digits.{Bit, off, on, low, and_half, and_low, xor_half, xor_low}
use Rattle.fields.specs.Fields.{fields, add_in, above_in}
use Rattle.fields.specs.Codes.{one_in}
use Rattle.fields.proofs.Sums.{and_not}
use Rattle.fields.proofs.Above.{wide, word_gt}
use Rattle.fields.proofs.Shape.{bits_fields}
use Rattle.fields.proofs.Blocks.{halves}
use Rattle.fields.proofs.Turned.{exact, larger, turned, limit, plain_in, lacks, match_is}

swap_low : {x y z : ℕ} → Bit x → Bit y → Bit z → differ x (differ y z) ≡ differ y (differ x z)
swap_low off off off = refl
swap_low off off on = refl
swap_low off on off = refl
swap_low off on on = refl
swap_low on off off = refl
swap_low on off on = refl
swap_low on on off = refl
swap_low on on on = refl

pub swap : (x y z : ℕ) → bit_xor x (bit_xor y z) ≡ bit_xor y (bit_xor x z)
swap = bin_ind (λ (x : ℕ). (y z : ℕ) → bit_xor x (bit_xor y z) ≡ bit_xor y (bit_xor x z)) (λ y z. refl)
    (λ x ih y z. halves (simp xor_half (ih (y / 2) (z / 2))) (simp xor_low (swap_low (low x) (low y) (low z))))

inside_low : {x y z : ℕ} → Bit x → Bit y → Bit z → min (min x y) (min z y) ≡ min (min z y) x
inside_low off off off = refl
inside_low off off on = refl
inside_low off on off = refl
inside_low off on on = refl
inside_low on off off = refl
inside_low on off on = refl
inside_low on on off = refl
inside_low on on on = refl

inside : (x y z : ℕ) → bit_and (bit_and x y) (bit_and z y) ≡ bit_and (bit_and z y) x
inside = bin_ind (λ (x : ℕ). (y z : ℕ) → bit_and (bit_and x y) (bit_and z y) ≡ bit_and (bit_and z y) x) (λ y z. sym (and_zero_r (bit_and z y)))
    (λ x ih y z. halves (simp and_half (ih (y / 2) (z / 2))) (simp and_low (inside_low (low x) (low y) (low z))))

-- the complement in n bits, by one xor
complement : (n x f : ℕ) → x < 2 ^ n → f < 2 ^ n → bit_xor x f + bit_xor x (bit_xor (2 ^ n - 1) f) ≡ 2 ^ n - 1
complement n x f hx hf =
    let z : bit_xor x f < 2 ^ n = xor_lt n x f hx hf in
    let e : bit_and (2 ^ n - 1) (bit_xor x f) ≡ bit_xor x f = and_comm (2 ^ n - 1) (bit_xor x f) ∙ and_mask (bit_xor x f) n ∙ mod-eq_of_lt z in
    omega (arith, swap x (2 ^ n - 1) f, xor_add_and (2 ^ n - 1) (bit_xor x f), e)

abbrev pub majority : ℕ → ℕ → ℕ → ℕ
majority k u s = bit_or (bit_and k u) (bit_and (bit_or k u) s)

-- the tops that are asked for and missing
missing : (g t x need : ℕ) → g < 2 ^ 64 → need < 2 ^ 64 → need ≡ bit_and x t → bit_and need (2 ^ 64 - 1 - g) ≡ need - bit_and (bit_and g t) need
missing g t x need hg hn e =
    let i : bit_and (bit_and g t) need ≡ bit_and need g = ap (bit_and (bit_and g t)) e ∙ inside g t x ∙ sym (ap (λ (y : ℕ). bit_and y g) e) in
    and_not 64 need g hn hg ∙ ap (λ (y : ℕ). need - y) (sym i)

pub limit_lt : (n a b c z : ℕ) → a < 2 ^ n → b < 2 ^ n → limit a b c z < 2 ^ n
unfolding limit
limit_lt n a b c z ha hb =
    let ab : bit_and a b < 2 ^ n = and_lt n a b ha hb in
    let ex : exact a b < 2 ^ n = xor_lt n b (bit_and a b) hb ab in
    xor_lt n _ _ (xor_lt n (exact a b) (bit_and (exact a b) z) ex (omega (arith, and_le_l (exact a b) z))) (xor_lt n (bit_and c a) (larger a b) (omega (arith, and_le_r c a)) (xor_lt n a (bit_and a b) ha ab))

module _ (n t : ℕ) (pos : 0 < n) (fits : n ≤ 64) (ht : t < 2 ^ n) (top : t / 2 ^ (n - 1) % 2 ≡ 1) where
  core : (a b e c w u : ℕ) → one_in (fields n t) a b ≡ true → turned a b w c + u ≡ 2 ^ n - 1 → u < 2 ^ 64
      → limit a b c (add_in (fields n t) (exact a b) (2 ^ n - 1) 0) < 2 ^ n → bit_or a b < 2 ^ n → 2 ^ n ≤ 2 ^ 64
      → let k = limit a b c (add_in (fields n t) (exact a b) (2 ^ n - 1) 0) in
      eqb (bit_and (above_in (fields n t) (bit_or a b) 0 0) (2 ^ 64 - 1 - majority k u ((bit_and k (2 ^ 64 - 1 - t) + bit_and u (2 ^ 64 - 1 - t)) % 2 ^ 64))) (above_in (fields n t) e 0 0)
      ≡ plain_in (fields n t) a b e w c
  unfolding wide
  core a b e c w u one sum hu hk hc big =
      let t64 : t < 2 ^ 64 = omega arith in
      let k = limit a b c (add_in (fields n t) (exact a b) (2 ^ n - 1) 0) in
      let s = (bit_and k (2 ^ 64 - 1 - t) + bit_and u (2 ^ 64 - 1 - t)) % 2 ^ 64 in
      let need = above_in (fields n t) (bit_or a b) 0 0 in
      let x = majority (bit_or a b) (2 ^ n - 1) ((bit_and (bit_or a b) (2 ^ 64 - 1 - t) + bit_and (2 ^ n - 1) (2 ^ 64 - 1 - t)) % 2 ^ 64) in
      let d : need ≡ bit_and x t = sym (word_gt n t (bit_or a b) 0 (2 ^ n - 1) pos fits ht top (omega arith) t64 (omega (arith, pow_pos n)) (omega arith)) in
      let hn : need < 2 ^ 64 = omega (arith, d, and_le_r x t) in
      let hs : s < 2 ^ 64 = mod-lt (bit_and k (2 ^ 64 - 1 - t) + bit_and u (2 ^ 64 - 1 - t)) (pow_pos 64) in
      let hg : majority k u s < 2 ^ 64 = or_lt 64 (bit_and k u) (bit_and (bit_or k u) s) (omega (arith, and_le_r k u)) (omega (arith, and_le_r (bit_or k u) s)) in
      ap (λ (y : ℕ). eqb y (above_in (fields n t) e 0 0)) (missing (majority k u s) t x need hg hn d)
      ∙ ap (λ (y : ℕ). eqb (need - bit_and y need) (above_in (fields n t) e 0 0)) (word_gt n t k (turned a b w c) u pos fits ht top (omega arith) t64 hu sum)
      ∙ ap (λ (z : ℕ). lacks (fields n t) (limit a b c (add_in (fields n t) (exact a b) (2 ^ z - 1) 0)) (turned a b w c) (bit_or a b) e) (sym (bits_fields n t))
      ∙ match_is (fields n t) a b e w c one

  pub search_word : (a b e c w : ℕ) → a < 2 ^ n → b < 2 ^ n → one_in (fields n t) a b ≡ true
      → let u = bit_xor (bit_and w (bit_or a b)) (bit_xor (2 ^ n - 1) (bit_xor (larger a b) (bit_and c (exact a b)))) in
      let k = limit a b c (add_in (fields n t) (exact a b) (2 ^ n - 1) 0) in
      eqb (bit_and (above_in (fields n t) (bit_or a b) 0 0) (2 ^ 64 - 1 - majority k u ((bit_and k (2 ^ 64 - 1 - t) + bit_and u (2 ^ 64 - 1 - t)) % 2 ^ 64))) (above_in (fields n t) e 0 0)
      ≡ plain_in (fields n t) a b e w c
  unfolding turned
  search_word a b e c w ha hb one =
      let big : 2 ^ n ≤ 2 ^ 64 = pow_mono fits in
      let t64 : t < 2 ^ 64 = omega arith in
      let care : bit_or a b < 2 ^ n = or_lt n a b ha hb in
      let x : bit_and w (bit_or a b) < 2 ^ n = omega (arith, and_le_r w (bit_or a b)) in
      let ab : bit_and a b < 2 ^ n = and_lt n a b ha hb in
      let ex : exact a b < 2 ^ n = xor_lt n b (bit_and a b) hb ab in
      let f : bit_xor (larger a b) (bit_and c (exact a b)) < 2 ^ n = xor_lt n (larger a b) (bit_and c (exact a b)) (xor_lt n a (bit_and a b) ha ab) (omega (arith, and_le_r c (exact a b))) in
      let sum : turned a b w c + bit_xor (bit_and w (bit_or a b)) (bit_xor (2 ^ n - 1) (bit_xor (larger a b) (bit_and c (exact a b)))) ≡ 2 ^ n - 1 = complement n (bit_and w (bit_or a b)) (bit_xor (larger a b) (bit_and c (exact a b))) x f in
      core a b e c w (bit_xor (bit_and w (bit_or a b)) (bit_xor (2 ^ n - 1) (bit_xor (larger a b) (bit_and c (exact a b))))) one sum (omega (arith, sum)) (limit_lt n a b c (add_in (fields n t) (exact a b) (2 ^ n - 1) 0) ha hb) care big
