-- Search as one comparison in each syllable: the word is turned so that every syllable asks for less than its limit.
-- Document 01, 'One pulse', Search. Smaller: the word against COMP. Larger: the complements of both. Exact: the difference against the lowest
-- cared bit. Laws for every width.
use Prim.Native.Nat.{ℕ, zero, suc, ◌+◌, ◌-◌, ◌*◌, ◌/◌, ◌%◌, ◌^◌, ◌<◌}
use mathlib.Core.Path.{◌≡◌, refl, sym, ap, ap₂, ◌∙◌}
use mathlib.Core.List.{List, [], ◌∷◌}
use mathlib.Core.Bool.{Bool, true, ◌&&◌}
use native.Mathlib.Nat.{mod-lt, add-mod}
use native.Mathlib.Omega.{arith}
use lib.Dec.{ltb, eqb, eqb-suc-zero}
use lib.Arith.{digits_div, digits_mod}
use lib.Pow.{pow_pos, ones_split}
use lib.Bits.{bit_and, bit_or, bit_xor, xor_add_and, and_zero_r, or_zero_r, xor_zero_r, and_self, or_self, xor_self, and_mod, or_mod, xor_mod, and_shr, or_shr, xor_shr}
use borrow.Author.Tests.{lt-ltb, eqb-true}
use Rattle.laws.proofs.Bits.{and_left, and_right}
use Rattle.fields.specs.Fields.{bits, add_in, above_in}
use Rattle.fields.specs.Codes.{one, one_in}
use Rattle.fields.proofs.Above.{ltb_cong}
use Rattle.fields.proofs.Blocks.{absorb, imp, about, tops_lack}
use Rattle.fields.proofs.Lowest.{below_lowest}

-- the bits of code exact, and of code larger
abbrev pub exact : ℕ → ℕ → ℕ
exact a b = bit_xor b (bit_and a b)

abbrev pub larger : ℕ → ℕ → ℕ
larger a b = bit_xor a (bit_and a b)

-- the word, turned so that every syllable asks for less than its limit
unfoldable pub turned : ℕ → ℕ → ℕ → ℕ → ℕ
turned a b w c = bit_xor (bit_and w (bit_or a b)) (bit_xor (larger a b) (bit_and c (exact a b)))

-- `less` is each syllable of the exact bits less one
unfoldable pub limit : ℕ → ℕ → ℕ → ℕ → ℕ
limit a b c less = bit_xor (bit_xor (exact a b) (bit_and (exact a b) less)) (bit_xor (bit_and c a) (larger a b))

turned_mod : (k a b w c : ℕ) → turned a b w c % 2 ^ k ≡ turned (a % 2 ^ k) (b % 2 ^ k) (w % 2 ^ k) (c % 2 ^ k)
unfolding turned
turned_mod k a b w c = simp (and_mod, or_mod, xor_mod)

turned_shr : (k a b w c : ℕ) → turned a b w c / 2 ^ k ≡ turned (a / 2 ^ k) (b / 2 ^ k) (w / 2 ^ k) (c / 2 ^ k)
unfolding turned
turned_shr k a b w c = simp (and_shr, or_shr, xor_shr)

limit_mod : (k a b c z : ℕ) → limit a b c z % 2 ^ k ≡ limit (a % 2 ^ k) (b % 2 ^ k) (c % 2 ^ k) (z % 2 ^ k)
unfolding limit
limit_mod k a b c z = simp (and_mod, xor_mod)

limit_shr : (k a b c z : ℕ) → limit a b c z / 2 ^ k ≡ limit (a / 2 ^ k) (b / 2 ^ k) (c / 2 ^ k) (z / 2 ^ k)
unfolding limit
limit_shr k a b c z = simp (and_shr, xor_shr)

-- ---- one syllable

under : (w a : ℕ) → bit_and (bit_and w a) a ≡ bit_and w a
under w a = simp (xor_zero_r) at (absorb a w 0)

others : (w a : ℕ) → bit_xor (bit_and w a) a + bit_and w a ≡ a
others w a = omega (arith, xor_add_and (bit_and w a) a, under w a)

-- what a field of one code asks where SC3 has no one in it
abbrev pub plain : ℕ → ℕ → ℕ → ℕ → Bool
plain zero zero w c = true
plain zero (suc b) w c = eqb w c
plain (suc a) zero w c = ltb c w
plain (suc a) (suc b) w c = ltb w c

decide : (a b x y v q p : ℕ) → one a b ≡ true
    → (a ≡ 0 → v ≡ b) → (b ≡ 0 → v ≡ a) → (a ≡ b → v ≡ a)
    → (a ≡ 0 → 0 < b → ltb p q ≡ eqb x y)
    → (b ≡ 0 → ltb p q ≡ ltb y x)
    → (a ≡ b → ltb p q ≡ ltb x y)
    → plain a b x y ≡ imp (ltb 0 v) (ltb p q)
decide zero zero x y v q p h va vb vs e g s = sym (simp (va refl))
decide zero (suc b) x y v q p h va vb vs e g s = sym (simp (va refl, lt-ltb 0 (suc b) (omega arith), e refl (omega arith)))
decide (suc a) zero x y v q p h va vb vs e g s = sym (simp (vb refl, lt-ltb 0 (suc a) (omega arith), g refl))
decide (suc a) (suc b) x y v q p h va vb vs e g s =
    let r = eqb-true (suc a) (suc b) (simp (eqb-suc-zero) at h) in
    sym (simp (vs r, lt-ltb 0 (suc a) (omega arith), s r))

less_one : (b k : ℕ) → 0 < b → b < 2 ^ k → (b + (2 ^ k - 1)) % 2 ^ k ≡ b - 1
less_one b k h g =
    let e : b + (2 ^ k - 1) ≡ 1 * 2 ^ k + (b - 1) = omega (arith, pow_pos k) in
    ap (λ (x : ℕ). x % 2 ^ k) e ∙ digits_mod 1 (omega arith)

by_exact : (k b w c : ℕ) → 0 < b → b < 2 ^ k
    → ltb (turned 0 b w c) (limit 0 b c ((exact 0 b + (2 ^ k - 1)) % 2 ^ k)) ≡ eqb (bit_and w (bit_or 0 b)) (bit_and c (bit_or 0 b))
unfolding turned limit
by_exact k b w c h g = simp (xor_zero_r, and_zero_r, less_one b k h g) (below_lowest b w c h)

by_larger : (a w c z : ℕ) → ltb (turned a 0 w c) (limit a 0 c z) ≡ ltb (bit_and c (bit_or a 0)) (bit_and w (bit_or a 0))
unfolding turned limit
by_larger a w c z =
    simp (and_zero_r, xor_zero_r, or_zero_r)
    (ltb_cong (bit_xor (bit_and w a) a) (bit_xor (bit_and c a) a) (bit_and c a) (bit_and w a) (λ h. omega (arith, others w a, others c a)) (λ h. omega (arith, others w a, others c a)))

by_smaller : (a w c z : ℕ) → ltb (turned a a w c) (limit a a c z) ≡ ltb (bit_and w (bit_or a a)) (bit_and c (bit_or a a))
unfolding turned limit
by_smaller a w c z = simp (and_self, or_self, xor_self, and_zero_r, xor_zero_r)

field : (k a b w c : ℕ) → one a b ≡ true → b < 2 ^ k
    → plain a b (bit_and w (bit_or a b)) (bit_and c (bit_or a b)) ≡ imp (ltb 0 (bit_or a b)) (ltb (turned a b w c) (limit a b c ((exact a b + (2 ^ k - 1)) % 2 ^ k)))
field k a b w c h g =
    decide a b (bit_and w (bit_or a b)) (bit_and c (bit_or a b)) (bit_or a b) (limit a b c ((exact a b + (2 ^ k - 1)) % 2 ^ k)) (turned a b w c) h
    (λ e. ap (λ (x : ℕ). bit_or x b) e) (λ e. ap (bit_or a) e ∙ or_zero_r a) (λ e. ap (bit_or a) (sym e) ∙ or_self a)
    (λ e p. rw e (by_exact k b w c p g))
    (λ e. rw e (by_larger a w c _))
    (λ e. rw (← e) (by_smaller a w c _))

-- ---- all syllables

all_ones : (k ks : ℕ) → (2 ^ (ks + k) - 1) % 2 ^ k ≡ 2 ^ k - 1
all_ones k ks =
    let e : 2 ^ (ks + k) - 1 ≡ (2 ^ ks - 1) * 2 ^ k + (2 ^ k - 1) = ones_split ks k in
    ap (λ (x : ℕ). x % 2 ^ k) e ∙ digits_mod (2 ^ ks - 1) (omega (arith, pow_pos k))

all_over : (k ks : ℕ) → (2 ^ (ks + k) - 1) / 2 ^ k ≡ 2 ^ ks - 1
all_over k ks =
    let e : 2 ^ (ks + k) - 1 ≡ (2 ^ ks - 1) * 2 ^ k + (2 ^ k - 1) = ones_split ks k in
    ap (λ (x : ℕ). x / 2 ^ k) e ∙ digits_div (2 ^ ks - 1) (omega (arith, pow_pos k))

-- each syllable of x less one
abbrev pub less_in : List ℕ → ℕ → ℕ
less_in ks x = add_in ks x (2 ^ bits ks - 1) 0

module _ (k : ℕ) (ks : List ℕ) (x : ℕ) where
  less_mod : less_in (k ∷ ks) x % 2 ^ suc k ≡ (x % 2 ^ suc k + (2 ^ suc k - 1)) % 2 ^ suc k
  unfolding add_in bits
  less_mod =
      let e : x + (2 ^ (bits ks + suc k) - 1) + 0 ≡ x + (2 ^ (bits ks + suc k) - 1) = omega arith in
      digits_mod (add_in ks (x / 2 ^ suc k) ((2 ^ (bits ks + suc k) - 1) / 2 ^ suc k) 0) (mod-lt (x + (2 ^ (bits ks + suc k) - 1) + 0) (pow_pos (suc k)))
      ∙ ap (λ (z : ℕ). z % 2 ^ suc k) e
      ∙ add-mod x (2 ^ (bits ks + suc k) - 1) (2 ^ suc k)
      ∙ ap (λ (z : ℕ). (x % 2 ^ suc k + z) % 2 ^ suc k) (all_ones (suc k) (bits ks))

  less_div : less_in (k ∷ ks) x / 2 ^ suc k ≡ less_in ks (x / 2 ^ suc k)
  unfolding add_in bits
  less_div =
      digits_div (add_in ks (x / 2 ^ suc k) ((2 ^ (bits ks + suc k) - 1) / 2 ^ suc k) 0) (mod-lt (x + (2 ^ (bits ks + suc k) - 1) + 0) (pow_pos (suc k)))
      ∙ ap (λ (z : ℕ). add_in ks (x / 2 ^ suc k) z 0) (all_over (suc k) (bits ks))

head : (k : ℕ) (ks : List ℕ) (a b w c : ℕ) → one (a % 2 ^ suc k) (b % 2 ^ suc k) ≡ true
    → imp (ltb 0 (bit_or a b % 2 ^ suc k)) (ltb (turned a b w c % 2 ^ suc k) (limit a b c (less_in (k ∷ ks) (exact a b)) % 2 ^ suc k))
    ≡ plain (a % 2 ^ suc k) (b % 2 ^ suc k) (bit_and w (bit_or a b) % 2 ^ suc k) (bit_and c (bit_or a b) % 2 ^ suc k)
head k ks a b w c h =
    let e : less_in (k ∷ ks) (exact a b) % 2 ^ suc k ≡ (exact (a % 2 ^ suc k) (b % 2 ^ suc k) + (2 ^ suc k - 1)) % 2 ^ suc k
    = less_mod k ks (exact a b) ∙ ap (λ (z : ℕ). (z + (2 ^ suc k - 1)) % 2 ^ suc k) (xor_mod b (bit_and a b) (suc k) ∙ ap (bit_xor (b % 2 ^ suc k)) (and_mod a b (suc k))) in
    ap₂ imp (ap (ltb 0) (or_mod a b (suc k))) (ap₂ ltb (turned_mod (suc k) a b w c) (limit_mod (suc k) a b c (less_in (k ∷ ks) (exact a b)) ∙ ap (limit (a % 2 ^ suc k) (b % 2 ^ suc k) (c % 2 ^ suc k)) e))
    ∙ sym (field (suc k) (a % 2 ^ suc k) (b % 2 ^ suc k) (w % 2 ^ suc k) (c % 2 ^ suc k) h (mod-lt b (pow_pos (suc k))))
    ∙ sym (ap₂ (plain (a % 2 ^ suc k) (b % 2 ^ suc k)) (and_mod w (bit_or a b) (suc k) ∙ ap (bit_and (w % 2 ^ suc k)) (or_mod a b (suc k))) (and_mod c (bit_or a b) (suc k) ∙ ap (bit_and (c % 2 ^ suc k)) (or_mod a b (suc k))))

-- all fields are satisfied, or not satisfied where e has a one
unfoldable pub plain_in : List ℕ → ℕ → ℕ → ℕ → ℕ → ℕ → Bool
plain_in [] a b e w c = true
plain_in (k ∷ ks) a b e w c =
    about (ltb 0 (e % 2 ^ suc k)) (plain (a % 2 ^ suc k) (b % 2 ^ suc k) (bit_and w (bit_or a b) % 2 ^ suc k) (bit_and c (bit_or a b) % 2 ^ suc k))
    && plain_in ks (a / 2 ^ suc k) (b / 2 ^ suc k) (e / 2 ^ suc k) (w / 2 ^ suc k) (c / 2 ^ suc k)

-- of the tops that v asks for, those at which q is not larger than p are those of the fields in which e has a one
abbrev pub lacks : List ℕ → ℕ → ℕ → ℕ → ℕ → Bool
lacks ks q p v e = eqb (above_in ks v 0 0 - bit_and (above_in ks q p 0) (above_in ks v 0 0)) (above_in ks e 0 0)

pub match_is : (ks : List ℕ) (a b e w c : ℕ) → one_in ks a b ≡ true
    → lacks ks (limit a b c (less_in ks (exact a b))) (turned a b w c) (bit_or a b) e ≡ plain_in ks a b e w c
unfolding plain_in one_in above_in
match_is [] a b f w c h = refl
match_is (k ∷ ks) a b f w c h =
    let e : less_in (k ∷ ks) (exact a b) / 2 ^ suc k ≡ less_in ks (exact (a / 2 ^ suc k) (b / 2 ^ suc k))
    = less_div k ks (exact a b) ∙ ap (less_in ks) (xor_shr b (bit_and a b) (suc k) ∙ ap (bit_xor (b / 2 ^ suc k)) (and_shr a b (suc k))) in
    tops_lack k ks (bit_or a b) (limit a b c (less_in (k ∷ ks) (exact a b))) (turned a b w c) f
    ∙ ap₂ (λ (x y : Bool). about (ltb 0 (f % 2 ^ suc k)) x && y) (head k ks a b w c (and_left _ _ h))
    (ap₂ (λ (x y : ℕ). lacks ks x y (bit_or a b / 2 ^ suc k) (f / 2 ^ suc k)) (limit_shr (suc k) a b c (less_in (k ∷ ks) (exact a b)) ∙ ap (limit (a / 2 ^ suc k) (b / 2 ^ suc k) (c / 2 ^ suc k)) e) (turned_shr (suc k) a b w c)
    ∙ ap (λ (x : ℕ). lacks ks (limit (a / 2 ^ suc k) (b / 2 ^ suc k) (c / 2 ^ suc k) (less_in ks (exact (a / 2 ^ suc k) (b / 2 ^ suc k)))) (turned (a / 2 ^ suc k) (b / 2 ^ suc k) (w / 2 ^ suc k) (c / 2 ^ suc k)) x (f / 2 ^ suc k)) (or_shr a b (suc k))
    ∙ match_is ks (a / 2 ^ suc k) (b / 2 ^ suc k) (f / 2 ^ suc k) (w / 2 ^ suc k) (c / 2 ^ suc k) (and_right (one (a % 2 ^ suc k) (b % 2 ^ suc k)) _ h))
