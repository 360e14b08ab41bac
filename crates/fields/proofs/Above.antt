-- Comparing by syllables is one sum of whole words: q is larger than p where q and the complement of p carry out of the syllable's top.
-- Document 01, 'One pulse', Search (larger, smaller) and refusal 5. Laws for every width.
use Prim.Native.Nat.{ℕ, zero, suc, ◌+◌, ◌-◌, ◌*◌, ◌/◌, ◌%◌, ◌^◌, ◌≤◌, ◌<◌, min, max}
use mathlib.Core.Path.{◌≡◌, refl, sym, ap, ap₂, ◌∙◌}
use mathlib.Core.List.{List, [], ◌∷◌}
use mathlib.Core.Bool.{Bool, true, false}
use mathlib.Core.Logic.{⊎_elim}
use native.Mathlib.Nat.{mod-one, div-one, pow-suc, mod-eq_of_lt}
use native.Mathlib.Omega.{arith}
use lib.Dec.{ltb}
use lib.Pow.{pow_pos}
use lib.Bits.{bit_and, bit_or, and_mod, or_mod, and_le_r}
use borrow.Author.Tests.{lt-ltb, le-ltb}
use Rattle.laws.specs.Bits.{digit}
use Rattle.laws.proofs.Digits.{Bit, off, on, low, tri, mod_suc, div_suc, and_half, and_low, or_half, or_low}
use Rattle.fields.specs.Fields.{grow, fields, above_in}
use Rattle.fields.proofs.Sums.{cut, sum, sum_half, sum_low, keep, carry, clear, and_not, unwrap}

-- bit by bit, from the bottom: y < x + c passes on, and is kept at a top
cells_above : ℕ → ℕ → ℕ → ℕ → ℕ → ℕ
cells_above zero t q p c = zero
cells_above (suc n) t q p c =
    cells_above n (t / 2) (q / 2) (p / 2) (cut (t % 2) (digit (ltb (p % 2) (q % 2 + c)))) * 2 + min (digit (ltb (p % 2) (q % 2 + c))) (t % 2)

-- ---- bit by bit is syllable by syllable

pub ltb_cong : (a b c d : ℕ) → (a < b → c < d) → (c < d → a < b) → ltb a b ≡ ltb c d
ltb_cong a b c d f g =
    ⊎_elim (λ h. lt-ltb a b h ∙ sym (lt-ltb c d (f h)))
    (λ k. le-ltb a b (⊎_elim (λ e. omega arith) (λ h. omega arith) k) ∙ sym (le-ltb c d (no (⊎_elim (λ e. omega arith) (λ h. omega arith) k)))) (tri a b)
  where
    no : b ≤ a → d ≤ c
    no h = ⊎_elim (λ k. absurd (late (g k) h)) (⊎_elim (λ e. omega arith) (λ k. omega arith)) (tri c d)
      where
        late : a < b → b ≤ a → ⊥
        late p q = omega arith

lt_step : (P Q y x c : ℕ) → Bit y → Bit x → Bit c → ltb (P * 2 + y) (Q * 2 + x + c) ≡ ltb P (Q + digit (ltb y (x + c)))
lt_step P Q y x c off off off = ltb_cong (P * 2 + 0) (Q * 2 + 0 + 0) P (Q + 0) (λ h. omega arith) (λ h. omega arith)
lt_step P Q y x c off off on = ltb_cong (P * 2 + 0) (Q * 2 + 0 + 1) P (Q + 1) (λ h. omega arith) (λ h. omega arith)
lt_step P Q y x c off on off = ltb_cong (P * 2 + 0) (Q * 2 + 1 + 0) P (Q + 1) (λ h. omega arith) (λ h. omega arith)
lt_step P Q y x c off on on = ltb_cong (P * 2 + 0) (Q * 2 + 1 + 1) P (Q + 1) (λ h. omega arith) (λ h. omega arith)
lt_step P Q y x c on off off = ltb_cong (P * 2 + 1) (Q * 2 + 0 + 0) P (Q + 0) (λ h. omega arith) (λ h. omega arith)
lt_step P Q y x c on off on = ltb_cong (P * 2 + 1) (Q * 2 + 0 + 1) P (Q + 0) (λ h. omega arith) (λ h. omega arith)
lt_step P Q y x c on on off = ltb_cong (P * 2 + 1) (Q * 2 + 1 + 0) P (Q + 0) (λ h. omega arith) (λ h. omega arith)
lt_step P Q y x c on on on = ltb_cong (P * 2 + 1) (Q * 2 + 1 + 1) P (Q + 1) (λ h. omega arith) (λ h. omega arith)

digit_le : (b : Bool) → digit b ≤ 1
digit_le true = omega arith
digit_le false = omega arith

grown : (d : ℕ) (ks : List ℕ) (q p c : ℕ) → Bit d → Bit c → (d ≡ 0 → ks ≡ [] → ⊥)
    → above_in ks (q / 2) (p / 2) (cut d (digit (ltb (p % 2) (q % 2 + c)))) * 2 + min (digit (ltb (p % 2) (q % 2 + c))) d ≡ above_in (grow d ks) q p c
unfolding above_in
grown d [] q p c off r h = absurd (h refl refl)
grown d (k ∷ ks) q p c off r h =
    simp (mod_suc q (suc k), mod_suc p (suc k), div_suc q (suc k), div_suc p (suc k), lt_step (p / 2 % 2 ^ suc k) (q / 2 % 2 ^ suc k) (p % 2) (q % 2) c (low p) (low q) r)
    (rw (pow-suc 2 (suc k)) (rw (pow-suc 2 k) (omega arith)))
grown d ks q p c on r h = omega (arith, digit_le (ltb (p % 2) (q % 2 + c)))

pub grow_cons : (d : ℕ) (ks : List ℕ) → grow d ks ≡ [] → ⊥
grow_cons zero [] e = let z : ◌≡◌ {A = ℕ} 0 1 = cc in omega arith
grow_cons zero (k ∷ ks) e = let z : ◌≡◌ {A = ℕ} 0 1 = cc in omega arith
grow_cons (suc d) ks e = let z : ◌≡◌ {A = ℕ} 0 1 = cc in omega arith

over : (d : ℕ) (b : Bool) → Bit d → Bit (cut d (digit b))
over d true off = on
over d false off = off
over d b on = off

-- where the highest of the suc n bits is a top
gt_bits : (n t q p c : ℕ) → Bit c → t / 2 ^ n % 2 ≡ 1 → cells_above (suc n) t q p c ≡ above_in (fields (suc n) t) q p c
unfolding cells_above fields above_in
gt_bits zero t q p c r h = grown (t % 2) [] q p c (low t) r (λ e g. omega (arith, div-one t))
gt_bits (suc n) t q p c r h =
    ap (λ (x : ℕ). x * 2 + min (digit (ltb (p % 2) (q % 2 + c))) (t % 2))
    (gt_bits n (t / 2) (q / 2) (p / 2) _ (over (t % 2) (ltb (p % 2) (q % 2 + c)) (low t)) (rw (div_suc t n) at h))
    ∙ grown (t % 2) (fields (suc n) (t / 2)) q p c (low t) r (λ e g. grow_cons (t / 2 % 2) (fields n (t / 2 / 2)) g)

-- ---- the word-wide comparison: q is greater than p where q and the complement of p carry

carries : (x z d c : ℕ) → Bit x → Bit z → Bit d → Bit c → cut d (digit (ltb (1 - z) (x + c))) ≡ cut d ((x + z + c) / 2)
carries x z d c off off off off = refl
carries x z d c off off off on = refl
carries x z d c off off on off = refl
carries x z d c off off on on = refl
carries x z d c off on off off = refl
carries x z d c off on off on = refl
carries x z d c off on on off = refl
carries x z d c off on on on = refl
carries x z d c on off off off = refl
carries x z d c on off off on = refl
carries x z d c on off on off = refl
carries x z d c on off on on = refl
carries x z d c on on off off = refl
carries x z d c on on off on = refl
carries x z d c on on on off = refl
carries x z d c on on on on = refl

tops : (x z d c : ℕ) → Bit x → Bit z → Bit d → Bit c
    → min (max (min x z) (min (max x z) (keep d x z c))) d ≡ min (digit (ltb (1 - z) (x + c))) d
unfolding keep
tops x z d c off off off off = refl
tops x z d c off off off on = refl
tops x z d c off off on off = refl
tops x z d c off off on on = refl
tops x z d c off on off off = refl
tops x z d c off on off on = refl
tops x z d c off on on off = refl
tops x z d c off on on on = refl
tops x z d c on off off off = refl
tops x z d c on off off on = refl
tops x z d c on off on off = refl
tops x z d c on off on on = refl
tops x z d c on on off off = refl
tops x z d c on on off on = refl
tops x z d c on on on off = refl
tops x z d c on on on on = refl

unfoldable pub wide : ℕ → ℕ → ℕ → ℕ → ℕ
wide t q u s = bit_and (bit_or (bit_and q u) (bit_and (bit_or q u) s)) t

gt_wide : (n t q p u c : ℕ) → Bit c → p + u ≡ 2 ^ n - 1 → cells_above n t q p c ≡ wide t q u (sum q u t c) % 2 ^ n
unfolding cells_above wide
gt_wide zero t q p u c r h = sym (mod-one _)
gt_wide (suc n) t q p u c r h =
    let y : p % 2 ≡ 1 - u % 2 = omega (arith, pow_pos n) in
    let g : p / 2 + u / 2 ≡ 2 ^ n - 1 = omega (arith, pow_pos n) in
    let ih : cells_above n (t / 2) (q / 2) (p / 2) (cut (t % 2) ((q % 2 + u % 2 + c) / 2))
    ≡ wide (t / 2) (q / 2) (u / 2) (sum (q / 2) (u / 2) (t / 2) (cut (t % 2) ((q % 2 + u % 2 + c) / 2))) % 2 ^ n
    = gt_wide n (t / 2) (q / 2) (p / 2) (u / 2) _ (carry (q % 2) (u % 2) (t % 2) c (low q) (low u) (low t) r) g in
    simp (y, carries (q % 2) (u % 2) (t % 2) c (low q) (low u) (low t) r, ih)
    (sym (simp (mod_suc, and_half, and_low, or_half, or_low, sum_half q u t c r, sum_low q u t c r, tops (q % 2) (u % 2) (t % 2) c (low q) (low u) (low t) r)))

-- ---- in words of 64 bits

wide_wrap : (n t q u s : ℕ) → n ≤ 64 → wide t q u (s % 2 ^ 64) % 2 ^ n ≡ wide t q u s % 2 ^ n
unfolding wide
wide_wrap n t q u s h = simp (and_mod, or_mod, unwrap n s h)

wide_lt : (n t q u s : ℕ) → t < 2 ^ n → wide t q u s < 2 ^ n
unfolding wide
wide_lt n t q u s h = omega (arith, and_le_r (bit_or (bit_and q u) (bit_and (bit_or q u) s)) t)

at_tops : (m t q p : ℕ) → t / 2 ^ m % 2 ≡ 1 → cells_above (suc m) t q p 0 ≡ above_in (fields (suc m) t) q p 0
at_tops m t q p h = gt_bits m t q p 0 off h

plain : (q u t : ℕ) → clear q t + clear u t ≡ sum q u t 0
unfolding sum
plain q u t = omega arith

pub word_gt : (n t q p u : ℕ) → 0 < n → n ≤ 64 → t < 2 ^ n → t / 2 ^ (n - 1) % 2 ≡ 1 → q < 2 ^ 64 → t < 2 ^ 64 → u < 2 ^ 64 → p + u ≡ 2 ^ n - 1
    → wide t q u ((bit_and q (2 ^ 64 - 1 - t) + bit_and u (2 ^ 64 - 1 - t)) % 2 ^ 64) ≡ above_in (fields n t) q p 0
word_gt zero t q p u z h ht top hq h64 hu e = absurd (omega arith)
word_gt (suc m) t q p u z h ht top hq h64 hu e =
    let k : clear q t + clear u t ≡ sum q u t 0 = plain q u t in
    sym (mod-eq_of_lt (wide_lt (suc m) t q u _ ht))
    ∙ wide_wrap (suc m) t q u (bit_and q (2 ^ 64 - 1 - t) + bit_and u (2 ^ 64 - 1 - t)) h
    ∙ ap₂ (λ (x y : ℕ). wide t q u (x + y) % 2 ^ suc m) (and_not 64 q t hq h64) (and_not 64 u t hu h64)
    ∙ ap (λ (x : ℕ). wide t q u x % 2 ^ suc m) k
    ∙ sym (gt_wide (suc m) t q p u 0 off e)
    ∙ at_tops m t q p (ap (λ (x : ℕ). t / 2 ^ x % 2) (omega arith) ∙ top)
